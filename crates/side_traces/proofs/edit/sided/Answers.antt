use Rattle.std.proofs.Common.{rules, subst}
use Rattle.std.proofs.lemmas.Result.{IfOk-weaker}
use Rattle.bril_tree.specs.declared.function_tree.FuncTree.{FuncTree}
use Rattle.side_traces.specs.Made.{IsSidedBy}
use Rattle.side_traces.proofs.Inside.{pairs-inside}
use Rattle.side_traces.proofs.Made.{tree-sided}
use Rattle.side_traces.proofs.edit.sided.Goals as goal

pub each_function-requires-clause-takes : goal.each_function-requires-clause-takes
each_function-requires-clause-takes c = λ number lent tree of.
    let inside = pairs-inside c.args.prog.now c.requires.accepted number lent.now of.there in
    search rules

pub returns : goal.returns
returns c =
    IfOk-weaker c.each_function.result _ _
    (λ made e. tree-sided _ c.args.prog.now made e (λ f F g given.
    let same = given.same in
    let gave = given.gave in
    let is : IsSidedBy F given.function g = search rules in
    subst (λ (t : FuncTree). IsSidedBy F t g) given.of.tree is)) c.each_function.ensures
