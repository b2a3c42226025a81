use Rattle.std.proofs.Common.{rules, subst}
use Rattle.std.proofs.lemmas.Result.{IfOk-weaker}
use Rattle.trace_laws.specs.lines.Lines.{bool_type}
use Rattle.trace_laws.specs.lines.Traced.{IsTracedFunction}
use Rattle.trace_stitcher.specs.Inserted.{IsTracedBy}
use Rattle.trace_stitcher.proofs.Functions.{all-inside, function-traced, tree-laid}
use Rattle.bril_tree.specs.declared.function_tree.FuncTree.{FuncTree}
use Rattle.trace_stitcher.proofs.edit.traced.Goals as goal

pub each_function-requires-clause-takes : goal.each_function-requires-clause-takes
each_function-requires-clause-takes c = λ number lent tree of.
    let inside = all-inside c.args.prog.now number lent.now of.there tree of.tree of.long c.args.fits.now c.requires.paths in
    search rules

pub returns : goal.returns
returns c =
    let P = c.args.prog.now in
    let fits = c.args.fits.now in
    IfOk-weaker c.each_function.result _ _
    (λ made e laid are. tree-laid _ P laid made e (λ f F g given.
    let same = given.same in
    let gave = given.gave in
    let is : IsTracedBy F f fits given.function g = search rules in
    subst (λ (t : FuncTree). IsTracedFunction P bool_type laid f t g) given.of.tree (function-traced P f F given.of.there given.function given.of.tree given.of.long fits c.requires.paths g is.by_names laid are))) c.each_function.ensures
