use Rattle.std.proofs.Common.{rules, subst}
use Rattle.std.proofs.lemmas.Result.{IfOk-weaker}
use Rattle.bril_tree.specs.declared.function_tree.FuncTree.{FuncTree}
use Rattle.pass_make.proofs.Each.{zip-each}
use Rattle.ssa_build.proofs.lemmas.operands.Accepted.{accepted-tabled}
use Rattle.ssa_build.specs.tree.Made.{IsLaidFunction, IsLaidTree}
use Rattle.ssa_search.specs.gets.Wants.{AreWantsOf, WantsView, gets_of}
use Rattle.ssa_build.proofs.tree.tree.ssa_tree.Goals as goal

pub each_function-requires-clause-takes : goal.each_function-requires-clause-takes
each_function-requires-clause-takes c = λ number lent function of.
    let tabled = λ (v : WantsView) (is : AreWantsOf lent.now v). accepted-tabled c.args.prog.now c.requires.accepted number lent.now of.there (gets_of v) is.wanted in
    search rules

pub returns : goal.returns
returns c =
    IfOk-weaker c.each_function.result _ (IsLaidTree c.args.prog.now)
    (λ tree e. record {
      imports = e.imports;
      functions = zip-each e (λ f F g given.
          let laid : IsLaidFunction F given.function g = (let same = given.same in let gave = given.gave in search rules) in
          subst (λ (t : FuncTree). IsLaidFunction F t g) given.of.tree laid);
    }) c.each_function.ensures
