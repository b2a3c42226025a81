use Rattle.std.proofs.Common.{rules, subst}
use Rattle.std.proofs.lemmas.Result.{IfOk-weaker}
use Rattle.bril_tree.specs.declared.function_tree.FuncTree.{FuncTree}
use Rattle.pass_make.proofs.Each.{zip-each}
use Rattle.tidy_code.specs.Tidied.{IsTidiedFunction, IsTidiedTree}
use Rattle.tidy_code.proofs.edit.tidied.Goals as goal

pub returns : goal.returns
returns c =
    IfOk-weaker c.each_function.result _ (IsTidiedTree c.args.prog.now)
    (λ tree e. record { imports = e.imports; functions = zip-each e (λ f F g given. let of = given.of in let same = given.same in let gave = given.gave in subst (λ (t : FuncTree). IsTidiedFunction F.code t g) of.tree (search rules)) }) c.each_function.ensures
