use Rattle.std.proofs.Common.{rules}
use Rattle.std.proofs.lemmas.Result.{IfOk-weaker}
use Rattle.pass_make.proofs.Each.{zip-each}
use Rattle.dead_code.specs.Emptied.{IsClearedTree}
use Rattle.dead_code.specs.Work.{IsEmptiedFunction}
use Rattle.dead_code.proofs.Made.{cleared-function}
use Rattle.dead_code.proofs.edit.deadened.Goals as goal

pub returns : goal.returns
returns c =
    let P = c.args.prog.now in
    IfOk-weaker c.each_function.result _ (IsClearedTree P)
    (λ tree e. record {
      imports = e.imports;
      functions = zip-each e (λ f F g given.
          let made : IsEmptiedFunction F given.function g = (let same = given.same in let gave = given.gave in search rules) in
          cleared-function P F given.function g given.of.tree made);
    }) c.each_function.ensures
