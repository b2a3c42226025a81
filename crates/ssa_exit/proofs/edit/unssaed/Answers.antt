use Rattle.std.proofs.Common.{rules}
use Rattle.std.proofs.lemmas.Result.{IfOk-weaker}
use Rattle.pass_make.proofs.Each.{zip-each}
use Rattle.ssa_exit.specs.Unssaed.{IsLeftFunction, IsUnssaedTree}
use Rattle.ssa_exit.proofs.Made.{made-function}
use Rattle.ssa_exit.proofs.edit.unssaed.Goals as goal

pub returns : goal.returns
returns c =
    let P = c.args.prog.now in
    IfOk-weaker c.each_function.result _ (IsUnssaedTree P)
    (λ tree e. record {
      imports = e.imports;
      functions = zip-each e (λ f F g given.
          let left : IsLeftFunction F given.function g = (let same = given.same in let gave = given.gave in search rules) in
          made-function P F given.function g given.of.tree left);
    }) c.each_function.ensures
