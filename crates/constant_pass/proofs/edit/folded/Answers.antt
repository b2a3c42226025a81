use Rattle.std.proofs.Common.{rules}
use Rattle.std.proofs.lemmas.Result.{IfOk-weaker}
use Rattle.pass_make.proofs.Each.{zip-each}
use Rattle.constant_pass.specs.Edit.{IsMadeByTable}
use Rattle.constant_pass.specs.Folded.{IsFoldedTree}
use Rattle.constant_pass.proofs.Editing.{made-function}
use Rattle.constant_pass.proofs.edit.folded.Goals as goal

pub returns : goal.returns
returns c =
    let P = c.args.prog.now in
    IfOk-weaker c.each_function.result _ (IsFoldedTree P)
    (λ tree e. record {
      imports = e.imports;
      functions = zip-each e (λ f F g given.
          let made : IsMadeByTable F given.function g = (let same = given.same in let gave = given.gave in search rules) in
          made-function P F given.function g given.of.tree made);
    }) c.each_function.ensures
