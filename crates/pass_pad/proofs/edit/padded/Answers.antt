use Rattle.std.proofs.Common.{rules}
use Rattle.std.proofs.lemmas.Result.{IfOk-weaker}
use Rattle.pass_make.proofs.Each.{zip-each}
use Rattle.pass_pad.proofs.Made.{all-padded}
use Rattle.pass_pad.proofs.edit.padded.Goals as goal

pub returns : goal.returns
returns c = IfOk-weaker c.each_function.result _ _ (λ made e. all-padded c.args.prog.now made e.imports (zip-each e (λ f F g given. search rules))) c.each_function.ensures
