-- The text was put and handed on, or one of the two failed.
use Rattle.std.proofs.Common.{◌≡◌, [], ◌∷◌, refl}
use Rattle.bril_report.specs.StageFaults.{status_of}
use Rattle.bril_commands.proofs.Works.{Works-told}
use Rattle.bril_commands.proofs.output.put_alone.Goals as goal

pub returns : goal.returns
returns g c =
    Works-told [] (λ output. output ≡ c.args.text.now ∷ []) (c.args.text.now ∷ []) refl (status_of c.put_text.result) _ _ c.put_text.ensures
