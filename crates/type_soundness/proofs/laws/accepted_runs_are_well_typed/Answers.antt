use Rattle.type_soundness.proofs.Soundness.{runs_are_well_typed}
use Rattle.type_soundness.proofs.laws.accepted_runs_are_well_typed.Goals as goal

pub returns : goal.returns
returns c = runs_are_well_typed
