use Rattle.type_soundness.proofs.Soundness.{loads_suit}
use Rattle.type_soundness.proofs.laws.accepted_loads_are_well_typed.Goals as goal

pub returns : goal.returns
returns c = loads_suit
