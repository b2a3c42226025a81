use Rattle.ssa_laws.proofs.lemmas.layout.Once.{defined-once}
use Rattle.ssa_laws.proofs.layout.laws.definitions_stand_once.Goals as goal

pub returns : goal.returns
returns c = defined-once
