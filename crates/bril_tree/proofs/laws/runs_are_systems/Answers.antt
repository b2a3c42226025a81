use Rattle.bril_tree.proofs.Grows.{program_is_system}
use Rattle.bril_tree.proofs.laws.runs_are_systems.Goals as goal

pub returns : goal.returns
returns c = program_is_system
