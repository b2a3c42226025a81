use Rattle.trace_paths.proofs.Short.{paths_are_short}
use Rattle.trace_paths.proofs.laws.paths_are_short.Goals as goal

pub returns : goal.returns
returns c = paths_are_short
