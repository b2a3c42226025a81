use Rattle.std.proofs.Common.{length}
use Rattle.bril_commands.proofs.list.+first_name.Given as goal

abbrev pub decreases-first_name : goal.decreases-first_name
decreases-first_name g l = length l.names.now
