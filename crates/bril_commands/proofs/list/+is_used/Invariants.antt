use Rattle.std.proofs.Common.{length}
use Rattle.bril_commands.proofs.list.+is_used.Given as goal

abbrev pub decreases-is_used : goal.decreases-is_used
decreases-is_used g l = length l.names.now
