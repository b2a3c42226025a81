use Rattle.std.proofs.Common.{length}
use Rattle.pass_law.proofs.list.+run_named.Given as goal

abbrev pub decreases-run_named : goal.decreases-run_named
decreases-run_named g l = length l.passes.now
