use Rattle.std.proofs.Common.{length, ◌-◌}
use Rattle.bril_commands.proofs.list.+tell_from.Given as goal

abbrev pub decreases-tell_from : goal.decreases-tell_from
decreases-tell_from g l = length l.passes.now - l.place
