-- Fewer commands are left.
use Rattle.std.proofs.Common.{length}
use Rattle.bril_words.proofs.subcommands.+first_named.Given as goal

abbrev pub decreases-first_named : goal.decreases-first_named
decreases-first_named l = length l.subcommands.now
