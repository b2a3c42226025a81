-- A paired guard as the program has it, and as definitions do.
use Rattle.side_laws.specs.Paired.{Pair}
use Rattle.side_pairs.specs.declared.pairs.PairedGuard.{PairedGuard}

abbrev pub pair_of : PairedGuard → Pair
pair_of p = record { guard = p.guard; bail = p.bail; kept = p.kept.now; other = p.other }
