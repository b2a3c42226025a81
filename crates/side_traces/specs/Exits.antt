-- A side exit as the program has it, and as definitions do.
use Rattle.side_laws.specs.Sided.{SideExit}
use Rattle.side_pairs.specs.Pairs.{pair_of}
use Rattle.side_traces.specs.declared.exits.Exit.{Exit}

abbrev pub exit_of : Exit → SideExit
exit_of e = record { pair = pair_of e.pair; name = e.name.now }
