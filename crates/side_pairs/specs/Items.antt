-- What an item is, as the program has it.
use Rattle.side_laws.specs.Paired as paired
use Rattle.side_pairs.specs.declared.items.Place.{Place}
use Rattle.side_pairs.specs.declared.items.Place.TheVariants.{Within, Commits, Breaks}

abbrev pub place_of : Place → paired.Place
place_of Within = paired.Within
place_of Commits = paired.Commits
place_of Breaks = paired.Breaks
