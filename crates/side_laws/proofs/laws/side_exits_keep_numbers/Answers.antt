use Rattle.side_laws.proofs.lemmas.growth.Widths.{exits-keep_numbers}
use Rattle.side_laws.proofs.laws.side_exits_keep_numbers.Goals as goal

pub returns : goal.returns
returns c = exits-keep_numbers
