use Rattle.side_laws.proofs.lemmas.layout.Bound.{bounds-short}
use Rattle.side_laws.proofs.laws.side_bounds_are_short.Goals as goal

pub returns : goal.returns
returns c = bounds-short
