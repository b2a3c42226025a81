-- The line begins here as far as is known.
use Rattle.source_places.specs.Place.{BeginsLine}
use Rattle.source_places.proofs.place.line_start.Given as goal

abbrev pub invariant-loop-i : goal.invariant-loop-i
invariant-loop-i l = BeginsLine l.source l.i l.from
