-- What is left is past as many items as are left, in the same place.
use Rattle.std.proofs.Common.{◌≡◌}
use Rattle.source_places.specs.Search.{past_items}
use Rattle.source_places.proofs.search.past_items.Given as goal

abbrev pub invariant-loop-left : goal.invariant-loop-left
invariant-loop-left l = past_items l.left l.rest ≡ past_items l.fn.items l.fn.signs

abbrev pub decreases-loop-left : goal.decreases-loop-left
decreases-loop-left l = l.left
