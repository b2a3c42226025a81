use Rattle.std.proofs.Common.{◌≡◌, length}
use Rattle.flow_graph.proofs.Turns.{IsSearching, left}
use Rattle.flow_graph.proofs.search.first_visits.Given as goal

abbrev pub invariant-branches : goal.invariant-branches
invariant-branches l = record {
  search : IsSearching l.code l.visits.items l.waiting.items;
  rows : length l.rows ≡ length l.visits.items;
}

abbrev pub decreases-branches : goal.decreases-branches
decreases-branches l = left l.visits.items l.waiting.items
