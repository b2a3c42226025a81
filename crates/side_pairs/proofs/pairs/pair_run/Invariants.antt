use Rattle.std.proofs.Common.{◌≡◌, ◌+◌, ◌≤◌, drop, length}
use Rattle.std.specs.Prelude.{slice_get}
use Rattle.side_laws.specs.Paired.{Commits, item_place}
use Rattle.side_pairs.specs.Runs.{run_of}
use Rattle.side_pairs.proofs.Adding.{Continues}
use Rattle.side_pairs.proofs.pairs.pair_run.Given as goal

abbrev pub invariant-items : goal.invariant-items
invariant-items l = record {
  closes : item_place (slice_get l.code (l.spot.item + l.spot.room)) ≡ Commits;
  first : l.first ≤ length l.draft.kept;
  goes : Continues l.code (run_of l.run) l.fn.draft.pairs l.run.bail l.spot (drop l.first l.draft.kept) l.draft.pairs;
}

abbrev pub decreases-items : goal.decreases-items
decreases-items l = l.spot.room
