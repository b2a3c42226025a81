use Rattle.std.proofs.Common.{◌≡◌, ◌≤◌, drop, length}
use Rattle.side_laws.specs.Sided.{sided_items}
use Rattle.side_traces.proofs.guards.retarget_all.Given as goal

abbrev pub invariant-loop-place : goal.invariant-loop-place
invariant-loop-place l = record {
  within : l.place ≤ length l.exits;
  same : l.items.items ≡ sided_items (drop l.place l.exits) 0 l.initial.items.items;
}

abbrev pub decreases-loop-place : goal.decreases-loop-place
decreases-loop-place l = l.place
