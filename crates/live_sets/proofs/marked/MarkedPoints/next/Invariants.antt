use Rattle.std.proofs.Common.{◌≡◌, ◌<◌, ◌≤◌, ℕ, get_or, true, false}
use Rattle.live_sets.proofs.marked.MarkedPoints.next.Given as goal

-- none from `from` on and before is marked
abbrev pub invariant-loop-point : goal.invariant-loop-point
invariant-loop-point l = record {
  from : l.from ≤ l.point;
  none : (k : ℕ) → l.from ≤ k → k < l.point → get_or l.self.marks.items k false ≡ true → ⊥;
}
