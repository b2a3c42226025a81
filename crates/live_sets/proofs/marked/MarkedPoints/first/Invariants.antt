use Rattle.std.proofs.Common.{◌≡◌, ◌<◌, ℕ, get_or, true, false}
use Rattle.live_sets.proofs.marked.MarkedPoints.first.Given as goal

-- none before is marked
abbrev pub invariant-loop-point : goal.invariant-loop-point
invariant-loop-point l = (k : ℕ) → k < l.point → get_or l.self.marks.items k false ≡ true → ⊥
