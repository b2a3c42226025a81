use Rattle.std.proofs.Common.{◌≡◌, ◌↔◌, ℕ, false, take}
use Rattle.std.specs.List.{Contains}
use Rattle.graph_search.specs.Marks.{is_marked}
use Rattle.dead_code.proofs.work.Work.alive.Given as goal

abbrev pub invariant-loop-item : goal.invariant-loop-item
invariant-loop-item l = (item : ℕ) → Contains l.alive.items item ↔ (Contains (take l.item-index l.items) item × (is_marked l.self.dead.items item ≡ false))
