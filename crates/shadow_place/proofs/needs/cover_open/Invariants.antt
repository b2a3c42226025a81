use Rattle.std.proofs.Common.{◌≡◌, ◌<◌, ℕ, slice_index}
use Rattle.std.specs.Prelude.{IsTrue}
use Rattle.bril_tree.specs.Operand.{Location}
use Rattle.flow_graph.specs.Location.{number_of}
use Rattle.live_sets.specs.Liveness.{is_live}
use Rattle.shadow_place.specs.Spans.{IsInside, Widens}
use Rattle.shadow_place.proofs.needs.cover_open.Given as goal

-- the slots so far
abbrev pub invariant-loop-slot : goal.invariant-loop-slot
invariant-loop-slot l = Widens (λ s point. (k : ℕ) × (k < l.slot) × ((s ≡ k) × ((x : Location) × (number_of x ≡ slice_index l.numbers k) × IsTrue (is_live l.live x l.site)) × IsInside l.span point)) l.fn.spans.items l.spans.items
