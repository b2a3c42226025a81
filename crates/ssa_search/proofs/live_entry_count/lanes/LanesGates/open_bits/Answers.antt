use Rattle.std.proofs.Common.{◌≡◌, ◌+◌, ◌*◌, Some, sym, ap, ◌∙◌, true, arith}
use Rattle.std.specs.Prelude.{slice_index}
use Rattle.std.proofs.lemmas.Bool.{ltb-true}
use Rattle.std.proofs.lemmas.List.{get_or_past}
use Rattle.graph_search.proofs.WordBits.{no-bits}
use Rattle.ssa_search.specs.placing.Blocks.{passes_to}
use Rattle.ssa_search.proofs.live_entry_count.lanes.LanesGates.open_bits.Goals as goal

pub returns-then-arc-len : goal.returns-then-arc-len
returns-then-arc-len c = λ k small. (
  (λ h. absurd (no-bits k h)),
  (λ h.
      let points = c.args.self.now.points.items in
      let place = 64 * c.args.arc.to + k in
      let long = c.args.self.now.long in
      let over = c.if-arc-len.true in
      let count = c.len.ensures in
      let none = get_or_past points place 0 (omega (arith, long, over, count)) in
      let passes : passes_to (slice_index points place) (Some c.in-Some.point) ≡ true = ap (passes_to (slice_index points place)) (sym c.in-Some.is) ∙ h in
      let less = ltb-true c.in-Some.point (slice_index points place) passes in
      absurd (omega (arith, less, none))),
)
