-- Spans of slots.
use Rattle.std.proofs.Common.{◌≡◌, ◌⊎◌, inl, inr, ⊎_elim, ℕ, ◌+◌, ◌<◌, ◌≤◌, List, length, Some, refl, sym, ap, ◌∙◌, subst, arith}
use Rattle.std.specs.Prelude.{IsTrue, slice_get, slice_index}
use Rattle.std.proofs.lemmas.Option.{get_or_from_slice_get, same_Some, slice_get_within}
use Rattle.bril_tree.specs.Operand.{Location}
use Rattle.flow_graph.specs.Location.{number_of}
use Rattle.live_sets.specs.declared.live.Live.{Live}
use Rattle.live_sets.specs.Liveness.{is_live}
use Rattle.shadow_place.specs.declared.spans.Span.{Span}
use Rattle.shadow_place.specs.Spans.{IsInside, IsLiveSlot, IsOpenSlot, Widens}
use Rattle.shadow_place.proofs.Widening.{widen_for, widen_then}

module _ (live : Live) (numbers : List ℕ) where
  -- so many slots are all
  pub live_slots : (end : ℕ) (old new : List Span) → length numbers ≤ end → Widens (λ s point. (k : ℕ) × (k < end) × ((s ≡ k) × ((x : Location) × (number_of x ≡ slice_index numbers k) × IsTrue (is_live live x point)))) old new →
      Widens (λ slot point. IsLiveSlot live numbers point slot) old new
  live_slots end old new all w =
      widen_for (λ s point. (k : ℕ) × (k < end) × ((s ≡ k) × ((x : Location) × (number_of x ≡ slice_index numbers k) × IsTrue (is_live live x point)))) (λ slot point. IsLiveSlot live numbers point slot) old new
      (λ n p h. (n, (let within = slice_get_within numbers n (number_of h.0) h.1 in omega arith), (refl, (h.0, sym (get_or_from_slice_get numbers n (number_of h.0) 0 h.1), h.2)))) w

  pub open_slots : (end site : ℕ) (span : Span) (old new : List Span) → length numbers ≤ end → Widens (λ s point. (k : ℕ) × (k < end) × ((s ≡ k) × ((x : Location) × (number_of x ≡ slice_index numbers k) × IsTrue (is_live live x site)) × IsInside span point)) old new →
      Widens (λ slot point. IsLiveSlot live numbers site slot × IsInside span point) old new
  open_slots end site span old new all w =
      widen_for (λ s point. (k : ℕ) × (k < end) × ((s ≡ k) × ((x : Location) × (number_of x ≡ slice_index numbers k) × IsTrue (is_live live x site)) × IsInside span point)) (λ slot point. IsLiveSlot live numbers site slot × IsInside span point) old new
      (λ n p h. (n, (let within = slice_get_within numbers n (number_of h.0.0) h.0.1 in omega arith), (refl, (h.0.0, sym (get_or_from_slice_get numbers n (number_of h.0.0) 0 h.0.1), h.0.2), h.1))) w

  -- one site more
  pub open_more : (sites : List Span) (i : ℕ) (span : Span) (old middle new : List Span) → slice_get sites i ≡ Some span → Widens (IsOpenSlot live numbers sites i) old middle → Widens (λ slot point. IsLiveSlot live numbers i slot × IsInside span point) middle new →
      Widens (IsOpenSlot live numbers sites (i + 1)) old new
  open_more sites i span old middle new here a b = widen_then (IsOpenSlot live numbers sites i) (λ slot point. IsLiveSlot live numbers i slot × IsInside span point) (IsOpenSlot live numbers sites (i + 1)) old middle new split a b
    where
      newest : (k : ℕ) → k < i + 1 → (k ≡ i) ⊎ (k < i)
      newest k less = grind arith

      split : (n p : ℕ) → IsOpenSlot live numbers sites (i + 1) n p → IsOpenSlot live numbers sites i n p ⊎ (IsLiveSlot live numbers i n × IsInside span p)
      split n p h = ⊎_elim last before (newest h.0 h.2)
        where
          last : h.0 ≡ i → IsOpenSlot live numbers sites i n p ⊎ (IsLiveSlot live numbers i n × IsInside span p)
          last e =
              let same : h.1 ≡ span = same_Some h.1 span (sym h.3 ∙ (ap (slice_get sites) e ∙ here)) in
              inr (subst (λ k. IsLiveSlot live numbers k n) e h.5, subst (λ s. IsInside s p) same h.4)

          before : h.0 < i → IsOpenSlot live numbers sites i n p ⊎ (IsLiveSlot live numbers i n × IsInside span p)
          before less = inl (h.0, h.1, less, h.3, h.4, h.5)
