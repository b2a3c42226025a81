use Rattle.std.proofs.Common.{◌≡◌, ◌⊎◌, inl, inr, ⊎_elim, ℕ, ◌+◌, ◌<◌, arith}
use Rattle.shadow_place.proofs.Widening.{widen_then}
use Rattle.shadow_place.proofs.needs.cover_arguments.Goals as goal

newest : (k i : ℕ) → k < i + 1 → (k < i) ⊎ (k ≡ i)
newest k i less = grind arith

pub loop-k-preserved : goal.loop-k-preserved
loop-k-preserved c =
    widen_then (λ s p. (s < c.loop-k.k) × (p ≡ 0)) (λ s p. (s ≡ c.loop-k.k) × (p ≡ 0)) (λ s p. (s < c.loop-k.k + 1) × (p ≡ 0)) c.args.spans.now.items c.loop-k.spans.items c.cover.new.spans.items
    (λ s p h. ⊎_elim (λ less. inl (less, h.1)) (λ e. inr (e, h.1)) (newest s c.loop-k.k h.0)) c.loop-k.invariant c.cover.ensures
