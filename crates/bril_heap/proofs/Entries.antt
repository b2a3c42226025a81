-- The cells of a block, as a list and as a map.
use Rattle.std.proofs.Common.{◌≡◌, ◌≢◌, ℕ, zero, suc, ◌<◌, true, List, [], ◌∷◌, length, set, replicate, Option, Some, None, inl, inr, refl, arith}
use Rattle.std.proofs.lemmas.Bool.{cases_eq, eq-eqb, ne_eqb}
use Rattle.std.proofs.lemmas.List.{length-replicate}
use Rattle.bril_tree.specs.declared.value.Value.{Value}
use Rattle.bril_tree.specs.Memory.{new_block}
use Rattle.bril_tree.specs.State.{with_value}
use Rattle.bril_heap.specs.Heap.{block_seen, entries_of}

entry-set_same : (cells : List (Option Value)) (n : ℕ) (v : Value) → n < length cells → entries_of (set cells n (Some v)) n ≡ Some v
entry-set_same [] n v inside = absurd (omega arith)
entry-set_same (x ∷ cells) zero v inside = refl
entry-set_same (x ∷ cells) (suc n) v inside = entry-set_same cells n v (omega arith)

entry-set_other : (cells : List (Option Value)) (n y : ℕ) (v : Value) → y ≢ n → entries_of (set cells n (Some v)) y ≡ entries_of cells y
entry-set_other [] n y v other = refl
entry-set_other (x ∷ cells) zero zero v other = absurd (other refl)
entry-set_other (x ∷ cells) zero (suc y) v other = refl
entry-set_other (x ∷ cells) (suc n) zero v other = refl
entry-set_other (x ∷ cells) (suc n) (suc y) v other = entry-set_other cells n y v (omega arith)

entry-set : (cells : List (Option Value)) (n : ℕ) (v : Value) → n < length cells → (y : ℕ) → entries_of (set cells n (Some v)) y ≡ with_value (entries_of cells) n v y
entry-set cells n v inside y = elim (cases_eq y n) [
  | inl same ↦ rw (eq-eqb y n same) (rw same (entry-set_same cells n v inside))
  | inr other ↦ rw (ne_eqb y n other) (entry-set_other cells n y v other)
]

-- the cells after a store
pub entries-set : (cells : List (Option Value)) (n : ℕ) (v : Value) → n < length cells → entries_of (set cells n (Some v)) ≡ with_value (entries_of cells) n v
entries-set cells n v inside = λ i y. entry-set cells n v inside y i

entry-replicate : (n y : ℕ) → entries_of (replicate n None) y ≡ None
entry-replicate zero y = refl
entry-replicate (suc n) zero = refl
entry-replicate (suc n) (suc y) = entry-replicate n y

-- a new block
pub new_block-seen : (n : ℕ) → block_seen (record { is_live = true; cells = replicate n None }) ≡ new_block n
new_block-seen n =
    let none : Option Value = None in
    λ i. record { size = length-replicate n none i; is_live = true; cells = λ y. entry-replicate n y i }
