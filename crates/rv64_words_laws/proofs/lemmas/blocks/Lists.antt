-- Lists of blocks with one more, and with one changed.
use Rattle.std.proofs.Common.{◌≡◌, ◌≢◌, ℕ, zero, suc, ◌+◌, ◌⊎◌, inl, inr, refl, ap, arith, List, [], ◌∷◌, ◌++◌, length, Some, None}
use Rattle.std.specs.Prelude.{slice_get}
use Rattle.std.proofs.lemmas.Option.{same_Some}
use Rattle.bril_tree.specs.Memory.{changed}
use Rattle.bril_tree.specs.State.{Block}

-- ---- one block more

pub pushed : (xs : List Block) (x : Block) (k : ℕ) (y : Block) → slice_get (xs ++ x ∷ []) k ≡ Some y → (slice_get xs k ≡ Some y) ⊎ ((k ≡ length xs) × (x ≡ y))
pushed [] x zero y e = inr (refl, same_Some x y e)
pushed [] x (suc k) y e = absurd (let f : None ≡ Some y = e in cc)
pushed (z ∷ xs) x zero y e = inl e
pushed (z ∷ xs) x (suc k) y e = by (pushed xs x k y e)
  where
    by : (slice_get xs k ≡ Some y) ⊎ ((k ≡ length xs) × (x ≡ y)) → (slice_get xs k ≡ Some y) ⊎ ((suc k ≡ suc (length xs)) × (x ≡ y))
    by (inl f) = inl f
    by (inr f) = inr (ap suc f.0, f.1)

pub pushed_length : (xs : List Block) (x : Block) → length (xs ++ x ∷ []) ≡ suc (length xs)
pushed_length [] x = refl
pushed_length (y ∷ xs) x = ap suc (pushed_length xs x)

-- ---- one block changed

module _ (change : Block → Block) where
  pub changed_length : (xs : List Block) (k : ℕ) → length (changed xs k change) ≡ length xs
  changed_length [] k = refl
  changed_length (x ∷ xs) zero = refl
  changed_length (x ∷ xs) (suc k) = ap suc (changed_length xs k)

  -- a block of the new list is the changed one or another
  pub record IsChanged (xs : List Block) (k j : ℕ) (y : Block) : Type 0 where
    pub place : j ≡ k
    pub old : Block
    pub here : slice_get xs k ≡ Some old
    pub is : change old ≡ y

  pub record IsOther (xs : List Block) (k j : ℕ) (y : Block) : Type 0 where
    pub place : j ≢ k
    pub here : slice_get xs j ≡ Some y

  pub changed_at : (xs : List Block) (k j : ℕ) (y : Block) → slice_get (changed xs k change) j ≡ Some y → IsChanged xs k j y ⊎ IsOther xs k j y
  changed_at [] k j y e = absurd (let f : None ≡ Some y = e in cc)
  changed_at (x ∷ xs) zero zero y e = inl (record { place = refl; old = x; here = refl; is = same_Some (change x) y e })
  changed_at (x ∷ xs) zero (suc j) y e = inr (record { place = λ p. absurd (omega arith); here = e })
  changed_at (x ∷ xs) (suc k) zero y e = inr (record { place = λ p. absurd (omega arith); here = e })
  changed_at (x ∷ xs) (suc k) (suc j) y e = by (changed_at xs k j y e)
    where
      by : IsChanged xs k j y ⊎ IsOther xs k j y → IsChanged (x ∷ xs) (suc k) (suc j) y ⊎ IsOther (x ∷ xs) (suc k) (suc j) y
      by (inl h) = inl (record { place = ap suc h.place; old = h.old; here = h.here; is = h.is })
      by (inr h) = inr (record { place = λ p. h.place (omega arith); here = h.here })
