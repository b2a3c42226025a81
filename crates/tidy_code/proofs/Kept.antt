-- Where kept items stand.
use Rattle.std.proofs.Common.{◌≡◌, ℕ, zero, suc, ◌+◌, ◌<◌, Bool, true, false, List, [], ◌∷◌, length, Option, None, refl, sym, ap, ◌∙◌, cond, arith}
use Rattle.std.specs.Prelude.{slice_get}
use Rattle.tidy_code.proofs.Points.{kept_items, kept_count}

either-branch : {X : Type 0} (b : Bool) (x : X) (xs : List X) (n m : ℕ) (o : Option X) → slice_get xs n ≡ o → slice_get (cond b (x ∷ xs) xs) (cond b (suc n) n) ≡ o
either-branch true x xs n m o e = e
either-branch false x xs n m o e = e

module _ (keep : ℕ → Bool) where
  -- the item at a number, where it is kept
  pub kept-at : {X : Type 0} (i n : ℕ) (xs : List X) → n < length xs → keep (i + n) ≡ true → slice_get (kept_items keep i xs) (kept_count keep i n) ≡ slice_get xs n
  kept-at i n [] less e = absurd (omega arith)
  kept-at i zero (x ∷ xs) less e =
      let here : keep i ≡ true = (let z : i + zero ≡ i = omega arith in ap keep (sym z) ∙ e) in
      ap (λ b. slice_get (cond b (x ∷ kept_items keep (suc i) xs) (kept_items keep (suc i) xs)) 0) here
  kept-at i (suc n) (x ∷ xs) less e =
      either-branch (keep i) x (kept_items keep (suc i) xs) (kept_count keep (suc i) n) 0 (slice_get xs n)
      (kept-at (suc i) n xs (omega arith) (let z : suc i + n ≡ i + suc n = omega arith in ap keep z ∙ e))

  -- past the last
  pub kept-end : {X : Type 0} (i : ℕ) (xs : List X) → slice_get (kept_items keep i xs) (kept_count keep i (length xs)) ≡ None
  kept-end i [] = refl
  kept-end i (x ∷ xs) = either-branch (keep i) x (kept_items keep (suc i) xs) (kept_count keep (suc i) (length xs)) 0 None (kept-end (suc i) xs)

  -- one more
  pub count-kept : (i n : ℕ) → keep (i + n) ≡ true → kept_count keep i (suc n) ≡ suc (kept_count keep i n)
  count-kept i zero e = let here : keep i ≡ true = (let z : i + zero ≡ i = omega arith in ap keep (sym z) ∙ e) in ap (λ b. cond b 1 0) here
  count-kept i (suc n) e =
      let r = count-kept (suc i) n (let z : suc i + n ≡ i + suc n = omega arith in ap keep z ∙ e) in by_test (keep i) _ _ r
    where
      by_test : (b : Bool) (x y : ℕ) → x ≡ suc y → cond b (suc x) x ≡ suc (cond b (suc y) y)
      by_test true x y e = ap suc e
      by_test false x y e = e

  pub count-dropped : (i n : ℕ) → keep (i + n) ≡ false → kept_count keep i (suc n) ≡ kept_count keep i n
  count-dropped i zero e = let here : keep i ≡ false = (let z : i + zero ≡ i = omega arith in ap keep (sym z) ∙ e) in ap (λ b. cond b 1 0) here
  count-dropped i (suc n) e =
      let r = count-dropped (suc i) n (let z : suc i + n ≡ i + suc n = omega arith in ap keep z ∙ e) in ap (λ m. cond (keep i) (suc m) m) r

  pub kept-length : {X : Type 0} (i : ℕ) (xs : List X) → length (kept_items keep i xs) ≡ kept_count keep i (length xs)
  kept-length i [] = refl
  kept-length i (x ∷ xs) = by_test (keep i) (kept-length (suc i) xs)
    where
      by_test : (b : Bool) → length (kept_items keep (suc i) xs) ≡ kept_count keep (suc i) (length xs) → length (cond b (x ∷ kept_items keep (suc i) xs) (kept_items keep (suc i) xs)) ≡ cond b (suc (kept_count keep (suc i) (length xs))) (kept_count keep (suc i) (length xs))
      by_test true e = ap suc e
      by_test false e = e

  -- the number of the kept item at an index
  pub record KeptAt (i n j : ℕ) : Type 0 where
    pub index : ℕ
    pub within : index < n
    pub keeps : keep (i + index) ≡ true
    pub count : kept_count keep i index ≡ j

  pub kept_index : (i n j : ℕ) → j < kept_count keep i n → KeptAt i n j
  kept_index i zero j less = absurd (omega arith)
  kept_index i (suc n) j less = by_test (keep i) refl j less (λ k. kept_index (suc i) n k)
    where
      by_test : (b : Bool) → keep i ≡ b → (j : ℕ) → j < cond b (suc (kept_count keep (suc i) n)) (kept_count keep (suc i) n) → ((k : ℕ) → k < kept_count keep (suc i) n → KeptAt (suc i) n k) → KeptAt i (suc n) j
      by_test true e zero less rest = record { index = 0; within = omega arith; keeps = (let z : i + 0 ≡ i = omega arith in ap keep z ∙ e); count = refl }
      by_test true e (suc j) less rest =
          let r = rest j (omega arith) in
          record { index = suc r.index; within = (let w = r.within in omega arith); keeps = (let z : i + suc r.index ≡ suc i + r.index = omega arith in ap keep z ∙ r.keeps); count = ap (λ b. cond b (suc (kept_count keep (suc i) r.index)) (kept_count keep (suc i) r.index)) e ∙ ap suc r.count }
      by_test false e j less rest =
          let r = rest j less in
          record { index = suc r.index; within = (let w = r.within in omega arith); keeps = (let z : i + suc r.index ≡ suc i + r.index = omega arith in ap keep z ∙ r.keeps); count = ap (λ b. cond b (suc (kept_count keep (suc i) r.index)) (kept_count keep (suc i) r.index)) e ∙ r.count }
