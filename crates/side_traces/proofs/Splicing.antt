-- Items with the rows that stand before them.
use Rattle.std.proofs.Common.{◌≡◌, ℕ, suc, ◌+◌, List, [], ◌∷◌, ◌++◌, length, append_assoc, refl, sym, ap, ◌∙◌, arith}
use Rattle.pass_edit_laws.specs.plan.Spliced.{spliced}
use Rattle.side_traces.specs.Rows.{with_rows}

module _ {X : Type 0} (before : ℕ → List X) where
  -- one more
  rows-push : (k : ℕ) (xs : List X) (x : X) → with_rows before k (xs ++ x ∷ []) ≡ with_rows before k xs ++ (before (k + length xs) ++ x ∷ [])
  rows-push k [] x = let e : k ≡ k + 0 = omega arith in ap (λ n. before n ++ x ∷ []) e
  rows-push k (y ∷ xs) x =
      let e : suc k + length xs ≡ k + suc (length xs) = omega arith in
      ap (λ l. before k ++ y ∷ l) (rows-push (suc k) xs x ∙ ap (λ n. with_rows before (suc k) xs ++ (before n ++ x ∷ [])) e)
      ∙ sym (append_assoc (before k) (y ∷ with_rows before (suc k) xs) (before (k + suc (length xs)) ++ x ∷ []))

  pub rows-grow : (xs : List X) (x : X) (point : ℕ) (lines made with_lines more : List X) → point ≡ length xs → lines ≡ before point → made ≡ with_rows before 0 xs → with_lines ≡ made ++ lines → more ≡ with_lines ++ x ∷ [] → more ≡ with_rows before 0 (xs ++ x ∷ [])
  rows-grow xs x point lines made with_lines more count is so_far a b =
      let at : point ≡ 0 + length xs = omega (arith, count) in
      b ∙ ap (λ l. l ++ x ∷ []) (a ∙ (λ i. so_far i ++ (is ∙ ap before at) i)) ∙ append_assoc (with_rows before 0 xs) (before (0 + length xs)) (x ∷ []) ∙ sym (rows-push 0 xs x)

  -- all, where none stand at the end
  rows-end : (k : ℕ) (xs : List X) → before (k + length xs) ≡ [] → with_rows before k xs ≡ spliced before (λ i. []) k xs
  rows-end k [] none = let e : k ≡ k + 0 = omega arith in sym none ∙ ap before (sym e)
  rows-end k (x ∷ xs) none = let e : suc k + length xs ≡ k + suc (length xs) = omega arith in ap (λ l. before k ++ x ∷ l) (rows-end (suc k) xs (ap before e ∙ none))

  pub rows-all : (xs : List X) (made : List X) → before (length xs) ≡ [] → made ≡ with_rows before 0 xs → made ≡ spliced before (λ i. []) 0 xs
  rows-all xs made none e = e ∙ rows-end 0 xs (let z : 0 + length xs ≡ length xs = omega arith in ap before z ∙ none)

-- the same rows
pub spliced-same : {X : Type 0} (before before' : ℕ → List X) (k : ℕ) (xs : List X) → ((i : ℕ) → before i ≡ before' i) → spliced before (λ i. []) k xs ≡ spliced before' (λ i. []) k xs
spliced-same before before' k [] same = same k
spliced-same before before' k (x ∷ xs) same = λ i. same k i ++ x ∷ spliced-same before before' (suc k) xs same i

-- none
pub spliced-none : {X : Type 0} (k : ℕ) (xs : List X) → spliced (λ i. []) (λ i. []) k xs ≡ xs
spliced-none k [] = refl
spliced-none k (x ∷ xs) = ap (λ l. x ∷ l) (spliced-none (suc k) xs)
