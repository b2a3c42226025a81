-- Items with what is put between them.
use Rattle.std.proofs.Common.{◌≡◌, ℕ, suc, ◌+◌, List, [], ◌∷◌, ◌++◌, length, append_assoc, append-nil, sym, ap, ◌∙◌, arith}
use Rattle.bril_tree.specs.declared.function_tree.Item.{Item}
use Rattle.pass_edit_laws.specs.plan.Spliced.{spliced}
use Rattle.trace_stitcher.specs.Inserted.{around}

module _ (before after : ℕ → List Item) where
  -- one more
  around-push : (k : ℕ) (xs : List Item) (x : Item) → around before after k (xs ++ x ∷ []) ≡ around before after k xs ++ (before (k + length xs) ++ x ∷ after (k + length xs))
  around-push k [] x = let e : k + 0 ≡ k = omega arith in (λ i. before (sym e i) ++ x ∷ append-nil (after (sym e i)) i)
  around-push k (y ∷ xs) x =
      let e : suc k + length xs ≡ k + suc (length xs) = omega arith in
      let rest = around-push (suc k) xs x ∙ ap (λ n. around before after (suc k) xs ++ (before n ++ x ∷ after n)) e in
      ap (λ l. before k ++ y ∷ (after k ++ l)) rest
      ∙ ap (λ l. before k ++ y ∷ l) (sym (append_assoc (after k) (around before after (suc k) xs) (before (k + suc (length xs)) ++ x ∷ after (k + suc (length xs)))))
      ∙ sym (append_assoc (before k) (y ∷ (after k ++ around before after (suc k) xs)) (before (k + suc (length xs)) ++ x ∷ after (k + suc (length xs))))

  pub around-grows : (xs : List Item) (x : Item) (point : ℕ) (front made more : List Item) → point ≡ length xs → made ≡ front ++ around before after 0 xs → more ≡ made ++ (before point ++ x ∷ after point) → more ≡ front ++ around before after 0 (xs ++ x ∷ [])
  around-grows xs x point front made more count so_far grown =
      let at : point ≡ 0 + length xs = omega (arith, count) in
      grown ∙ (λ i. so_far i ++ (before (at i) ++ x ∷ after (at i))) ∙ append_assoc front (around before after 0 xs) (before (0 + length xs) ++ x ∷ after (0 + length xs)) ∙ ap (λ l. front ++ l) (sym (around-push 0 xs x))

  -- all, and what stands at the end
  around-end : (k : ℕ) (xs : List Item) → around before after k xs ++ before (k + length xs) ≡ spliced before after k xs
  around-end k [] = let e : k + 0 ≡ k = omega arith in ap before e
  around-end k (x ∷ xs) =
      let e : suc k + length xs ≡ k + suc (length xs) = omega arith in
      append_assoc (before k) (x ∷ (after k ++ around before after (suc k) xs)) (before (k + suc (length xs)))
      ∙ ap (λ l. before k ++ x ∷ l) (append_assoc (after k) (around before after (suc k) xs) (before (k + suc (length xs))) ∙ ap (λ l. after k ++ l) (ap (λ n. around before after (suc k) xs ++ before n) (sym e) ∙ around-end (suc k) xs))

  pub around-all : (xs : List Item) (end : ℕ) (made more : List Item) → end ≡ length xs → made ≡ around before after 0 xs → more ≡ made ++ before end → more ≡ spliced before after 0 xs
  around-all xs end made more count so_far grown = let at : end ≡ 0 + length xs = omega (arith, count) in grown ∙ (λ i. so_far i ++ before (at i)) ∙ around-end 0 xs

-- the same lists are put in
pub spliced-same : {X : Type 0} (before before' after after' : ℕ → List X) (k : ℕ) (xs : List X) → ((i : ℕ) → before i ≡ before' i) → ((i : ℕ) → after i ≡ after' i) → spliced before after k xs ≡ spliced before' after' k xs
spliced-same before before' after after' k [] b a = b k
spliced-same before before' after after' k (x ∷ xs) b a = λ i. b k i ++ x ∷ (a k i ++ spliced-same before before' after after' (suc k) xs b a i)

-- nothing is
pub spliced-none : {X : Type 0} (before after : ℕ → List X) (k : ℕ) (xs : List X) → ((i : ℕ) → before i ≡ []) → ((i : ℕ) → after i ≡ []) → spliced before after k xs ≡ xs
spliced-none before after k [] b a = b k
spliced-none before after k (x ∷ xs) b a = (λ i. b k i ++ x ∷ (a k i ++ spliced before after (suc k) xs)) ∙ ap (λ l. x ∷ l) (spliced-none before after (suc k) xs b a)
