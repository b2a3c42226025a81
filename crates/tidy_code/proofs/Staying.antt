-- Which items stay, as a test of their points, and the loop over the items.
use Rattle.std.proofs.Common.{◌≡◌, ℕ, zero, suc, ◌+◌, ◌≤◌, Bool, true, false, List, [], ◌∷◌, ◌++◌, length, Some, None, refl, sym, ap, subst, ◌∙◌, inl, inr, ⊎_elim, cond, arith, true≢false}
use Rattle.std.specs.Prelude.{slice_get, ◌==◌}
use Rattle.std.proofs.lemmas.Bool.{eq-eqb, ne_eqb}
use Rattle.std.proofs.lemmas.Option.{same_Some}
use Rattle.bril_tree.specs.declared.function_tree.Item.{Item}
use Rattle.bril_tree.specs.declared.numbered.Instr.{Instr}
use Rattle.bril_tree.specs.Membership.{In}
use Rattle.tidy_code.proofs.Points.{kept_items}
use Rattle.tidy_code.specs.Tidied.{IsStaying, AreStaying}

-- ---- which items are kept

kept_alike : {X : Type 0} (k l : ℕ → Bool) (i : ℕ) (xs : List X) → ((n : ℕ) → i ≤ n → k n ≡ l n) → kept_items k i xs ≡ kept_items l i xs
kept_alike k l i [] same = refl
kept_alike k l i (x ∷ xs) same =
    let rest = kept_alike k l (suc i) xs (λ n le. same n (omega arith)) in
    (λ j. cond (same i (omega arith) j) (x ∷ rest j) (rest j))

pub record Keeping (code : List Instr) (i : ℕ) (xs ys : List Item) : Type 0 where
  pub keep : ℕ → Bool
  pub is : ys ≡ kept_items keep i xs
  pub stays : (k : ℕ) (x : Item) → slice_get xs k ≡ Some x → keep (i + k) ≡ true → IsStaying code (i + k) x
  pub drops : (k : ℕ) (x : Item) → slice_get xs k ≡ Some x → keep (i + k) ≡ false → IsStaying code (i + k) x → ⊥

-- the test at a point, and that of the points after it
first_test : Bool → ℕ → (ℕ → Bool) → ℕ → Bool
first_test b i rest n = cond (n == i) b (rest n)

module _ (code : List Instr) (i : ℕ) (x : Item) (xs ys : List Item) (r : Keeping code (suc i) xs ys) where
  module _ (b : Bool) where
    test-here : first_test b i r.keep i ≡ b
    unfolding first_test
    test-here = ap (λ c. cond c b (r.keep i)) (eq-eqb i i refl)

    test-later : (n : ℕ) → suc i ≤ n → first_test b i r.keep n ≡ r.keep n
    unfolding first_test
    test-later n le = ap (λ c. cond c b (r.keep n)) (ne_eqb n i (λ e. omega (arith, e, le)))

    test-items : kept_items r.keep (suc i) xs ≡ kept_items (first_test b i r.keep) (suc i) xs
    test-items = sym (kept_alike (first_test b i r.keep) r.keep (suc i) xs test-later)

    -- the first item, or one after it
    at-first : (P : ℕ → Item → Type 0) → P i x → ((k : ℕ) (y : Item) → slice_get xs k ≡ Some y → P (suc i + k) y) → (k : ℕ) (y : Item) → slice_get (x ∷ xs) k ≡ Some y → P (i + k) y
    at-first P here rest zero y e = let z : i ≡ i + zero = omega arith in subst (λ n. P n y) z (subst (P i) (same_Some x y e) here)
    at-first P here rest (suc k) y e = let z : suc i + k ≡ i + suc k = omega arith in subst (λ n. P n y) z (rest k y e)

  stays-first : IsStaying code i x → Keeping code i (x ∷ xs) (x ∷ ys)
  stays-first s = record {
    keep = first_test true i r.keep;
    is = (λ j. x ∷ (r.is ∙ test-items true) j) ∙ sym (ap (λ b. cond b (x ∷ kept_items (first_test true i r.keep) (suc i) xs) (kept_items (first_test true i r.keep) (suc i) xs)) (test-here true));
    stays = at-first true (λ n y. first_test true i r.keep n ≡ true → IsStaying code n y) (λ h. s) (λ k y e h. r.stays k y e (sym (test-later true (suc i + k) (omega arith)) ∙ h));
    drops = at-first true (λ n y. first_test true i r.keep n ≡ false → IsStaying code n y → ⊥) (λ h s. true≢false (sym (test-here true) ∙ h)) (λ k y e h. r.drops k y e (sym (test-later true (suc i + k) (omega arith)) ∙ h));
  }

  drops-first : (IsStaying code i x → ⊥) → Keeping code i (x ∷ xs) ys
  drops-first s = record {
    keep = first_test false i r.keep;
    is = r.is ∙ test-items false ∙ sym (ap (λ b. cond b (x ∷ kept_items (first_test false i r.keep) (suc i) xs) (kept_items (first_test false i r.keep) (suc i) xs)) (test-here false));
    stays = at-first false (λ n y. first_test false i r.keep n ≡ true → IsStaying code n y) (λ h. absurd (true≢false (sym h ∙ test-here false))) (λ k y e h. r.stays k y e (sym (test-later false (suc i + k) (omega arith)) ∙ h));
    drops = at-first false (λ n y. first_test false i r.keep n ≡ false → IsStaying code n y → ⊥) (λ h. s) (λ k y e h. r.drops k y e (sym (test-later false (suc i + k) (omega arith)) ∙ h));
  }

pub keeping : (code : List Instr) (i : ℕ) (xs ys : List Item) → AreStaying code i xs ys → Keeping code i xs ys
keeping code i [] ys t = record { keep = λ n. false; is = t; stays = λ k x e h. absurd cc; drops = λ k x e h s. let n : None ≡ Some x = e in cc }
keeping code i (x ∷ xs) ys (inl s) = subst (Keeping code i (x ∷ xs)) (sym s.1.1) (stays-first code i x xs s.1.0 (keeping code (suc i) xs s.1.0 s.1.2) s.0)
keeping code i (x ∷ xs) ys (inr s) = drops-first code i x xs ys (keeping code (suc i) xs ys s.1) s.0

-- ---- what stays is found again, and what is found stayed

pub staying-in : (code : List Instr) (i : ℕ) (xs ys : List Item) → AreStaying code i xs ys → (k : ℕ) (x : Item) → slice_get xs k ≡ Some x → IsStaying code (i + k) x → In x ys
staying-in code i [] ys t k x e s = absurd (let n : None ≡ Some x = e in cc)
staying-in code i (y ∷ xs) ys (inl h) zero x e s = subst (In x) (sym h.1.1) (inl (sym (same_Some y x e)))
staying-in code i (y ∷ xs) ys (inl h) (suc k) x e s = let z : i + suc k ≡ suc i + k = omega arith in subst (In x) (sym h.1.1) (inr (staying-in code (suc i) xs h.1.0 h.1.2 k x e (subst (λ n. IsStaying code n x) z s)))
staying-in code i (y ∷ xs) ys (inr h) zero x e s = let z : i + zero ≡ i = omega arith in absurd (h.0 (subst (IsStaying code i) (sym (same_Some y x e)) (subst (λ n. IsStaying code n x) z s)))
staying-in code i (y ∷ xs) ys (inr h) (suc k) x e s = let z : i + suc k ≡ suc i + k = omega arith in staying-in code (suc i) xs ys h.1 k x e (subst (λ n. IsStaying code n x) z s)

pub record StayedAt (code : List Instr) (i : ℕ) (xs : List Item) (y : Item) : Type 0 where
  pub index : ℕ
  pub at : slice_get xs index ≡ Some y
  pub staying : IsStaying code (i + index) y

pub in-stayed : (code : List Instr) (i : ℕ) (xs ys : List Item) → AreStaying code i xs ys → (y : Item) → In y ys → StayedAt code i xs y
in-stayed code i [] ys t y m = absurd (subst (In y) t m)
in-stayed code i (x ∷ xs) ys (inl h) y m = ⊎_elim first (λ n. later (in-stayed code (suc i) xs h.1.0 h.1.2 y n)) (subst (In y) h.1.1 m)
  where
    first : y ≡ x → StayedAt code i (x ∷ xs) y
    first e = let z : i ≡ i + 0 = omega arith in record { index = 0; at = ap Some (sym e); staying = subst (λ n. IsStaying code n y) z (subst (IsStaying code i) (sym e) h.0) }

    later : StayedAt code (suc i) xs y → StayedAt code i (x ∷ xs) y
    later r = let z : suc i + r.index ≡ i + suc r.index = omega arith in record { index = suc r.index; at = r.at; staying = subst (λ n. IsStaying code n y) z r.staying }
in-stayed code i (x ∷ xs) ys (inr h) y m = let r = in-stayed code (suc i) xs ys h.1 y m in let z : suc i + r.index ≡ i + suc r.index = omega arith in record { index = suc r.index; at = r.at; staying = subst (λ n. IsStaying code n y) z r.staying }

-- ---- one item more at the end, as the loop makes it

pub one_stays : (code : List Instr) (i : ℕ) (xs ys : List Item) (x : Item) → AreStaying code i xs ys → IsStaying code (i + length xs) x → AreStaying code i (xs ++ x ∷ []) (ys ++ x ∷ [])
one_stays code i [] ys x t s = let z : i + 0 ≡ i = omega arith in inl (subst (λ n. IsStaying code n x) z s, ([], ap (λ l. l ++ x ∷ []) t, refl))
one_stays code i (y ∷ xs) ys x (inl h) s = let z : i + length (y ∷ xs) ≡ suc i + length xs = omega arith in inl (h.0, (h.1.0 ++ x ∷ [], ap (λ l. l ++ x ∷ []) h.1.1, one_stays code (suc i) xs h.1.0 x h.1.2 (subst (λ n. IsStaying code n x) z s)))
one_stays code i (y ∷ xs) ys x (inr h) s = let z : i + length (y ∷ xs) ≡ suc i + length xs = omega arith in inr (h.0, one_stays code (suc i) xs ys x h.1 (subst (λ n. IsStaying code n x) z s))

pub one_drops : (code : List Instr) (i : ℕ) (xs ys : List Item) (x : Item) → AreStaying code i xs ys → (IsStaying code (i + length xs) x → ⊥) → AreStaying code i (xs ++ x ∷ []) ys
one_drops code i [] ys x t s = let z : i ≡ i + 0 = omega arith in inr ((λ h. s (subst (λ n. IsStaying code n x) z h)), t)
one_drops code i (y ∷ xs) ys x (inl h) s = let z : suc i + length xs ≡ i + length (y ∷ xs) = omega arith in inl (h.0, (h.1.0, h.1.1, one_drops code (suc i) xs h.1.0 x h.1.2 (λ k. s (subst (λ n. IsStaying code n x) z k))))
one_drops code i (y ∷ xs) ys x (inr h) s = let z : suc i + length xs ≡ i + length (y ∷ xs) = omega arith in inr (h.0, one_drops code (suc i) xs ys x h.1 (λ k. s (subst (λ n. IsStaying code n x) z k)))
