-- What a decidable fact leaves of a list, and lists without repetition.
use Rattle.std.proofs.Common.{◌≡◌, ◌≢◌, ◌⊎◌, ℕ, List, [], ◌∷◌, length, refl, sym, subst, inl, inr, ⊎_elim, arith}
use Rattle.std.specs.List.{AllPairs}
use Rattle.std.proofs.lemmas.List.Kept.{AllPairs-cons}
use Rattle.bril_tree.specs.Membership.{In}
use Rattle.bril_tree.proofs.Members.{contains_in}
use Rattle.pass_edit_laws.proofs.lemmas.plan.Elements.{in_all}
use Rattle.program_numbers.specs.Entries.{AreSoMany}
use Rattle.bril_tree.proofs.Deciding.{Decided}

module _ {A : Type 0} (P : A → Type 0) (decide : (x : A) → Decided (P x)) where
  one : (x : A) → Decided (P x) → List A → List A
  one x (inl p) xs = x ∷ xs
  one x (inr n) xs = xs

  pub select : List A → List A
  select [] = []
  select (x ∷ xs) = one x (decide x) (select xs)

  one-in : (x y : A) (d : Decided (P x)) (xs : List A) → In y (one x d xs) → ((y ≡ x) × P y) ⊎ In y xs
  unfolding one
  one-in x y (inl p) xs (inl e) = inl (e, subst P (sym e) p)
  one-in x y (inl p) xs (inr i) = inr i
  one-in x y (inr n) xs i = inr i

  pub select-in : (xs : List A) (y : A) → In y (select xs) → In y xs × P y
  unfolding select
  select-in [] y i = absurd i
  select-in (x ∷ xs) y i = ⊎_elim (λ h. (inl h.0, h.1)) (λ j. let r = select-in xs y j in (inr r.0, r.1)) (one-in x y (decide x) (select xs) i)

  in-one : (x y : A) (d : Decided (P x)) (xs : List A) → In y xs → In y (one x d xs)
  unfolding one
  in-one x y (inl p) xs i = inr i
  in-one x y (inr n) xs i = i

  one-own : (x y : A) (d : Decided (P x)) (xs : List A) → y ≡ x → P y → In y (one x d xs)
  unfolding one
  one-own x y (inl p) xs e h = inl e
  one-own x y (inr n) xs e h = absurd (n (subst P e h))

  pub in-select : (xs : List A) (y : A) → In y xs → P y → In y (select xs)
  unfolding select
  in-select [] y i p = absurd i
  in-select (x ∷ xs) y (inl e) p = one-own x y (decide x) (select xs) e p
  in-select (x ∷ xs) y (inr i) p = in-one x y (decide x) (select xs) (in-select xs y i p)

  -- whether one of them is such
  pub any-of : (xs : List A) → Decided ((x : A) × In x xs × P x)
  any-of [] = inr (λ h. h.1)
  any-of (x ∷ xs) = ⊎_elim
      (λ p. inl (x, inl refl, p))
      (λ n. ⊎_elim
      (λ h. inl (h.0, inr h.1, h.2))
      (λ m. inr (λ h. ⊎_elim (λ e. n (subst P e h.2)) (λ i. m (h.0, i, h.2)) h.1))
      (any-of xs))
      (decide x)

-- ---- lists without repetition

module _ {A : Type 0} (same : (x y : A) → Decided (x ≡ y)) where
  in-or_not : (x : A) (xs : List A) → Decided (In x xs)
  in-or_not x [] = inr (λ h. h)
  in-or_not x (y ∷ xs) = ⊎_elim (λ e. inl (inl e)) (λ n. ⊎_elim (λ i. inl (inr i)) (λ m. inr (λ h. ⊎_elim n m h)) (in-or_not x xs)) (same x y)

  fresh : (x : A) (xs : List A) → Decided (In x xs) → List A
  fresh x xs (inl i) = xs
  fresh x xs (inr n) = x ∷ xs

  pub distinct : List A → List A
  distinct [] = []
  distinct (x ∷ xs) = fresh x (distinct xs) (in-or_not x (distinct xs))

  fresh-differ : (x : A) (xs : List A) (d : Decided (In x xs)) → AllPairs (λ a b. a ≢ b) xs → AllPairs (λ a b. a ≢ b) (fresh x xs d)
  unfolding fresh
  fresh-differ x xs (inl i) differ = differ
  fresh-differ x xs (inr n) differ = AllPairs-cons (λ a b. a ≢ b) x xs (in_all (λ z. x ≢ z) xs (λ z i. λ e. n (subst (λ w. In w xs) (sym e) i))) differ

  pub distinct-differ : (xs : List A) → AllPairs (λ a b. a ≢ b) (distinct xs)
  unfolding distinct
  distinct-differ [] = λ i j d less inside. absurd (omega arith)
  distinct-differ (x ∷ xs) = fresh-differ x (distinct xs) (in-or_not x (distinct xs)) (distinct-differ xs)

  fresh-in : (x y : A) (xs : List A) (d : Decided (In x xs)) → In y (fresh x xs d) → (y ≡ x) ⊎ In y xs
  unfolding fresh
  fresh-in x y xs (inl i) h = inr h
  fresh-in x y xs (inr n) h = h

  in-fresh : (x y : A) (xs : List A) (d : Decided (In x xs)) → (y ≡ x) ⊎ In y xs → In y (fresh x xs d)
  unfolding fresh
  in-fresh x y xs (inl i) (inl e) = subst (λ z. In z xs) (sym e) i
  in-fresh x y xs (inl i) (inr h) = h
  in-fresh x y xs (inr n) h = h

  pub distinct-in : (xs : List A) (y : A) → In y (distinct xs) → In y xs
  unfolding distinct
  distinct-in [] y i = i
  distinct-in (x ∷ xs) y i = ⊎_elim inl (λ j. inr (distinct-in xs y j)) (fresh-in x y (distinct xs) (in-or_not x (distinct xs)) i)

  pub in-distinct : (xs : List A) (y : A) → In y xs → In y (distinct xs)
  unfolding distinct
  in-distinct [] y i = i
  in-distinct (x ∷ xs) y (inl e) = in-fresh x y (distinct xs) (in-or_not x (distinct xs)) (inl e)
  in-distinct (x ∷ xs) y (inr i) = in-fresh x y (distinct xs) (in-or_not x (distinct xs)) (inr (in-distinct xs y i))

  -- so many things there are, where a list has exactly those
  pub so-many : (P : A → Type 0) (xs : List A) → ((x : A) → In x xs → P x) → ((x : A) → P x → In x xs) → (n : ℕ) × AreSoMany P n
  so-many P xs only all = (
    length (distinct xs),
    record {
      members = distinct xs;
      differ = distinct-differ xs;
      are = in_all P (distinct xs) (λ x i. only x (distinct-in xs x i));
      all = λ x p. contains_in x (distinct xs) (in-distinct xs x (all x p));
      count = refl;
    },
  )
