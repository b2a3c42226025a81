-- The labels of a spliced list differ.
use Rattle.std.proofs.Common.{◌≡◌, ◌≢◌, ℕ, suc, ◌+◌, ◌≤◌, List, [], ◌∷◌, ◌++◌, get_or, Some, refl, sym, ap, subst, ◌∙◌, inl, inr, ⊎_elim, arith}
use Rattle.std.specs.Prelude.{slice_get}
use Rattle.std.proofs.lemmas.List.Elements.{Contains-get_or, filter_map-append}
use Rattle.std.proofs.lemmas.List.Kept.{AllPairs-cons}
use Rattle.bril_tree.specs.declared.function_tree.Item.{Item}
use Rattle.bril_tree.specs.declared.function_tree.Item.TheVariants as item
use Rattle.bril_tree.specs.Membership.{In}
use Rattle.bril_tree.proofs.Members.{in_append_cases, in_contains}
use Rattle.bril_names.specs.Faults.{Differ, label_of, labels_of}
use Rattle.pass_edit_laws.specs.plan.Spliced.{spliced}

-- ---- lists without repetition

abbrev pub Apart : List (List ℕ) → Type 0
Apart [] = Unit {0}
Apart (x ∷ xs) = (In x xs → ⊥) × Apart xs

pub apart-append : (xs ys : List (List ℕ)) → Apart xs → Apart ys → ((a : List ℕ) → In a xs → In a ys → ⊥) → Apart (xs ++ ys)
apart-append [] ys h k cross = k
apart-append (x ∷ xs) ys h k cross = ((λ i. ⊎_elim h.0 (λ j. cross x (inl refl) j) (in_append_cases x xs ys i)), apart-append xs ys h.1 k (λ a i j. cross a (inr i) j))

pub differ-apart : (xs : List (List ℕ)) → Apart xs → Differ xs
differ-apart [] h = λ i j d l within same. absurd (omega arith)
differ-apart (x ∷ xs) h = AllPairs-cons (λ a b. a ≢ b) x xs (λ k d less same. h.0 (subst (λ z. In z xs) (sym same) (in_contains (get_or xs k d) xs (Contains-get_or xs k d less)))) (differ-apart xs h.1)

pub empty-apart : (xs : List (List ℕ)) → ((a : List ℕ) → In a xs → ⊥) → Apart xs
empty-apart [] h = tt
empty-apart (x ∷ xs) h = absurd (h x (inl refl))

-- ---- a spliced list: each label has one block

module _ (before behind : ℕ → List Item) (Owned : ℕ → List ℕ → Type 0) (once : (i j : ℕ) (a : List ℕ) → Owned i a → Owned j a → i ≡ j)
    (first : (i : ℕ) (a : List ℕ) → In a (labels_of (before i)) → Owned i a) (last : (i : ℕ) (a : List ℕ) → In a (labels_of (behind i)) → Owned i a)
    (firsts : (i : ℕ) → Apart (labels_of (before i))) (lasts : (i : ℕ) → Apart (labels_of (behind i)))
    (both : (i : ℕ) (a : List ℕ) → In a (labels_of (before i)) → In a (labels_of (behind i)) → ⊥) where
  -- items from number k on, each of whose labels its number owns, and nothing put around it
  abbrev pub Owns : ℕ → List Item → Type 0
  Owns k items = (i : ℕ) (a : List ℕ) → slice_get items i ≡ Some (item.Label a) → Owned (k + i) a × (In a (labels_of (before (k + i))) → ⊥) × (In a (labels_of (behind (k + i))) → ⊥)

  rest-owns : (k : ℕ) (x : Item) (items : List Item) → Owns k (x ∷ items) → Owns (suc k) items
  rest-owns k x items h i a e = let n : k + suc i ≡ suc k + i = omega arith in subst (λ m. Owned m a × (In a (labels_of (before m)) → ⊥) × (In a (labels_of (behind m)) → ⊥)) n (h (suc i) a e)

  -- the label of one item
  one-label : (k : ℕ) (x : Item) (items : List Item) → Owns k (x ∷ items) → (a : List ℕ) → In a (labels_of (x ∷ [])) → Owned k a × (In a (labels_of (before k)) → ⊥) × (In a (labels_of (behind k)) → ⊥)
  one-label k (item.Label b) items h a (inl e) = let n : k + 0 ≡ k = omega arith in subst (λ m. Owned m a × (In a (labels_of (before m)) → ⊥) × (In a (labels_of (behind m)) → ⊥)) n (h 0 a (ap (λ z. Some (item.Label z)) (sym e)))
  one-label k (item.Label b) items h a (inr i) = absurd i
  one-label k (item.Const d t v) items h a i = absurd i
  one-label k (item.Act d o xs fns ls) items h a i = absurd i

  single : (x : Item) → Apart (labels_of (x ∷ []))
  single (item.Label b) = ((λ i. i), tt)
  single (item.Const d t v) = tt
  single (item.Act d o xs fns ls) = tt

  cut : (k : ℕ) (x : Item) (items : List Item) → labels_of (spliced before behind k (x ∷ items)) ≡ labels_of (before k) ++ (labels_of (x ∷ []) ++ (labels_of (behind k) ++ labels_of (spliced before behind (suc k) items)))
  cut k x items =
      filter_map-append label_of (before k) (x ∷ (behind k ++ spliced before behind (suc k) items))
      ∙ ap (λ l. labels_of (before k) ++ l) (filter_map-append label_of (x ∷ []) (behind k ++ spliced before behind (suc k) items) ∙ ap (λ l. labels_of (x ∷ []) ++ l) (filter_map-append label_of (behind k) (spliced before behind (suc k) items)))

  -- the block of a label
  block : (k : ℕ) (items : List Item) → Owns k items → (a : List ℕ) → In a (labels_of (spliced before behind k items)) → (i : ℕ) × (k ≤ i) × Owned i a
  block k [] h a among = (k, omega arith, first k a among)
  block k (x ∷ items) h a among =
      ⊎_elim (λ i. (k, omega arith, first k a i)) (λ r. ⊎_elim (λ i. (k, omega arith, (one-label k x items h a i).0)) (λ s. ⊎_elim (λ i. (k, omega arith, last k a i)) (λ i. let q = block (suc k) items (rest-owns k x items h) a i in let low = q.1 in (q.0, omega arith, q.2))
      (in_append_cases a (labels_of (behind k)) (labels_of (spliced before behind (suc k) items)) s)) (in_append_cases a (labels_of (x ∷ [])) (labels_of (behind k) ++ labels_of (spliced before behind (suc k) items)) r))
      (in_append_cases a (labels_of (before k)) (labels_of (x ∷ []) ++ (labels_of (behind k) ++ labels_of (spliced before behind (suc k) items))) (subst (In a) (cut k x items) among))

  later : (k : ℕ) (items : List Item) → Owns (suc k) items → (a : List ℕ) → Owned k a → In a (labels_of (spliced before behind (suc k) items)) → ⊥
  later k items h a own among = let q = block (suc k) items h a among in let low = q.1 in let e = once k q.0 a own q.2 in omega arith

  pub spliced-apart : (k : ℕ) (items : List Item) → Owns k items → Apart (labels_of (spliced before behind k items))
  spliced-apart k [] h = firsts k
  spliced-apart k (x ∷ items) h =
      let rest = rest-owns k x items h in
      let tail = spliced-apart (suc k) items rest in
      let two = apart-append (labels_of (behind k)) (labels_of (spliced before behind (suc k) items)) (lasts k) tail (λ a i j. later k items rest a (last k a i) j) in
      let three = apart-append (labels_of (x ∷ [])) (labels_of (behind k) ++ labels_of (spliced before behind (suc k) items)) (single x) two
      (λ a i j. ⊎_elim (λ b. (one-label k x items h a i).2 b) (λ b. later k items rest a (one-label k x items h a i).0 b) (in_append_cases a (labels_of (behind k)) (labels_of (spliced before behind (suc k) items)) j)) in
      subst Apart (sym (cut k x items))
      (apart-append (labels_of (before k)) (labels_of (x ∷ []) ++ (labels_of (behind k) ++ labels_of (spliced before behind (suc k) items))) (firsts k) three
      (λ a i j. ⊎_elim (λ b. (one-label k x items h a b).1 i) (λ s. ⊎_elim (λ b. both k a i b) (λ b. later k items rest a (first k a i) b) (in_append_cases a (labels_of (behind k)) (labels_of (spliced before behind (suc k) items)) s))
      (in_append_cases a (labels_of (x ∷ [])) (labels_of (behind k) ++ labels_of (spliced before behind (suc k) items)) j)))
