-- First places: where a name is repeated first, and where one is lacking first.
use Rattle.std.proofs.Common.{◌≡◌, ◌⊎◌, ℕ, zero, suc, ◌+◌, ◌<◌, List, [], ◌∷◌, ◌++◌, length, take, drop, Some, refl, sym, ap, ◌∙◌, subst, arith, inl, inr, length-append, take-append-drop, take-take}
use Rattle.std.specs.Prelude.{slice_get}
use Rattle.std.specs.List.{All, Contains}
use Rattle.std.proofs.lemmas.Bool.{cases_order}
use Rattle.std.proofs.lemmas.List.{drop_more, take-take, get_or_at, get_or_append_left}
use Rattle.std.proofs.lemmas.List.Elements.{filter_map-append, All-get_or}
use Rattle.std.proofs.lemmas.Option.{same_Some, slice_get_within, get_or_from_slice_get}
use Rattle.bril_tree.specs.declared.function_tree.Item.{Item}
use Rattle.bril_tree.specs.declared.function_tree.Item.TheVariants as item
use Rattle.bril_names.specs.Faults.{Differ, AreAmong, IsKnown, label_of, labels_of, callees_of, RepeatsName, RepeatsLabel, LacksFunction, LacksLabel}

-- ---- places

pub same_here : {A : Type 0} (xs : List A) (place : ℕ) (x y : A) → slice_get xs place ≡ Some x → slice_get xs place ≡ Some y → x ≡ y
same_here xs place x y here there = same_Some x y (sym here ∙ there)

-- a place stands in a longer front
pub here_taken : {A : Type 0} (xs : List A) (place n : ℕ) (x : A) → place < n → slice_get xs place ≡ Some x → slice_get (take n xs) place ≡ Some x
here_taken [] place n x below here = absurd cc
here_taken (y ∷ xs) place zero x below here = absurd (omega arith)
here_taken (y ∷ xs) zero (suc n) x below here = here
here_taken (y ∷ xs) (suc place) (suc n) x below here = here_taken xs place n x (omega arith) here

pub front_taken : {A : Type 0} (xs : List A) (place n : ℕ) → place < n → take place (take n xs) ≡ take place xs
front_taken xs place n below = take-take place n xs (omega arith)

-- what holds of each element holds here
pub at_here : {A : Type 0} (P : A → Type 0) (xs : List A) (place : ℕ) (x : A) → All P xs → slice_get xs place ≡ Some x → P x
at_here P xs place x all here =
    subst P (get_or_from_slice_get xs place x x here) (All-get_or P xs place x (slice_get_within xs place x here) all)

-- the first place of its kind stands once: none below it is of the kind
pub one_place : (Is : ℕ → Type 0) → ((p q : ℕ) → p < q → Is p → Is q → ⊥) → (p q : ℕ) → Is p → Is q → p ≡ q
one_place Is apart p q here there = by (cases_order p q)
  where
    by : (p ≡ q) ⊎ ((p < q) ⊎ (q < p)) → p ≡ q
    by (inl e) = e
    by (inr (inl l)) = absurd (apart p q l here there)
    by (inr (inr l)) = absurd (apart q p l there here)

-- ---- a repeated name

-- names of which a later one stands among earlier ones
repeated : (xs ys : List (List ℕ)) (name : List ℕ) → Contains xs name → Differ (xs ++ name ∷ ys) → ⊥
repeated xs ys name before differ =
    let len = length-append xs (name ∷ ys) in
    differ before.0 (length xs) name before.1 (omega arith)
    (get_or_append_left xs (name ∷ ys) name before.0 before.1 ∙ before.2 ∙ sym (get_or_at xs name ys name (length xs) refl))

-- a list from a place on
at_place : {A : Type 0} (xs : List A) (place : ℕ) (x : A) → slice_get xs place ≡ Some x → xs ≡ take place xs ++ x ∷ drop (place + 1) xs
at_place xs place x here =
    sym (take-append-drop place xs)
    ∙ ap (λ rest. take place xs ++ rest) (drop_more xs place x (slice_get_within xs place x here) ∙ ap (λ y. y ∷ drop (place + 1) xs) (get_or_from_slice_get xs place x x here))

pub repeats_name : (names : List (List ℕ)) (place : ℕ) → RepeatsName names place → Differ names → ⊥
repeats_name names place r differ =
    repeated (take place names) (drop (place + 1) names) r.name r.before (subst Differ (at_place names place r.name r.here) differ)

pub repeats_label : (code : List Item) (place : ℕ) → RepeatsLabel code place → Differ (labels_of code) → ⊥
repeats_label code place r differ =
    let e = ap labels_of (at_place code place (item.Label r.name) r.here) ∙ filter_map-append label_of (take place code) (item.Label r.name ∷ drop (place + 1) code) in
    repeated (labels_of (take place code)) (labels_of (drop (place + 1) code)) r.name r.before (subst Differ e differ)

pub one_repeated_name : (names : List (List ℕ)) (p q : ℕ) → RepeatsName names p → RepeatsName names q → p ≡ q
one_repeated_name names = one_place (RepeatsName names) apart
  where
    apart : (p q : ℕ) → p < q → RepeatsName names p → RepeatsName names q → ⊥
    apart p q below r s =
        repeats_name (take q names) p
        (record {
          name = r.name;
          here = here_taken names p q r.name below r.here;
          before = subst (λ front. Contains front r.name) (sym (front_taken names p q below)) r.before;
          differ = subst Differ (sym (front_taken names p q below)) r.differ;
        })
        s.differ

pub one_repeated_label : (code : List Item) (p q : ℕ) → RepeatsLabel code p → RepeatsLabel code q → p ≡ q
one_repeated_label code = one_place (RepeatsLabel code) apart
  where
    apart : (p q : ℕ) → p < q → RepeatsLabel code p → RepeatsLabel code q → ⊥
    apart p q below r s =
        repeats_label (take q code) p
        (record {
          name = r.name;
          here = here_taken code p q (item.Label r.name) below r.here;
          before = subst (λ front. Contains (labels_of front) r.name) (sym (front_taken code p q below)) r.before;
          differ = subst (λ front. Differ (labels_of front)) (sym (front_taken code p q below)) r.differ;
        })
        s.differ

-- ---- a lacking name

module _ (functions labels : List (List ℕ)) (code : List Item) where
  pub lacks_function : (place : ℕ) → LacksFunction functions labels code place → All (IsKnown functions labels) code → ⊥
  lacks_function place r known = r.lacks (at_here (IsKnown functions labels) code place r.lacking known r.here).0

  pub lacks_label : (place : ℕ) → LacksLabel functions labels code place → All (IsKnown functions labels) code → ⊥
  lacks_label place r known = r.lacks (at_here (IsKnown functions labels) code place r.lacking known r.here).1

  -- a place at which an item is not known, and all before it are
  pub record IsFirstLacking (place : ℕ) : Type 0 where
    pub lacking : Item
    pub here : slice_get code place ≡ Some lacking
    pub before : All (IsKnown functions labels) (take place code)
    pub lacks : ¬ IsKnown functions labels lacking

  pub first_lacking : (p q : ℕ) → IsFirstLacking p → IsFirstLacking q → p ≡ q
  first_lacking = one_place IsFirstLacking apart
    where
      apart : (p q : ℕ) → p < q → IsFirstLacking p → IsFirstLacking q → ⊥
      apart p q below r s =
          r.lacks (at_here (IsKnown functions labels) (take q code) p r.lacking s.before (here_taken code p q r.lacking below r.here))

  pub lacking_function : (place : ℕ) → LacksFunction functions labels code place → IsFirstLacking place
  lacking_function place r = record { lacking = r.lacking; here = r.here; before = r.before; lacks = λ known. r.lacks known.0 }

  pub lacking_label : (place : ℕ) → LacksLabel functions labels code place → IsFirstLacking place
  lacking_label place r = record { lacking = r.lacking; here = r.here; before = r.before; lacks = λ known. r.lacks known.1 }

  -- a place lacks a function or, its functions being there, a label
  pub lacking_apart : (place : ℕ) → LacksFunction functions labels code place → LacksLabel functions labels code place → ⊥
  lacking_apart place r s =
      r.lacks (subst (λ i. AreAmong functions (callees_of i)) (same_here code place s.lacking r.lacking s.here r.here) s.functions_known)
