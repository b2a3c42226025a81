-- What is in lists that were appended or mapped, and membership by an index.
use Rattle.std.proofs.lemmas.List.{get_or-map, length-map}
use Rattle.std.proofs.Common.{◌≡◌, ℕ, zero, suc, ◌<◌, List, [], ◌∷◌, ◌++◌, length, map, get_or, refl, sym, ap, ◌∙◌, subst, inl, inr, arith}
use Rattle.std.specs.Prelude.{◌⊎◌}
use Rattle.std.specs.List.{Contains, flat_map}
use Rattle.bril_tree.specs.Membership.{In}

in_at : {A : Type 0} (x : A) (xs : List A) (k : ℕ) → k < length xs → get_or xs k x ≡ x → In x xs
in_at x [] k l e = absurd (omega arith)
in_at x (y ∷ ys) zero l e = inl (sym e)
in_at x (y ∷ ys) (suc k) l e = inr (in_at x ys k (omega arith) e)

pub in_contains : {A : Type 0} (x : A) (xs : List A) → Contains xs x → In x xs
in_contains x xs c = in_at x xs c.0 c.1 c.2

pub contains_in : {A : Type 0} (x : A) (xs : List A) → In x xs → Contains xs x
contains_in x [] h = absurd h
contains_in x (y ∷ ys) (inl e) = (0, omega arith, sym e)
contains_in x (y ∷ ys) (inr h) = let c = contains_in x ys h in (suc c.0, omega (arith, c.1), c.2)

-- what is in a list of one is that one
pub contains_one : {A : Type 0} (x y : A) → Contains (y ∷ []) x → x ≡ y
contains_one x y c = by (in_contains x (y ∷ []) c)
  where
    by : In x (y ∷ []) → x ≡ y
    by (inl e) = e
    by (inr h) = absurd h

pub in_append_left : {A : Type 0} (x : A) (xs ys : List A) → In x xs → In x (xs ++ ys)
in_append_left x [] ys h = absurd h
in_append_left x (z ∷ xs) ys (inl e) = inl e
in_append_left x (z ∷ xs) ys (inr h) = inr (in_append_left x xs ys h)

pub in_append_right : {A : Type 0} (x : A) (xs ys : List A) → In x ys → In x (xs ++ ys)
in_append_right x [] ys h = h
in_append_right x (z ∷ xs) ys h = inr (in_append_right x xs ys h)

either_more : {A : Type 0} (x z : A) (xs ys : List A) → In x xs ⊎ In x ys → In x (z ∷ xs) ⊎ In x ys
either_more x z xs ys (inl h) = inl (inr h)
either_more x z xs ys (inr h) = inr h

pub in_append_cases : {A : Type 0} (x : A) (xs ys : List A) → In x (xs ++ ys) → In x xs ⊎ In x ys
in_append_cases x [] ys h = inr h
in_append_cases x (z ∷ xs) ys (inl e) = inl (inl e)
in_append_cases x (z ∷ xs) ys (inr h) = either_more x z xs ys (in_append_cases x xs ys h)

pub in_map : {A B : Type 0} (f : A → B) (x : A) (xs : List A) → In x xs → In (f x) (map f xs)
in_map f x [] h = absurd h
in_map f x (y ∷ ys) (inl e) = inl (ap f e)
in_map f x (y ∷ ys) (inr h) = inr (in_map f x ys h)

pub in_map_source : {A B : Type 0} (f : A → B) (y : B) (xs : List A) → In y (map f xs) → (x : A) × In x xs × (y ≡ f x)
in_map_source f y [] h = absurd h
in_map_source f y (x ∷ xs) (inl e) = (x, inl refl, e)
in_map_source f y (x ∷ xs) (inr h) = let s = in_map_source f y xs h in (s.0, inr s.1, s.2)

pub in_flat_map : {A B : Type 0} (f : A → List B) (x : A) (y : B) (xs : List A) → In x xs → In y (f x) → In y (flat_map f xs)
in_flat_map f x y [] h i = absurd h
in_flat_map f x y (z ∷ xs) (inl e) i =
    in_append_left y (f z) (flat_map f xs) (subst (λ v. In y (f v)) e i)
in_flat_map f x y (z ∷ xs) (inr h) i = in_append_right y (f z) (flat_map f xs) (in_flat_map f x y xs h i)

source_more : {A B : Type 0} (f : A → List B) (y : B) (z : A) (xs : List A) → In y (f z) ⊎ ((x : A) × In x xs × In y (f x)) → (x : A) × In x (z ∷ xs) × In y (f x)
source_more f y z xs (inl i) = (z, inl refl, i)
source_more f y z xs (inr s) = (s.0, inr s.1, s.2)

either_source : {A B : Type 0} (f : A → List B) (y : B) (z : A) (xs : List A) → In y (f z) ⊎ In y (flat_map f xs) → (In y (flat_map f xs) → (x : A) × In x xs × In y (f x)) → In y (f z) ⊎ ((x : A) × In x xs × In y (f x))
either_source f y z xs (inl i) rest = inl i
either_source f y z xs (inr i) rest = inr (rest i)

pub in_flat_map_source : {A B : Type 0} (f : A → List B) (y : B) (xs : List A) → In y (flat_map f xs) → (x : A) × In x xs × In y (f x)
in_flat_map_source f y [] h = absurd h
in_flat_map_source f y (z ∷ xs) h =
    source_more f y z xs (either_source f y z xs (in_append_cases y (f z) (flat_map f xs) h) (λ i. in_flat_map_source f y xs i))

-- ---- by an index

pub Contains-map : {A B : Type 0} (f : A → B) (xs : List A) (x : A) → Contains xs x → Contains (map f xs) (f x)
Contains-map f xs x h =
    (h.0, rw length-map h.1, get_or-map f xs h.0 x (f x) h.1 ∙ ap f h.2)

pub Contains-map_back : {A B : Type 0} (f : A → B) (xs : List A) (y : B) → Contains (map f xs) y → (x : A) × Contains xs x × (f x ≡ y)
Contains-map_back f [] y h = absurd (omega (arith, h.1))
Contains-map_back f (x ∷ xs) y (zero, low, e) = (x, (0, omega arith, refl), e)
Contains-map_back f (x ∷ xs) y (suc k, low, e) =
    let rest = Contains-map_back f xs y (k, omega arith, e) in
    (rest.0, (suc rest.1.0, omega (arith, rest.1.1), rest.1.2), rest.2)
