-- Numbers of names: names that differ have one number each.
use Rattle.std.proofs.Common.{◌≡◌, ◌≢◌, ◌⊎◌, ℕ, zero, suc, ◌+◌, ◌<◌, ◌≤◌, true, List, [], ◌∷◌, ◌++◌, length, map, take, get_or, nat_lt, refl, sym, ◌∙◌, arith, inl, inr, ltb-true, lt-ltb, subst}
use Rattle.std.specs.List.{list_all, range_with_len, AllPairs, Contains}
use Rattle.std.proofs.lemmas.Bool.{cases_order, and_parts, and_from}
use Rattle.std.proofs.lemmas.List.{length-map, length-take, get_or-map, get_or-take}
use Rattle.std.proofs.lemmas.List.Elements.{All-nil, All-cons, All-head, All-tail, Contains-get_or}
use Rattle.bril_tree.specs.Numbered.{named}
use Rattle.bril_tree.specs.Membership.{In}
use Rattle.bril_names.specs.Faults.{Differ, AreAmong}
use Rattle.bril_names.specs.Range.{AreBelow}

-- ---- names that differ

pub one_number : (names : List (List ℕ)) → Differ names → (x y : ℕ) → x < length names → y < length names → named names x ≡ named names y → x ≡ y
one_number names differ x y x_in y_in same = by (cases_order x y)
  where
    by : (x ≡ y) ⊎ ((x < y) ⊎ (y < x)) → x ≡ y
    by (inl e) = e
    by (inr (inl l)) = absurd (differ x y [] l y_in same)
    by (inr (inr l)) = absurd (differ y x [] l x_in (sym same))

-- things whose names differ have names that differ
pub Differ-named : {A : Type 0} (name : A → List ℕ) (xs : List A) → AllPairs (λ x y. name x ≢ name y) xs → Differ (map name xs)
Differ-named name [] differ i j d l within same = absurd (omega arith)
Differ-named name (x ∷ xs) differ i j d l within same =
    let len = length-map (x ∷ xs) name in
    let j_in : j < length (x ∷ xs) = omega arith in
    let i_in : i < length (x ∷ xs) = omega arith in
    differ i j x l j_in (sym (get_or-map name (x ∷ xs) i x d i_in) ∙ same ∙ get_or-map name (x ∷ xs) j x d j_in)

pub named_apart : {A : Type 0} (name : A → List ℕ) (xs : List A) → Differ (map name xs) → AllPairs (λ x y. name x ≢ name y) xs
named_apart name xs differ i j d l within same =
    let len = length-map xs name in
    let i_in : i < length xs = omega arith in
    differ i j [] l (omega arith) (get_or-map name xs i d [] i_in ∙ same ∙ sym (get_or-map name xs j d [] within))

pub Differ-take : (n : ℕ) (names : List (List ℕ)) → Differ names → Differ (take n names)
Differ-take n names differ i j d l within same =
    let len = length-take n names in
    let j_in : j < length names = omega arith in
    let j_taken : j < n = omega arith in
    let i_taken : i < n = omega arith in
    differ i j d l j_in (sym (get_or-take n names i d i_taken) ∙ same ∙ get_or-take n names j d j_taken)

-- ---- numbers in range

pub AreBelow-at : (n : ℕ) (xs : List ℕ) (i d : ℕ) → i < length xs → AreBelow n xs → get_or xs i d < n
AreBelow-at n [] i d within below = absurd (omega arith)
AreBelow-at n (x ∷ xs) zero d within below = below.0
AreBelow-at n (x ∷ xs) (suc i) d within below = AreBelow-at n xs i d (omega arith) below.1

pub AreBelow-in : (n : ℕ) (xs : List ℕ) → AreBelow n xs → (x : ℕ) → In x xs → x < n
AreBelow-in n [] h x i = absurd i
AreBelow-in n (y ∷ xs) h x (inl e) = subst (λ z. z < n) (sym e) h.0
AreBelow-in n (y ∷ xs) h x (inr i) = AreBelow-in n xs h.1 x i

pub AreBelow-append : (n : ℕ) (xs ys : List ℕ) → AreBelow n (xs ++ ys) → AreBelow n xs × AreBelow n ys
AreBelow-append n [] ys below = (tt, below)
AreBelow-append n (x ∷ xs) ys below = let rest = AreBelow-append n xs ys below.1 in ((below.0, rest.0), rest.1)

pub AreBelow-join : (n : ℕ) (xs ys : List ℕ) → AreBelow n xs → AreBelow n ys → AreBelow n (xs ++ ys)
AreBelow-join n [] ys below rest = rest
AreBelow-join n (x ∷ xs) ys below rest = (below.0, AreBelow-join n xs ys below.1 rest)

pub test_of_AreBelow : (n : ℕ) (xs : List ℕ) → AreBelow n xs → list_all (λ x. nat_lt x n) xs ≡ true
test_of_AreBelow n [] below = refl
test_of_AreBelow n (x ∷ xs) below = and_from (nat_lt x n) (list_all (λ y. nat_lt y n) xs) (lt-ltb x n below.0) (test_of_AreBelow n xs below.1)

pub AreBelow-tested : (n : ℕ) (xs : List ℕ) → list_all (λ x. nat_lt x n) xs ≡ true → AreBelow n xs
AreBelow-tested n [] test = tt
AreBelow-tested n (x ∷ xs) test =
    let parts = and_parts (nat_lt x n) (list_all (λ y. nat_lt y n) xs) test in
    (ltb-true x n parts.0, AreBelow-tested n xs parts.1)

pub AreBelow-range : (n from count : ℕ) → from + count ≤ n → AreBelow n (range_with_len from count)
AreBelow-range n from zero within = tt
AreBelow-range n from (suc count) within = (omega arith, AreBelow-range n (from + 1) count (omega arith))

-- numbers in range that name the same are the same
pub same_numbers : (names : List (List ℕ)) → Differ names → (xs ys : List ℕ) → AreBelow (length names) xs → AreBelow (length names) ys → map (named names) xs ≡ map (named names) ys → xs ≡ ys
same_numbers names differ [] [] xs_in ys_in same = refl
same_numbers names differ [] (y ∷ ys) xs_in ys_in same = absurd cc
same_numbers names differ (x ∷ xs) [] xs_in ys_in same = absurd cc
same_numbers names differ (x ∷ xs) (y ∷ ys) xs_in ys_in same =
    let head : named names x ≡ named names y = cc in
    let tail : map (named names) xs ≡ map (named names) ys = cc in
    let e = one_number names differ x y xs_in.0 ys_in.0 head in
    let rest = same_numbers names differ xs ys xs_in.1 ys_in.1 tail in
    λ i. e i ∷ rest i

pub AreAmong-none : (names : List (List ℕ)) → AreAmong names []
AreAmong-none names = All-nil (Contains names)

pub AreAmong-parts : (known xs ys : List (List ℕ)) → AreAmong known (xs ++ ys) → AreAmong known xs × AreAmong known ys
AreAmong-parts known [] ys among = (All-nil (Contains known), among)
AreAmong-parts known (x ∷ xs) ys among =
    let rest = AreAmong-parts known xs ys (All-tail (Contains known) x (xs ++ ys) among) in
    (All-cons (Contains known) x xs (All-head (Contains known) x (xs ++ ys) among) rest.0, rest.1)

-- the names of numbers in range are among the names
pub AreAmong-named : (names : List (List ℕ)) (xs : List ℕ) → AreBelow (length names) xs → AreAmong names (map (named names) xs)
AreAmong-named names [] below = All-nil (Contains names)
AreAmong-named names (x ∷ xs) below =
    All-cons (Contains names) (named names x) (map (named names) xs) (Contains-get_or names x [] below.0) (AreAmong-named names xs below.1)
