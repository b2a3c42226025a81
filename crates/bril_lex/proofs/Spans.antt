-- How far a test holds at the front of bytes.
use Rattle.std.proofs.Common.{◌≡◌, ℕ, zero, suc, ◌+◌, Bool, true, false, cond, List, [], ◌∷◌, ◌++◌, length, take, drop, refl, ap, subst, ⊎_elim, zero-add, arith}
use Rattle.std.proofs.Math.Numerals.{one-add}
use Rattle.std.proofs.Math.Nat.{suc-add}
use Rattle.std.proofs.lemmas.Bool.{and_parts, and_from, or_cases, eqb-true}
use Rattle.std.specs.Prelude.{◌==◌}
use Rattle.std.specs.List.{list_all, list_any, prefix_len}

-- a test that holds for all of a text continues after it
pub prefix_len-append_all : (p : ℕ → Bool) (text rest : List ℕ) → list_all p text ≡ true → prefix_len p (text ++ rest) ≡ length text + prefix_len p rest
prefix_len-append_all p [] rest h = omega arith
prefix_len-append_all p (b ∷ bs) rest h =
    let parts = and_parts (p b) (list_all p bs) h in
    rw parts.0 (omega (arith, prefix_len-append_all p bs rest parts.1))

-- the test holds for all that it counts
pub list_all-prefix : (p : ℕ → Bool) (bytes : List ℕ) → list_all p (take (prefix_len p bytes) bytes) ≡ true
list_all-prefix p [] = refl
list_all-prefix p (b ∷ bs) = by (list_all-prefix p bs) (p b) refl
  where
    by : list_all p (take (prefix_len p bs) bs) ≡ true → (t : Bool) → p b ≡ t → list_all p (take (cond t (1 + prefix_len p bs) 0) (b ∷ bs)) ≡ true
    by ih true e = rw one-add (and_from _ _ e ih)
    by ih false e = refl

-- what holds for each byte of a list holds for one that equals some byte of it
abbrev pub Each : (ℕ → Type 0) → List ℕ → Type 0
Each P [] = Unit {0}
Each P (b ∷ bs) = P b × Each P bs

pub one_of : (P : ℕ → Type 0) (bs : List ℕ) (b : ℕ) → list_any (λ x. x == b) bs ≡ true → Each P bs → P b
one_of P [] b h each = cc
one_of P (x ∷ xs) b h each =
    ⊎_elim (λ here. subst P (eqb-true x b here) each.0) (λ there. one_of P xs b there each.1)
    (or_cases (x == b) (list_any (λ y. y == b) xs) h)

pub take_append : (xs ys : List ℕ) (n : ℕ) → take (length xs + n) (xs ++ ys) ≡ xs ++ take n ys
take_append [] ys n = rw zero-add refl
take_append (x ∷ xs) ys n = rw suc-add (ap (λ l. x ∷ l) (take_append xs ys n))

pub drop_append : (xs ys : List ℕ) (n : ℕ) → drop (length xs + n) (xs ++ ys) ≡ drop n ys
drop_append [] ys n = rw zero-add refl
drop_append (x ∷ xs) ys n = rw suc-add (drop_append xs ys n)

-- the test holds for each front of what it holds for
pub list_all-take : (p : ℕ → Bool) (n : ℕ) (bytes : List ℕ) → list_all p bytes ≡ true → list_all p (take n bytes) ≡ true
list_all-take p zero bytes h = refl
list_all-take p (suc n) [] h = refl
list_all-take p (suc n) (b ∷ bs) h =
    let parts = and_parts (p b) (list_all p bs) h in
    and_from _ _ parts.0 (list_all-take p n bs parts.1)
