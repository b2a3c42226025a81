-- The first item that fails a test, by a search from the front.
use Rattle.std.proofs.Common.{◌≡◌, ℕ, ◌+◌, ◌<◌, ◌≤◌, Bool, true, false, not, List, [], ◌∷◌, length, take, get_or, Some, None, All, refl, subst, arith}
use Rattle.std.specs.List.{position, position_or_len}
use Rattle.std.proofs.lemmas.Bool.Decides.{nat_tests}
use Rattle.std.proofs.lemmas.Grind.{common_steps}
use Rattle.std.proofs.lemmas.List.Elements.{All-tail, All-more}
use Rattle.std.proofs.lemmas.List.Sums.{position_or_len_is}

module _ {X : Type 0} (p : X → Bool) where
  pub first_failing : (xs : List X) (i : ℕ) (x : X) → i < length xs → x ≡ get_or xs i x → All (λ y. p y ≡ true) (take i xs) → p x ≡ false →
      Some i ≡ position (λ y. not (p y)) xs
  first_failing xs i x inside here before fails =
      let e : position_or_len (λ y. not (p y)) xs ≡ i =
      position_or_len_is (λ y. not (p y)) xs i x (omega arith) (λ k h. grind (arith, common_steps, before k x)) (λ _. grind (arith, common_steps)) in
      grind (arith, nat_tests)

  pub none_failing : (xs : List X) (i : ℕ) → length xs ≤ i → All (λ y. p y ≡ true) (take i xs) → None ≡ position (λ y. not (p y)) xs
  none_failing xs i all before =
      let e : position_or_len (λ y. not (p y)) xs ≡ length xs = passed_all xs (λ k d h. grind (arith, common_steps, before k d)) in
      grind (arith, nat_tests)
    where
      passed_all : (ys : List X) → All (λ y. p y ≡ true) ys → position_or_len (λ y. not (p y)) ys ≡ length ys
      passed_all [] pass = refl
      passed_all (y ∷ ys) pass =
          let h : p y ≡ true = pass 0 y (omega arith) in
          let e = passed_all ys (All-tail (λ y. p y ≡ true) y ys pass) in
          grind (arith, common_steps)

  pub one_more : (xs : List X) (i : ℕ) (x : X) → i < length xs → x ≡ get_or xs i x → All (λ y. p y ≡ true) (take i xs) → p x ≡ true →
      All (λ y. p y ≡ true) (take (i + 1) xs)
  one_more xs i x inside here before passes =
      let P : X → Type 0 = λ y. p y ≡ true in
      All-more P xs i x inside before (subst P here passes)
