-- The first item of a list that fails a test.
use Rattle.std.proofs.Common.{◌≡◌, ℕ, zero, suc, ◌+◌, ◌<◌, ◌≤◌, Bool, true, false, not, List, [], ◌∷◌, length, take, get_or, Some, None, All, sym, ◌∙◌, ap, subst, refl, arith}
use Rattle.std.specs.Prelude.{IsTrue, slice_get}
use Rattle.std.specs.List.{position, position_or_len}
use Rattle.std.proofs.lemmas.Bool.Decides.{nat_tests}
use Rattle.std.proofs.lemmas.List.{get_or-take, length-take, take_all, take-take}
use Rattle.std.proofs.lemmas.List.Elements.{All-take, All-more}
use Rattle.std.proofs.lemmas.List.Quantifiers.{position-Some}
use Rattle.std.proofs.lemmas.List.Sums.{fails_before_first}
use Rattle.std.proofs.lemmas.Option.{slice_get-get_or, slice_get_read, get_or_from_slice_get, slice_get_within}

not_false : (b : Bool) → not b ≡ false → b ≡ true
not_false true h = refl
not_false false h = cc

not_true : (b : Bool) → not b ≡ true → b ≡ false
not_true true h = cc
not_true false h = refl

-- an item of the front of a list is one of the list
pub item_of_front : {X : Type 0} (xs : List X) (n i : ℕ) (x : X) → slice_get (take n xs) i ≡ Some x → (i < n) × (slice_get xs i ≡ Some x)
item_of_front [] zero i x h = cc
item_of_front [] (suc n) i x h = cc
item_of_front (y ∷ ys) zero i x h = cc
item_of_front (y ∷ ys) (suc n) zero x h = (omega arith, h)
item_of_front (y ∷ ys) (suc n) (suc i) x h = let r = item_of_front ys n i x h in (omega (arith, r.0), r.1)

-- what holds of a front holds of the item at a lesser place
pub holds_before : {X : Type 0} (P : X → Type 0) (xs : List X) (n i : ℕ) (x : X) → All P (take n xs) → i < n → slice_get xs i ≡ Some x → P x
holds_before P xs n i x all lt here =
    let inside : i < length xs = slice_get_within xs i x here in
    subst P (get_or-take n xs i x lt ∙ get_or_from_slice_get xs i x x here) (all i x (omega (arith, length-take n xs)))

-- what holds of a front holds of a lesser one
pub All-front : {X : Type 0} (P : X → Type 0) (xs : List X) (i n : ℕ) → i ≤ n → All P (take n xs) → All P (take i xs)
All-front P xs i n le all = subst (All P) (take-take i n xs le) (All-take P i (take n xs) all)

pub record FirstFailing {X : Type 0} (p : X → Bool) (xs : List X) (i : ℕ) : Type 0 where
  pub item : X
  pub here : slice_get xs i ≡ Some item
  pub fails : p item ≡ false
  pub before : All (λ x. IsTrue (p x)) (take i xs)

module _ {X : Type 0} (p : X → Bool) where
  pub all_pass : (xs : List X) → None ≡ position (λ x. not (p x)) xs → All (λ x. IsTrue (p x)) xs
  all_pass xs none k d h =
      let past : length xs ≤ position_or_len (λ x. not (p x)) xs = grind (arith, nat_tests) in
      not_false (p (get_or xs k d)) (fails_before_first (λ x. not (p x)) xs k d (omega arith))

  first_at : (xs : List X) (i : ℕ) (d : X) → Some i ≡ position (λ x. not (p x)) xs → FirstFailing p xs i
  first_at xs i d some =
      let place = position-Some (λ x. not (p x)) xs i d (sym some) in
      record {
        item = get_or xs i d;
        here = slice_get-get_or xs i d place.0;
        fails = not_true (p (get_or xs i d)) place.1;
        before = λ k e h.
            let lt : k < i = omega (arith, length-take i xs) in
            rw (get_or-take i xs k e lt) (not_false (p (get_or xs k e)) ((position-Some (λ x. not (p x)) xs i e (sym some)).2 k lt));
      }

  pub first_fails : (xs : List X) (i : ℕ) → Some i ≡ position (λ x. not (p x)) xs → FirstFailing p xs i
  first_fails [] i some = cc
  first_fails (x ∷ xs) i some = first_at (x ∷ xs) i x some

module _ {X : Type 0} (P : X → Type 0) (xs ys : List X) (same : ys ≡ xs) where
  -- one more item of the front has what the front has
  pub All-next : (i : ℕ) (x : X) → i < length ys → x ≡ get_or ys i x → All P (take i xs) → P x → All P (take (i + 1) xs)
  All-next i x inside here all has =
      let lt : i < length xs = omega (arith, ap length same) in
      All-more P xs i x lt all (subst P (rw same at here) has)

  -- the front is all of the list
  pub All-whole : (i : ℕ) → length ys ≤ i → All P (take i xs) → All P xs
  All-whole i past all =
      let le : length xs ≤ i = omega (arith, ap length same) in
      subst (All P) (take_all i xs le) all

  -- the item at a place of the equal list
  pub item_at : (i : ℕ) (x : X) → i < length ys → x ≡ get_or ys i x → slice_get xs i ≡ Some x
  item_at i x inside here = rw same at (slice_get_read ys (length ys) i x refl inside here)
