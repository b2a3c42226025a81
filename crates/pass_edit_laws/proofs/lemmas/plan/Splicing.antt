-- Where the items of a spliced list stand, and what is in it.
use Rattle.std.proofs.Common.{◌≡◌, ◌⊎◌, ℕ, zero, suc, ◌+◌, ◌<◌, ◌≤◌, List, [], ◌∷◌, ◌++◌, length, Some, None, refl, sym, ap, ◌∙◌, inl, inr, ⊎_elim, arith, append_assoc}
use Rattle.std.specs.Prelude.{slice_get}
use Rattle.std.proofs.lemmas.List.{length-append}
use Rattle.std.proofs.lemmas.Option.{slice_get_past, slice_get_within}
use Rattle.bril_tree.specs.Membership.{In}
use Rattle.bril_tree.proofs.Members.{in_append_cases}
use Rattle.pass_edit_laws.specs.plan.Spliced.{spliced, start_of, position_of, ItemsSpliced}

pub get-right : {X : Type 0} (xs ys : List X) (n : ℕ) → slice_get (xs ++ ys) (length xs + n) ≡ slice_get ys n
get-right [] ys n = let e : 0 + n ≡ n = omega arith in ap (slice_get ys) e
get-right (x ∷ xs) ys n = let e : suc (length xs) + n ≡ suc (length xs + n) = omega arith in ap (slice_get (x ∷ xs ++ ys)) e ∙ get-right xs ys n

pub get-left : {X : Type 0} (xs ys : List X) (n : ℕ) → n < length xs → slice_get (xs ++ ys) n ≡ slice_get xs n
get-left [] ys n h = absurd (omega arith)
get-left (x ∷ xs) ys zero h = refl
get-left (x ∷ xs) ys (suc n) h = get-left xs ys n (omega arith)

module _ {X : Type 0} (before after : ℕ → List X) where
  record Split (items : List X) (i : ℕ) : Type 0 where
    front : List X
    rest : List X
    is : spliced before after 0 items ≡ front ++ spliced before after i rest
    long : length front ≡ start_of before after i
    from : (n : ℕ) → slice_get items (i + n) ≡ slice_get rest n

  split : (items : List X) (i : ℕ) → i ≤ length items → Split items i
  split items zero h = record { front = []; rest = items; is = refl; long = refl; from = λ n. let e : 0 + n ≡ n = omega arith in ap (slice_get items) e }
  split items (suc i) h = by (split items i (omega arith))
    where
      by_rest : (front rest : List X) → spliced before after 0 items ≡ front ++ spliced before after i rest → length front ≡ start_of before after i → ((n : ℕ) → slice_get items (i + n) ≡ slice_get rest n) → Split items (suc i)
      by_rest front [] is long from = absurd (let e : i + 0 ≡ i = omega arith in let none : slice_get items i ≡ None = ap (slice_get items) (sym e) ∙ from 0 in past items i h none)
        where
          past : (xs : List X) (n : ℕ) → suc n ≤ length xs → slice_get xs n ≡ None → ⊥
          past [] n l e = omega arith
          past (x ∷ xs) zero l e = cc
          past (x ∷ xs) (suc n) l e = past xs n (omega arith) e
      by_rest front (a ∷ rest) is long from = record {
        front = front ++ (before i ++ a ∷ after i);
        rest = rest;
        is = is ∙ ap (λ l. front ++ l) (sym (append_assoc (before i) (a ∷ after i) (spliced before after (suc i) rest))) ∙ sym (append_assoc front (before i ++ a ∷ after i) (spliced before after (suc i) rest));
        long = let l = length-append front (before i ++ a ∷ after i) in let m = length-append (before i) (a ∷ after i) in omega arith;
        from = λ n. let e : suc i + n ≡ i + suc n = omega arith in ap (slice_get items) e ∙ from (suc n);
      }

      by : Split items i → Split items (suc i)
      by s = by_rest s.front s.rest s.is s.long s.from

  -- a position in the list from item i on
  from_front : (items : List X) (i n : ℕ) (s : Split items i) → slice_get (spliced before after 0 items) (start_of before after i + n) ≡ slice_get (spliced before after i s.rest) n
  from_front items i n s =
      ap (λ m. slice_get (spliced before after 0 items) (m + n)) (sym s.long) ∙ ap (λ l. slice_get l (length s.front + n)) s.is ∙ get-right s.front (spliced before after i s.rest) n

  pub item-position : (items : List X) (i : ℕ) → i ≤ length items → slice_get (spliced before after 0 items) (position_of before after i) ≡ slice_get items i
  item-position items i h = by (split items i h)
    where
      here : (rest : List X) → slice_get (spliced before after i rest) (length (before i)) ≡ slice_get rest 0
      here [] = slice_get_past (before i) (length (before i)) (omega arith)
      here (a ∷ rest) = let e : length (before i) ≡ length (before i) + 0 = omega arith in ap (slice_get (before i ++ a ∷ (after i ++ spliced before after (suc i) rest))) e ∙ get-right (before i) (a ∷ (after i ++ spliced before after (suc i) rest)) 0

      by : Split items i → slice_get (spliced before after 0 items) (position_of before after i) ≡ slice_get items i
      by s = let e : i + 0 ≡ i = omega arith in from_front items i (length (before i)) s ∙ here s.rest ∙ sym (s.from 0) ∙ ap (slice_get items) e

  pub before-position : (items : List X) (i n : ℕ) → i ≤ length items → n < length (before i) → slice_get (spliced before after 0 items) (start_of before after i + n) ≡ slice_get (before i) n
  before-position items i n h less = by (split items i h)
    where
      here : (rest : List X) → slice_get (spliced before after i rest) n ≡ slice_get (before i) n
      here [] = refl
      here (a ∷ rest) = get-left (before i) (a ∷ (after i ++ spliced before after (suc i) rest)) n less

      by : Split items i → slice_get (spliced before after 0 items) (start_of before after i + n) ≡ slice_get (before i) n
      by s = from_front items i n s ∙ here s.rest

  pub after-position : (items : List X) (i n : ℕ) (a : X) → slice_get items i ≡ Some a → n < length (after i) → slice_get (spliced before after 0 items) (suc (position_of before after i) + n) ≡ slice_get (after i) n
  after-position items i n a at less = by (split items i (let w = slice_get_within items i a at in omega arith))
    where
      here : (rest : List X) → slice_get rest 0 ≡ Some a → slice_get (spliced before after i rest) (length (before i) + suc n) ≡ slice_get (after i) n
      here [] e = absurd (let h : None ≡ Some a = e in cc)
      here (b ∷ rest) e = get-right (before i) (b ∷ (after i ++ spliced before after (suc i) rest)) (suc n) ∙ get-left (after i) (spliced before after (suc i) rest) n less

      by : Split items i → slice_get (spliced before after 0 items) (suc (position_of before after i) + n) ≡ slice_get (after i) n
      by s =
          let e : suc (position_of before after i) + n ≡ start_of before after i + (length (before i) + suc n) = omega arith in
          let z : i ≡ i + 0 = omega arith in
          ap (slice_get (spliced before after 0 items)) e ∙ from_front items i (length (before i) + suc n) s ∙ here s.rest (sym (s.from 0) ∙ ap (slice_get items) (sym z) ∙ at)

-- what is in the list is one of its items, or was put before or after one
pub in-spliced : {X : Type 0} (before behind : ℕ → List X) (x : X) (k : ℕ) (items : List X) → In x (spliced before behind k items) → ((i : ℕ) × (slice_get items i ≡ Some x)) ⊎ (((i : ℕ) × In x (before i)) ⊎ ((i : ℕ) × In x (behind i)))
in-spliced before behind x k [] among = inr (inl (k, among))
in-spliced before behind x k (a ∷ items) among = ⊎_elim (λ b. inr (inl (k, b))) (λ r. ⊎_elim (λ e. inl (0, ap Some (sym e))) (λ s. ⊎_elim (λ b. inr (inr (k, b))) (λ t. deeper (in-spliced before behind x (suc k) items t)) (in_append_cases x (behind k) (spliced before behind (suc k) items) s)) r) (in_append_cases x (before k) (a ∷ (behind k ++ spliced before behind (suc k) items)) among)
  where
    deeper : ((i : ℕ) × (slice_get items i ≡ Some x)) ⊎ (((i : ℕ) × In x (before i)) ⊎ ((i : ℕ) × In x (behind i))) → ((i : ℕ) × (slice_get (a ∷ items) i ≡ Some x)) ⊎ (((i : ℕ) × In x (before i)) ⊎ ((i : ℕ) × In x (behind i)))
    deeper (inl h) = inl (suc h.0, h.1)
    deeper (inr h) = inr h

pub items_spliced : (X : Type 0) → ItemsSpliced X
items_spliced X = record {
  there = λ before after items i h. item-position before after items i h;
  in_front = λ before after items i n h less. before-position before after items i n h less;
  next_to = λ before after items i n a at less. after-position before after items i n a at less;
}
