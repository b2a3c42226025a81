-- Words of a list that move to the front, and words that are cut off.
use Rattle.std.proofs.Common.{◌≡◌, ℕ, ◌+◌, ◌-◌, ◌<◌, ◌≤◌, Bool, true, false, ◌&&◌, cond, leb, ltb, List, refl, sym, ap, ◌∙◌, ⊎_elim, arith}
use Rattle.std.specs.List.{CopiedTo, SameBelow, SameFrom}
use Rattle.std.proofs.lemmas.Bool.{cases_lt}
use Rattle.std.proofs.lemmas.Bool.Decides.{nat_tests}
use Rattle.rv64_words.specs.State.{words_of}
use Rattle.rv64_words.proofs.Words.{same_words}
use Rattle.rv64_processor.specs.RegionView.{moved_down}

pub words_of-moved : (xs ys : List ℕ) (from to count : ℕ) → CopiedTo xs ys from to count → SameBelow xs ys to → SameFrom xs ys (to + count) → words_of ys ≡ moved_down (words_of xs) from to count
words_of-moved xs ys from to count copied below past = same_words _ _ (λ i. ⊎_elim (before i) (λ le. ⊎_elim (inside i le) (after i) (cases_lt i (to + count))) (cases_lt i to))
  where
    first : (i : ℕ) → i < to → (leb to i && ltb i (to + count)) ≡ false
    first i lt = grind (arith, nat_tests)

    within : (i : ℕ) → to ≤ i → i < to + count → (leb to i && ltb i (to + count)) ≡ true
    within i le lt = grind (arith, nat_tests)

    behind : (i : ℕ) → to + count ≤ i → (leb to i && ltb i (to + count)) ≡ false
    behind i le = grind (arith, nat_tests)

    before : (i : ℕ) → i < to → words_of ys i ≡ moved_down (words_of xs) from to count i
    before i lt = below i 0 lt ∙ ap (λ t. cond t (words_of xs (from + (i - to))) (words_of xs i)) (sym (first i lt))

    inside : (i : ℕ) → to ≤ i → i < to + count → words_of ys i ≡ moved_down (words_of xs) from to count i
    inside i le lt = copied i 0 le lt ∙ ap (λ t. cond t (words_of xs (from + (i - to))) (words_of xs i)) (sym (within i le lt))

    after : (i : ℕ) → to + count ≤ i → words_of ys i ≡ moved_down (words_of xs) from to count i
    after i le = past i 0 le ∙ ap (λ t. cond t (words_of xs (from + (i - to))) (words_of xs i)) (sym (behind i le))

-- words that stand there already
pub moved-same : (words : ℕ → ℕ) (from count : ℕ) → words ≡ moved_down words from from count
moved-same words from count = same_words _ _ (λ i. by i (leb from i) refl)
  where
    at : (i : ℕ) → leb from i ≡ true → i ≡ from + (i - from)
    at i e = let le : from ≤ i = grind (arith, nat_tests) in omega arith

    inner : (i : ℕ) → i ≡ from + (i - from) → (t : Bool) → words i ≡ cond t (words (from + (i - from))) (words i)
    inner i e true = ap words e
    inner i e false = refl

    by : (i : ℕ) (t : Bool) → leb from i ≡ t → words i ≡ moved_down words from from count i
    by i true e = inner i (at i e) (leb from i && ltb i (from + count))
    by i false e = ap (λ t. cond (t && ltb i (from + count)) (words (from + (i - from))) (words i)) (sym e)

-- none
pub moved-none : (words : ℕ → ℕ) (from to : ℕ) → words ≡ moved_down words from to 0
moved-none words from to = same_words _ _ (λ i. ap (λ t. cond t (words (from + (i - to))) (words i)) (sym (out i)))
  where
    out : (i : ℕ) → (leb to i && ltb i (to + 0)) ≡ false
    out i = grind (arith, nat_tests)
