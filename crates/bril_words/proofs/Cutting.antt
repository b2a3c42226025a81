-- The cut of words at the first `--`.
use Rattle.std.proofs.Common.{◌≡◌, ◌∙◌, refl, sym, ap, Bool, true, false, cond, ℕ, suc, ◌+◌, ◌-◌, ◌≤◌, List, [], ◌∷◌, length, take, drop, get_or, arith, Some, None, nat_lt}
use Rattle.std.specs.List.{position, position_or_len}
use Rattle.std.proofs.lemmas.List.{length-drop}
use Rattle.std.proofs.Math.ListN.{drop_of_length-le}
use Rattle.std.proofs.lemmas.Bool.Decides.{nat_tests}
use Rattle.clap.specs.Walk.{Text}
use Rattle.bril_words.specs.CommandLine.{arg_words, given_words, is_end, takes_args}
use Rattle.bril_words.proofs.Building.{taken_all}

found_at : (xs : List Text) (place : ℕ) → position is_end xs ≡ Some place → position_or_len is_end xs ≡ place
found_at xs place e = go (nat_lt (position_or_len is_end xs) (length xs)) e
  where
    go : (b : Bool) → cond b (Some (position_or_len is_end xs)) None ≡ Some place → position_or_len is_end xs ≡ place
    go true e = cc
    go false e = cc

not_found : (xs : List Text) → position is_end xs ≡ None → nat_lt (position_or_len is_end xs) (length xs) ≡ false
not_found xs e = go (nat_lt (position_or_len is_end xs) (length xs)) e
  where
    go : (b : Bool) → cond b (Some (position_or_len is_end xs)) None ≡ None → b ≡ false
    go true e = cc
    go false e = refl

past : (m n : ℕ) → nat_lt m n ≡ false → n ≤ m
past m n e = grind (arith, nat_tests)

less_two : (n : ℕ) → suc (suc n) - 2 ≡ n
less_two n = omega arith

more_two : (n : ℕ) → n + 2 ≡ suc (suc n)
more_two n = omega arith

-- what stands after the first two words
abbrev pub after_two : List Text → List Text
after_two words = take (length words - 2) (drop 2 words)

rest_is : (program word : Text) (rest : List Text) → after_two (program ∷ word ∷ rest) ≡ rest
rest_is program word rest = ap (λ n. take n rest) (less_two (length rest)) ∙ taken_all rest (length rest) (omega arith)

pub some_given : (words : List Text) (word : Text) (place : ℕ) → 2 ≤ length words → word ≡ get_or words 1 word → takes_args word ≡ true → position is_end (after_two words) ≡ Some place
    → take (place + 2) words ≡ given_words words
some_given [] word place le is takes at = absurd (omega arith)
some_given (p ∷ []) word place le is takes at = absurd (omega arith)
some_given (p ∷ w ∷ rest) word place le is takes at =
    let here : takes_args w ≡ true = ap takes_args (sym is) ∙ takes in
    let where_ = found_at rest place (ap (position is_end) (sym (rest_is p w rest)) ∙ at) in
    rw (more_two place, here, where_) refl

whole_take : (xs : List Text) (k : ℕ) → take (length xs - k) (drop k xs) ≡ drop k xs
whole_take xs k = taken_all (drop k xs) (length xs - k) (simp length-drop (omega arith))

pub some_args : (words : List Text) (word : Text) (place : ℕ) → 2 ≤ length words → word ≡ get_or words 1 word → takes_args word ≡ true → position is_end (after_two words) ≡ Some place
    → take (length (after_two words) - (place + 1)) (drop (place + 1) (after_two words)) ≡ arg_words words
some_args [] word place le is takes at = absurd (omega arith)
some_args (p ∷ []) word place le is takes at = absurd (omega arith)
some_args (p ∷ w ∷ rest) word place le is takes at =
    let here : takes_args w ≡ true = ap takes_args (sym is) ∙ takes in
    let where_ = found_at rest place (ap (position is_end) (sym (rest_is p w rest)) ∙ at) in
    ap (λ (xs : List Text). take (length xs - (place + 1)) (drop (place + 1) xs)) (rest_is p w rest) ∙ whole_take rest (place + 1)
    ∙ rw (here, where_) refl

pub none_given : (words : List Text) (word : Text) → 2 ≤ length words → word ≡ get_or words 1 word → takes_args word ≡ true → position is_end (after_two words) ≡ None → words ≡ given_words words
none_given [] word le is takes none = absurd (omega arith)
none_given (p ∷ []) word le is takes none = absurd (omega arith)
none_given (p ∷ w ∷ rest) word le is takes none =
    let here : takes_args w ≡ true = ap takes_args (sym is) ∙ takes in
    let after = past (position_or_len is_end rest) (length rest) (not_found rest (ap (position is_end) (sym (rest_is p w rest)) ∙ none)) in
    rw (here, taken_all rest (position_or_len is_end rest) after) refl

nothing : (n : ℕ) (xs : List Text) → xs ≡ [] → take n xs ≡ []
nothing n xs e = ap (take n) e ∙ taken_all [] n (omega arith)

pub none_args : (words : List Text) (word : Text) → 2 ≤ length words → word ≡ get_or words 1 word → takes_args word ≡ true → position is_end (after_two words) ≡ None
    → take (length (after_two words) - length (after_two words)) (drop (length (after_two words)) (after_two words)) ≡ arg_words words
none_args [] word le is takes none = absurd (omega arith)
none_args (p ∷ []) word le is takes none = absurd (omega arith)
none_args (p ∷ w ∷ rest) word le is takes none =
    let here : takes_args w ≡ true = ap takes_args (sym is) ∙ takes in
    let after = past (position_or_len is_end rest) (length rest) (not_found rest (ap (position is_end) (sym (rest_is p w rest)) ∙ none)) in
    let all = after_two (p ∷ w ∷ rest) in
    nothing (length all - length all) (drop (length all) all) (drop_of_length-le all (omega arith))
    ∙ rw here (sym (drop_of_length-le rest (omega arith)))
