-- The names of functions in a linked tree: two functions have two names.
use Rattle.std.proofs.Common.{◌≡◌, ◌≢◌, ◌∙◌, refl, sym, ap, ap₂, true, false, ℕ, zero, suc, ◌<◌, ◌^◌, List, [], ◌∷◌, ◌++◌, length, arith, append_assoc}
use Rattle.std.specs.Prelude.{if◌then◌else◌, replicate}
use Rattle.std.specs.Char.{is_ascii_digit}
use Rattle.std.specs.Fmt.{decimal}
use Rattle.std.specs.Str.{all_ascii_digits}
use Rattle.std.specs.Str.Parse.{digits_value}
use Rattle.std.proofs.lemmas.Bool.{and_parts, true≢false}
use Rattle.std.proofs.lemmas.Fmt.{decimal_injective, decimal_nonempty, digits_decimal}
use Rattle.std.proofs.lemmas.List.{append_cancel_left}
use Rattle.std.proofs.lemmas.Str.Parse.{IsNumeralModel, numerals_by_value, tells_all_ascii_digits}
use Rattle.import_linker.proofs.RunLengths.{not_equal}
use Rattle.import_linker.specs.Linked.{begins_so, spelled}

own : IsNumeralModel (λ ds. all_ascii_digits ds ≡ true) (digits_value 10)
own = numerals_by_value (λ ds. all_ascii_digits ds ≡ true) tells_all_ascii_digits

-- ---- digits and a dot

no_dot : (d : ℕ) → is_ascii_digit d ≡ true → d ≡ 46 → ⊥
no_dot d digit e = true≢false (sym digit ∙ ap is_ascii_digit e)

-- two numbers with a dot and a name after each
numbers_first : (ds es xs ys : List ℕ) → all_ascii_digits ds ≡ true → all_ascii_digits es ≡ true → ds ++ 46 ∷ xs ≡ es ++ 46 ∷ ys → ds ≡ es
numbers_first [] [] xs ys a b e = refl
numbers_first [] (c ∷ es) xs ys a b e = absurd (no_dot c (and_parts (is_ascii_digit c) (all_ascii_digits es) b).0 (let h : 46 ≡ c = cc in sym h))
numbers_first (d ∷ ds) [] xs ys a b e = absurd (no_dot d (and_parts (is_ascii_digit d) (all_ascii_digits ds) a).0 (let h : d ≡ 46 = cc in h))
numbers_first (d ∷ ds) (c ∷ es) xs ys a b e =
    let head : d ≡ c = cc in
    let tail : ds ++ 46 ∷ xs ≡ es ++ 46 ∷ ys = cc in
    ap₂ (λ (x : ℕ) (l : List ℕ). x ∷ l) head (numbers_first ds es xs ys (and_parts (is_ascii_digit d) (all_ascii_digits ds) a).1 (and_parts (is_ascii_digit c) (all_ascii_digits es) b).1 tail)

digit_first : (ds xs : List ℕ) → all_ascii_digits ds ≡ true → 0 < length ds → begins_so 0 (ds ++ xs) ≡ true
digit_first [] xs digits some = absurd (omega arith)
digit_first (d ∷ ds) xs digits some = (and_parts (is_ascii_digit d) (all_ascii_digits ds) digits).0

marks_first : (r : ℕ) (xs : List ℕ) → begins_so 0 xs ≡ true → begins_so r (replicate r 95 ++ xs) ≡ true
marks_first zero xs h = h
marks_first (suc r) xs h = marks_first r xs h

-- ---- names

module _ (run : ℕ) where
  -- the name in the tree of the function of a name in the file of a number
  abbrev pub name_in : ℕ → List ℕ → List ℕ
  name_in file name = spelled run (record { file = file; name = name })

  later : (file : ℕ) (name : List ℕ) → 0 < file → name_in file name ≡ replicate run 95 ++ (decimal file ++ 46 ∷ name)
  later file name some =
      ap (λ b. if b then name else replicate run 95 ++ decimal file ++ 46 ∷ name) (not_equal file 0 (λ e. omega arith))
      ∙ append_assoc (replicate run 95) (decimal file) (46 ∷ name)

  -- functions of one file
  pub same_in : (file : ℕ) (x y : List ℕ) → name_in file x ≡ name_in file y → x ≡ y
  same_in zero x y e = e
  same_in (suc k) x y e =
      let whole = sym (later (suc k) x (omega arith)) ∙ e ∙ later (suc k) y (omega arith) in
      let rest = append_cancel_left (decimal (suc k)) (46 ∷ x) (46 ∷ y) (append_cancel_left (replicate run 95) (decimal (suc k) ++ 46 ∷ x) (decimal (suc k) ++ 46 ∷ y) whole) in
      cc

  -- a later file's begins with the run and a digit
  begins : (file : ℕ) (name : List ℕ) → 0 < file → file < 2 ^ 64 → begins_so run (name_in file name) ≡ true
  begins file name some small =
      ap (begins_so run) (later file name some)
      ∙ marks_first run (decimal file ++ 46 ∷ name) (digit_first (decimal file) (46 ∷ name) (digits_decimal own file small) (decimal_nonempty file small))

  -- functions of two files, of which those of file 0 don't begin so
  pub apart_in : (m n : ℕ) (x y : List ℕ) → m < n → n < 2 ^ 64 → (m ≡ 0 → begins_so run x ≡ false) → name_in m x ≡ name_in n y → ⊥
  apart_in zero n x y less small fresh e = true≢false (sym (begins n y (omega arith) small) ∙ ap (begins_so run) (sym e) ∙ fresh refl)
  apart_in (suc k) n x y less small fresh e =
      let whole = sym (later (suc k) x (omega arith)) ∙ e ∙ later n y (omega arith) in
      let rest = append_cancel_left (replicate run 95) (decimal (suc k) ++ 46 ∷ x) (decimal n ++ 46 ∷ y) whole in
      let below : suc k < 2 ^ 64 = omega arith in
      let numbers = numbers_first (decimal (suc k)) (decimal n) x y (digits_decimal own (suc k) below) (digits_decimal own n small) rest in
      let same : suc k ≡ n = decimal_injective (suc k) n below small numbers in
      omega arith
