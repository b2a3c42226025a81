-- Counts, as digits.
use Rattle.std.proofs.Common.{◌≡◌, ◌≢◌, ℕ, zero, suc, ◌<◌, ◌≤◌, ◌^◌, get_or, Bool, true, List, [], ◌∷◌, length, Result, Ok, Err, IsUtf8, sym, ap, subst, ◌∙◌, arith}
use Rattle.std.specs.Fmt.{decimal}
use Rattle.std.specs.Prelude.{MatchOption, ◌==◌}
use Rattle.std.specs.Result.{result_ok}
use Rattle.std.specs.Str.Parse.{AllDigits, ParsesUnsigned, digits_value}
use Rattle.std.proofs.lemmas.Bool.{eqb-true}
use Rattle.std.proofs.lemmas.Fmt.{IsAscii-decimal, decimal-digits_value, decimal_digit, decimal_is_IsNumeral, first_decimal}
use Rattle.std.proofs.lemmas.List.Elements.{All-nil, All-cons}
use Rattle.std.proofs.lemmas.Str.{IsUtf8-from_ascii}
use Rattle.std.proofs.lemmas.Str.Parse.{IsNumeralModel, digit_from_value, numerals_by_value, parse_plain, tells_digits}
use Rattle.profile_text.specs.declared.version.Version.TheVariants.{Second}
use Rattle.profile_text.specs.Form.{IsCount, Lacks}

own : IsNumeralModel (AllDigits 10) (digits_value 10)
own = numerals_by_value (AllDigits 10) tells_digits

-- ---- what digits lack

digits_lack : (b : ℕ) → b < 48 → (digits : List ℕ) → AllDigits 10 digits → Lacks b digits
digits_lack b low [] h = All-nil (λ c. c ≢ b)
digits_lack b low (d ∷ ds) h = All-cons (λ c. c ≢ b) d ds (λ e. let r = digit_from_value d h.0 in let l = r.0 in omega arith) (digits_lack b low ds h.1)

pub count_lacks : (b count : ℕ) → b < 48 → count < 2 ^ 32 → Lacks b (decimal count)
count_lacks b count low small = digits_lack b low (decimal count) (decimal_is_IsNumeral count (omega arith)).0.1

-- ---- which digits are a count's

-- the digits of a count begin with no zero and no plus
pub first_digit : (digits : List ℕ) (count : ℕ) → IsCount Second count → digits ≡ decimal count → 48 < get_or digits 0 0
first_digit digits count fits e = subst (λ (z : List ℕ). 48 < get_or z 0 0) (sym e) (first_decimal count (let h = fits.0 in omega arith) (let h = fits.1 in omega arith))

pub empty_digits : (digits : List ℕ) (count : ℕ) (b : Bool) → IsCount Second count → digits ≡ decimal count → b ≡ (length digits == 0) → b ≡ true → ⊥
empty_digits digits count b fits e is on =
    let some : 0 < length (decimal count) = (decimal_is_IsNumeral count (let h = fits.1 in omega arith)).0.0 in
    let none : length digits ≡ 0 = eqb-true (length digits) 0 (sym is ∙ on) in
    let same : length digits ≡ length (decimal count) = ap (λ (z : List ℕ). length z) e in
    omega arith

pub count_is_text : (digits : List ℕ) (count : ℕ) → IsCount Second count → digits ≡ decimal count → IsUtf8 digits
count_is_text digits count fits e = subst IsUtf8 (sym e) (IsUtf8-from_ascii (decimal count) (IsAscii-decimal count (let h = fits.1 in omega arith)))

-- digits that begin with no zero are of 1 or more
some_count : (digits : List ℕ) (n : ℕ) → (get_or digits 0 0 ≡ 48 → ⊥) → digits ≡ decimal n → 1 ≤ n
some_count digits zero no_zero is = absurd (no_zero (ap (λ (z : List ℕ). get_or z 0 0) (is ∙ decimal_digit 0 (omega arith))))
some_count digits (suc n) no_zero is = omega arith

-- what `parse` answers at digits that begin with no zero and no plus
module _ {E : Type 0} where
  pub parsed_count : (digits : List ℕ) (r : Result ℕ E) → ParsesUnsigned 32 10 digits r → (get_or digits 0 0 ≡ 48 → ⊥) → (get_or digits 0 0 ≡ 43 → ⊥)
      → MatchOption (result_ok r) ((count : ℕ) → IsCount Second count → digits ≡ decimal count → ⊥) (λ count. (digits ≡ decimal count) × IsCount Second count)
  parsed_count digits (Ok n) h no_zero no_plus =
      let k : (AllDigits 10 digits × (0 < length digits) × (digits_value 10 digits < 2 ^ 32)) × (n ≡ digits_value 10 digits) = parse_plain own {E = E} 32 digits (Ok n) h no_plus in
      let small : digits_value 10 digits < 2 ^ 32 = k.0.2 in
      let value : n ≡ digits_value 10 digits = k.1 in
      let is : digits ≡ decimal n = sym (decimal-digits_value own digits k.0.0 k.0.1 (λ z. absurd (no_zero z)) (omega arith)) ∙ ap decimal (sym value) in
      (is, (some_count digits n no_zero is, omega arith))
  parsed_count digits (Err e) h no_zero no_plus = λ count fits is.
      let small : count < 2 ^ 32 = fits.1 in
      let numeral = decimal_is_IsNumeral count (omega arith) in
      let value : digits_value 10 digits ≡ count = ap (digits_value 10) is ∙ numeral.1 in
      parse_plain own {E = E} 32 digits (Err e) h no_plus (subst (AllDigits 10) (sym is) numeral.0.1, subst (λ (z : List ℕ). 0 < length z) (sym is) numeral.0.0, omega arith)
