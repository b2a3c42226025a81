-- Items, as digits.
use Rattle.std.proofs.Common.{◌≡◌, ◌≢◌, ℕ, zero, suc, ◌<◌, ◌^◌, nat_eq, get_or, Bool, true, List, [], ◌∷◌, length, Result, Ok, Err, IsUtf8, sym, ap, subst, ◌∙◌, arith}
use Rattle.std.specs.Fmt.{decimal}
use Rattle.std.specs.Prelude.{MatchOption, ◌==◌}
use Rattle.std.specs.Cmp.Lexicographic.{pointwise}
use Rattle.std.specs.Result.{result_ok}
use Rattle.std.specs.Str.Parse.{AllDigits, ParsesUnsigned, digits_value}
use Rattle.std.proofs.lemmas.Bool.{eqb-true}
use Rattle.std.proofs.lemmas.Fmt.{IsAscii-decimal, decimal-digits_value, decimal_digit, decimal_is_IsNumeral, first_decimal}
use Rattle.std.proofs.lemmas.List.Elements.{All-nil, All-cons}
use Rattle.std.proofs.lemmas.Str.{IsUtf8-from_ascii}
use Rattle.std.proofs.lemmas.Str.Parse.{IsNumeralModel, digit_from_value, numerals_by_value, parse_plain, tells_digits}
use Rattle.monitor_script.specs.Form.{Lacks}
use Rattle.monitor_script.proofs.Cuts.{equal}

own : IsNumeralModel (AllDigits 10) (digits_value 10)
own = numerals_by_value (AllDigits 10) tells_digits

-- ---- what digits lack

digits_lack : (b : ℕ) → b < 48 → (digits : List ℕ) → AllDigits 10 digits → Lacks b digits
digits_lack b low [] h = All-nil (λ c. c ≢ b)
digits_lack b low (d ∷ ds) h = All-cons (λ c. c ≢ b) d ds (λ e. let r = digit_from_value d h.0 in let l = r.0 in omega arith) (digits_lack b low ds h.1)

pub item_lacks : (b item : ℕ) → b < 48 → item < 2 ^ 32 → Lacks b (decimal item)
item_lacks b item low small = digits_lack b low (decimal item) (decimal_is_IsNumeral item (omega arith)).0.1

-- ---- which digits are an item's

pub spells_zero : (digits ys : List ℕ) (r : Bool) → r ≡ pointwise nat_eq digits ys → r ≡ true → ys ≡ 48 ∷ [] → (digits ≡ decimal 0) × (0 < 2 ^ 32)
spells_zero digits ys r is on same = (equal digits ys (48 ∷ []) r is on same ∙ sym (decimal_digit 0 (omega arith)), omega arith)

-- the digits of another item begin with no zero and no plus
pub first_digit : (digits : List ℕ) (item : ℕ) → (digits ≡ 48 ∷ [] → ⊥) → item < 2 ^ 32 → digits ≡ decimal item → 48 < get_or digits 0 0
first_digit digits zero other low e = absurd (other (e ∙ decimal_digit 0 (omega arith)))
first_digit digits (suc n) other low e = subst (λ (z : List ℕ). 48 < get_or z 0 0) (sym e) (first_decimal (suc n) (omega arith) (omega arith))

pub empty_digits : (digits : List ℕ) (item : ℕ) (b : Bool) → item < 2 ^ 32 → digits ≡ decimal item → b ≡ (length digits == 0) → b ≡ true → ⊥
empty_digits digits item b low e is on =
    let some : 0 < length (decimal item) = (decimal_is_IsNumeral item (omega arith)).0.0 in
    let none : length digits ≡ 0 = eqb-true (length digits) 0 (sym is ∙ on) in
    let same : length digits ≡ length (decimal item) = ap (λ (z : List ℕ). length z) e in
    omega arith

pub item_is_text : (digits : List ℕ) (item : ℕ) → item < 2 ^ 32 → digits ≡ decimal item → IsUtf8 digits
item_is_text digits item low e = subst IsUtf8 (sym e) (IsUtf8-from_ascii (decimal item) (IsAscii-decimal item (omega arith)))

-- what `parse` answers at digits that begin with no zero and no plus
module _ {E : Type 0} where
  pub parsed_item : (digits : List ℕ) (r : Result ℕ E) → ParsesUnsigned 32 10 digits r → (get_or digits 0 0 ≡ 48 → ⊥) → (get_or digits 0 0 ≡ 43 → ⊥)
      → MatchOption (result_ok r) ((item : ℕ) → item < 2 ^ 32 → digits ≡ decimal item → ⊥) (λ item. (digits ≡ decimal item) × (item < 2 ^ 32))
  parsed_item digits (Ok n) h no_zero no_plus =
      let k : (AllDigits 10 digits × (0 < length digits) × (digits_value 10 digits < 2 ^ 32)) × (n ≡ digits_value 10 digits) = parse_plain own {E = E} 32 digits (Ok n) h no_plus in
      let small : digits_value 10 digits < 2 ^ 32 = k.0.2 in
      let value : n ≡ digits_value 10 digits = k.1 in
      (sym (decimal-digits_value own digits k.0.0 k.0.1 (λ z. absurd (no_zero z)) (omega arith)) ∙ ap decimal (sym value), omega arith)
  parsed_item digits (Err e) h no_zero no_plus = λ item low is.
      let numeral = decimal_is_IsNumeral item (omega arith) in
      let value : digits_value 10 digits ≡ item = ap (digits_value 10) is ∙ numeral.1 in
      parse_plain own {E = E} 32 digits (Err e) h no_plus (subst (AllDigits 10) (sym is) numeral.0.1, subst (λ (z : List ℕ). 0 < length z) (sym is) numeral.0.0, omega arith)
