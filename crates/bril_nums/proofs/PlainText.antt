-- Writing ints: std's `signed_decimal` is the one plain decimal of an int, and reads back.
use Rattle.std.proofs.Common.{◌≡◌, ℕ, zero, suc, ◌^◌, ◌<◌, ◌≤◌, List, ◌∷◌, length, ℤ, pos, negsuc, refl, sym, ap, ◌∙◌, arith, Some, FitsSigned, codes, decimal}
use Rattle.std.specs.Int.{w64}
use Rattle.std.specs.Fmt.{signed_decimal, digits}
use Rattle.std.specs.Str.Parse.{digits_value, AllDigits}
use Rattle.std.proofs.lemmas.Str.Parse.{IsNumeralModel, numerals_by_value, tells_digits}
use Rattle.std.proofs.lemmas.Fmt.{decimal_is_IsNumeral, first_decimal, decimal-digits_value, length_signed_le}
use Rattle.bril_nums.specs.Decimal.{no_sign, minus, IsInt, HasNoLeadingZero, ArePlainDigits, IsPlainDecimal, int_of}
use Rattle.bril_nums.proofs.IntText.{int_of-complete}

own : IsNumeralModel (AllDigits 10) (digits_value 10)
own = numerals_by_value (AllDigits 10) tells_digits

decimal_zero : decimal 0 ≡ codes "0"
unfolding digits
decimal_zero = refl

HasNoLeadingZero-decimal : (n : ℕ) → n < 2 ^ 64 → HasNoLeadingZero (decimal n)
HasNoLeadingZero-decimal zero h e = decimal_zero
HasNoLeadingZero-decimal (suc n) h e = absurd (omega (arith, first_decimal (suc n) (omega arith) h))

ArePlainDigits-decimal : (n : ℕ) → n < 2 ^ 64 → ArePlainDigits (decimal n) n
ArePlainDigits-decimal n h = let d = decimal_is_IsNumeral n h in record { numeral = d.0; no_leading_zero = HasNoLeadingZero-decimal n h; value = d.1 }

-- digits with no leading zero are the decimal of their number
decimal-ArePlainDigits : (ds : List ℕ) (n : ℕ) → n < 2 ^ 64 → ArePlainDigits ds n → ds ≡ decimal n
decimal-ArePlainDigits ds n h p =
    let small : digits_value 10 ds < 2 ^ 64 = rw p.value h in
    sym (decimal-digits_value own ds p.numeral.1 p.numeral.0 (λ z. ap length (p.no_leading_zero z)) small) ∙ ap decimal p.value

pub IsPlainDecimal-signed_decimal : (z : ℤ) → FitsSigned w64 z → IsPlainDecimal (signed_decimal z) z
IsPlainDecimal-signed_decimal (pos n) f = ArePlainDigits-decimal n (omega (arith, f.sfits))
IsPlainDecimal-signed_decimal (negsuc n) f = (decimal (suc n), refl, ArePlainDigits-decimal (suc n) (omega (arith, f.sfits)))

pub signed_decimal-IsPlainDecimal : (text : List ℕ) (z : ℤ) → FitsSigned w64 z → IsPlainDecimal text z → text ≡ signed_decimal z
signed_decimal-IsPlainDecimal text (pos n) f p = decimal-ArePlainDigits text n (omega (arith, f.sfits)) p
signed_decimal-IsPlainDecimal text (negsuc n) f p = p.1 ∙ ap (λ ds. 45 ∷ ds) (decimal-ArePlainDigits p.0 (suc n) (omega (arith, f.sfits)) p.2)

-- a plain decimal is a spelling of its number
pub IsInt-from_IsPlainDecimal : (text : List ℕ) (z : ℤ) → IsPlainDecimal text z → IsInt text z
IsInt-from_IsPlainDecimal text (pos n) p = record { sign = no_sign; digits = text; spelling = refl; numeral = p.numeral; value = ap pos (sym p.value) }
IsInt-from_IsPlainDecimal text (negsuc n) p = record { sign = minus; digits = p.0; spelling = p.1; numeral = p.2.numeral; value = rw p.2.value refl }

pub length-signed_decimal-le : (z : ℤ) → FitsSigned w64 z → length (signed_decimal z) ≤ 20
length-signed_decimal-le z f = length_signed_le 19 z (omega (arith, f.sfits)) f.sfits

pub IsInt-signed_decimal : (z : ℤ) → FitsSigned w64 z → IsInt (signed_decimal z) z
IsInt-signed_decimal z f = IsInt-from_IsPlainDecimal (signed_decimal z) z (IsPlainDecimal-signed_decimal z f)

pub int_of-signed_decimal : (z : ℤ) → FitsSigned w64 z → int_of (signed_decimal z) ≡ Some z
int_of-signed_decimal z f = int_of-complete (signed_decimal z) z f (IsInt-signed_decimal z f)

pub length-signed_decimal-gt : (z : ℤ) → FitsSigned w64 z → 0 < length (signed_decimal z)
length-signed_decimal-gt (pos n) f = (decimal_is_IsNumeral n (omega (arith, f.sfits))).0.0
length-signed_decimal-gt (negsuc n) f = omega arith

pub IsPlainDecimal-written : (text : List ℕ) (z : ℤ) → FitsSigned w64 z → text ≡ signed_decimal z → IsPlainDecimal text z
IsPlainDecimal-written text z f e = rw e (IsPlainDecimal-signed_decimal z f)
