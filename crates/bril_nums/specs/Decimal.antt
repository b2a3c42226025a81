-- How an int is spelled: an optional sign, then one or more decimal digits. Its plain decimal is std's `signed_decimal`.
use Rattle.std.specs.Prelude.{◌≡◌, ℕ, suc, ◌^◌, Bool, ◌&&◌, List, [], ◌++◌, length, ℤ, pos, negsuc, neg_ℤ, Option, Some, None, if◌then◌else◌, nat_lt, slice_index, codes}
use Rattle.std.specs.Str.{all_ascii_digits}
use Rattle.std.specs.Str.Parse.{IsNumeral, digits_value, without_leading_sign, signed_digits_value}

-- what may come before the digits
pub data Sign : Type 0 where
  no_sign : Sign
  plus : Sign
  minus : Sign

-- how a sign is written
abbrev pub sign_text : Sign → List ℕ
sign_text no_sign = []
sign_text plus = codes "+"
sign_text minus = codes "-"

-- the number n with a sign
abbrev pub with_sign : Sign → ℕ → ℤ
with_sign no_sign n = pos n
with_sign plus n = pos n
with_sign minus n = neg_ℤ (pos n)

-- the bytes are an optional sign and then one or more digits, and z is the number that they spell
pub record IsInt (bytes : List ℕ) (z : ℤ) : Type 0 where
  pub sign : Sign
  pub digits : List ℕ
  pub spelling : bytes ≡ sign_text sign ++ digits
  pub numeral : IsNumeral 10 digits
  pub value : z ≡ with_sign sign (digits_value 10 digits)

-- the digits begin with a zero only where they are a zero alone
abbrev pub HasNoLeadingZero : List ℕ → Type 0
HasNoLeadingZero digits = slice_index digits 0 ≡ 48 → digits ≡ codes "0"

-- digits with no leading zero that spell n
pub record ArePlainDigits (digits : List ℕ) (n : ℕ) : Type 0 where
  pub numeral : IsNumeral 10 digits
  pub no_leading_zero : HasNoLeadingZero digits
  pub value : digits_value 10 digits ≡ n

-- the one spelling of z with no plus, no leading zero and no minus before 0
abbrev pub IsPlainDecimal : List ℕ → ℤ → Type 0
IsPlainDecimal text (pos n) = ArePlainDigits text n
IsPlainDecimal text (negsuc n) = (digits : List ℕ) × (text ≡ codes "-" ++ digits) × ArePlainDigits digits (suc n)

-- z is an int of 64 bits
abbrev pub fits_int : ℤ → Bool
fits_int (pos n) = nat_lt n (2 ^ 63)
fits_int (negsuc n) = nat_lt n (2 ^ 63)

-- the bytes are an optional sign and then one or more digits
abbrev pub is_int_text : List ℕ → Bool
is_int_text bytes = nat_lt 0 (length (without_leading_sign bytes)) && all_ascii_digits (without_leading_sign bytes)

-- the int of 64 bits that the bytes spell, if they spell one
unfoldable pub int_of : List ℕ → Option ℤ
int_of bytes = if is_int_text bytes && fits_int (signed_digits_value 10 bytes) then Some (signed_digits_value 10 bytes) else None
