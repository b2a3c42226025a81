-- Reading ints: the fact `IsInt` and the function `int_of` agree.
use Rattle.std.proofs.Common.{◌≡◌, ℕ, zero, suc, Bool, true, false, cond, ◌&&◌, eqb, List, [], ◌∷◌, ◌++◌, length, ℤ, pos, negsuc, Option, Some, None, Result, Ok, Err, refl, sym, ap, ◌∙◌, subst, arith, FitsSigned, nat_lt, IsAscii, IsUtf8}
use Rattle.std.specs.Int.{w64}
use Rattle.std.specs.Result.{result_ok}
use Rattle.std.specs.Str.{all_ascii_digits}
use Rattle.std.specs.Str.Parse.{IsNumeral, digits_value, without_leading_sign, signed_digits_value, ParsesSigned}
use Rattle.std.proofs.lemmas.Bool.Decides.{nat_tests}
use Rattle.std.proofs.lemmas.Str.{IsUtf8-from_ascii, IsAscii-append}
use Rattle.std.proofs.lemmas.Str.Parse.{IsNumeralModel, numerals_by_value, tells_all_ascii_digits, digit_from_value}
use Rattle.std.proofs.lemmas.Fmt.{IsAscii-from_digits}
use Rattle.bril_nums.specs.Decimal.{Sign, no_sign, plus, minus, sign_text, with_sign, IsInt, fits_int, is_int_text, int_of}

-- `all_ascii_digits` and `AllDigits 10` say the same
own : IsNumeralModel (λ ds. all_ascii_digits ds ≡ true) (digits_value 10)
own = numerals_by_value (λ ds. all_ascii_digits ds ≡ true) tells_all_ascii_digits

and_true : (a b : Bool) → a && b ≡ true → (a ≡ true) × (b ≡ true)
and_true true true e = (refl, refl)
and_true true false e = cc
and_true false b e = cc

-- the test of digits, and the fact
IsNumeral-from_test : (ds : List ℕ) → (nat_lt 0 (length ds) && all_ascii_digits ds) ≡ true → IsNumeral 10 ds
IsNumeral-from_test ds e = let p = and_true (nat_lt 0 (length ds)) (all_ascii_digits ds) e in (grind (arith, nat_tests), own.to ds p.1)

test-from_IsNumeral : (ds : List ℕ) → IsNumeral 10 ds → (nat_lt 0 (length ds) && all_ascii_digits ds) ≡ true
test-from_IsNumeral ds h = let a : nat_lt 0 (length ds) ≡ true = grind (arith, nat_tests, h.0) in rw a (own.from ds h.1)

-- the test of the range, and the fact
FitsSigned-from_test : (z : ℤ) → fits_int z ≡ true → FitsSigned w64 z
FitsSigned-from_test (pos n) e = record { sfits = grind (arith, nat_tests) }
FitsSigned-from_test (negsuc n) e = record { sfits = grind (arith, nat_tests) }

test-from_FitsSigned : (z : ℤ) → FitsSigned w64 z → fits_int z ≡ true
test-from_FitsSigned (pos n) f = grind (arith, nat_tests, f.sfits)
test-from_FitsSigned (negsuc n) f = grind (arith, nat_tests, f.sfits)

-- digits with a sign pass the test, and std reads their number
signed_test : (s : Sign) (ds : List ℕ) → IsNumeral 10 ds → (is_int_text (sign_text s ++ ds) ≡ true) × (signed_digits_value 10 (sign_text s ++ ds) ≡ with_sign s (digits_value 10 ds))
signed_test no_sign [] h = absurd (omega (arith, h.0))
signed_test no_sign (c ∷ cs) h =
    let digit = digit_from_value c h.1.0 in
    let not_minus : eqb c 45 ≡ false = grind (arith, nat_tests, digit) in
    let not_plus : eqb c 43 ≡ false = grind (arith, nat_tests, digit) in
    let test = test-from_IsNumeral (c ∷ cs) h in
    (rw not_minus (rw not_plus test), rw not_minus (rw not_plus refl))
signed_test plus ds h = (test-from_IsNumeral ds h, refl)
signed_test minus ds h = (test-from_IsNumeral ds h, refl)

IsInt-to_test : (bytes : List ℕ) (z : ℤ) → IsInt bytes z → (is_int_text bytes ≡ true) × (signed_digits_value 10 bytes ≡ z)
IsInt-to_test bytes z h =
    let t = signed_test h.sign h.digits h.numeral in
    let P : List ℕ → Type 0 = λ bs. (is_int_text bs ≡ true) × (signed_digits_value 10 bs ≡ z) in
    subst P (sym h.spelling) (t.0, t.1 ∙ sym h.value)

-- bytes that pass the test are a sign and digits
IsInt-from_test : (bytes : List ℕ) → is_int_text bytes ≡ true → IsInt bytes (signed_digits_value 10 bytes)
IsInt-from_test [] e = cc
IsInt-from_test (c ∷ cs) e = by (eqb c 45) (eqb c 43) refl refl
  where
    by : (m p : Bool) → eqb c 45 ≡ m → eqb c 43 ≡ p → IsInt (c ∷ cs) (signed_digits_value 10 (c ∷ cs))
    by true p m_is p_is =
        let c_is : c ≡ 45 = grind (arith, nat_tests) in
        let n = IsNumeral-from_test cs (rw m_is at e) in
        record { sign = minus; digits = cs; spelling = ap (λ x. x ∷ cs) c_is; numeral = n; value = rw m_is refl }
    by false true m_is p_is =
        let c_is : c ≡ 43 = grind (arith, nat_tests) in
        let n = IsNumeral-from_test cs (rw (m_is, p_is) at e) in
        record { sign = plus; digits = cs; spelling = ap (λ x. x ∷ cs) c_is; numeral = n; value = rw (m_is, p_is) refl }
    by false false m_is p_is =
        let n = IsNumeral-from_test (c ∷ cs) (rw (m_is, p_is) at e) in
        record { sign = no_sign; digits = c ∷ cs; spelling = refl; numeral = n; value = rw (m_is, p_is) refl }

-- bytes spell at most one number
pub IsInt-one : (bytes : List ℕ) (y z : ℤ) → IsInt bytes y → IsInt bytes z → y ≡ z
IsInt-one bytes y z g h = sym (IsInt-to_test bytes y g).1 ∙ (IsInt-to_test bytes z h).1

some_of : (b : Bool) (x z : ℤ) → cond b (Some x) None ≡ Some z → (b ≡ true) × (x ≡ z)
some_of true x z e = (refl, cc)
some_of false x z e = cc

none_of : (b : Bool) (x : ℤ) → (b ≡ true → ⊥) → ◌≡◌ {A = Option ℤ} (cond b (Some x) None) None
none_of true x e = absurd (e refl)
none_of false x e = refl

-- where there is an int, the bytes spell it
pub int_of-sound : (bytes : List ℕ) (z : ℤ) → int_of bytes ≡ Some z → IsInt bytes z × FitsSigned w64 z
unfolding int_of
int_of-sound bytes z e =
    let t = some_of (is_int_text bytes && fits_int (signed_digits_value 10 bytes)) (signed_digits_value 10 bytes) z e in
    let p = and_true (is_int_text bytes) (fits_int (signed_digits_value 10 bytes)) t.0 in
    let P : ℤ → Type 0 = λ x. IsInt bytes x × FitsSigned w64 x in
    subst P t.1 (IsInt-from_test bytes p.0, FitsSigned-from_test (signed_digits_value 10 bytes) p.1)

-- an int that the bytes spell is the one
pub int_of-complete : (bytes : List ℕ) (z : ℤ) → FitsSigned w64 z → IsInt bytes z → int_of bytes ≡ Some z
unfolding int_of
int_of-complete bytes z f h =
    let t = IsInt-to_test bytes z h in
    let fits : fits_int (signed_digits_value 10 bytes) ≡ true = ap fits_int t.1 ∙ test-from_FitsSigned z f in
    rw t.0 (rw fits (ap Some t.1))

-- bytes that spell no int have none
pub int_of-none : (bytes : List ℕ) → ((z : ℤ) → FitsSigned w64 z → IsInt bytes z → ⊥) → int_of bytes ≡ None
unfolding int_of
int_of-none bytes unspelled = none_of (is_int_text bytes && fits_int (signed_digits_value 10 bytes)) (signed_digits_value 10 bytes) (λ e.
    let p = and_true (is_int_text bytes) (fits_int (signed_digits_value 10 bytes)) e in
    unspelled (signed_digits_value 10 bytes) (FitsSigned-from_test (signed_digits_value 10 bytes) p.1) (IsInt-from_test bytes p.0))

IsAscii-sign_text : (s : Sign) → IsAscii (sign_text s)
IsAscii-sign_text no_sign i = omega arith
IsAscii-sign_text plus zero = omega arith
IsAscii-sign_text plus (suc i) = omega arith
IsAscii-sign_text minus zero = omega arith
IsAscii-sign_text minus (suc i) = omega arith

-- the bytes of an int are text
pub IsUtf8-from_IsInt : (bytes : List ℕ) (z : ℤ) → IsInt bytes z → IsUtf8 bytes
IsUtf8-from_IsInt bytes z h =
    let ascii = IsAscii-append (sign_text h.sign) h.digits (IsAscii-sign_text h.sign) (IsAscii-from_digits h.digits h.numeral.1) in
    subst IsUtf8 (sym h.spelling) (IsUtf8-from_ascii (sign_text h.sign ++ h.digits) ascii)

-- what std's `parse` gives
pub int_of-parsed : {E : Type 0} (bytes : List ℕ) (r : Result ℤ E) → ParsesSigned w64 10 bytes r → result_ok r ≡ int_of bytes
int_of-parsed bytes (Ok x) h =
    let value = signed_digits_value 10 bytes in
    let spelled = IsInt-from_test bytes (test-from_IsNumeral (without_leading_sign bytes) h.0.0) in
    sym (int_of-complete bytes value h.0.1 spelled ∙ ap Some (sym h.1))
int_of-parsed bytes (Err e) h = sym (int_of-none bytes (λ z f i.
    let t = IsInt-to_test bytes z i in
    h (IsNumeral-from_test (without_leading_sign bytes) t.0, subst (FitsSigned w64) (sym t.1) f)))
