-- Numbers and floats at the front of bytes.
use Rattle.std.proofs.Common.{◌≡◌, ℕ, zero, suc, ◌+◌, ◌<◌, ◌≤◌, Bool, true, false, cond, ◌&&◌, ◌||◌, List, [], ◌∷◌, ◌++◌, length, take, drop, Some, None, refl, sym, ap, ◌∙◌, subst, arith, length-append, append_assoc, length-drop, lt-ltb}
use Rattle.std.specs.Prelude.{◌==◌}
use Rattle.std.specs.List.{list_all, prefix_len}
use Rattle.std.specs.Char.{is_ascii_digit}
use Rattle.std.specs.Str.{all_ascii_digits}
use Rattle.std.specs.Str.Parse.{without_leading_sign}
use Rattle.std.proofs.lemmas.Bool.{and_parts, and_from, or_left, or_right, ne_eqb, cond-true, cond-false, cond_both, ltb-true}
use Rattle.std.proofs.lemmas.List.{drop-append-le, drop-take}
use Rattle.std.proofs.lemmas.List.Folds.{length-prefix_len}
use Rattle.std.proofs.lemmas.List.Sums.{prefix_len-le-length}
use Rattle.bril_lex.specs.Spelling.{is_number, makes_float, continues_float, IsFloat}
use Rattle.bril_lex.specs.Scan.{is_sign, sign_len, digits_len, fraction_len, front_of_digits, number_front, front_at, front_of}
use Rattle.bril_lex.specs.declared.token.Kind.TheVariants as kind
use Rattle.bril_lex.specs.declared.class.Class.TheVariants.{OfKind}
use Rattle.bril_lex.proofs.Leads.{lead_of-number}
use Rattle.bril_lex.proofs.Spans.{prefix_len-append_all, list_all-prefix, one_of, drop_append}
use Rattle.bril_lex.proofs.Fronts.{front}

-- std's two tests of digits
digits_test : (ds : List ℕ) → all_ascii_digits ds ≡ list_all is_ascii_digit ds
digits_test [] = refl
digits_test (d ∷ ds) = ap (λ t. is_ascii_digit d && t) (digits_test ds)

-- std's word for what comes after a sign
behind_sign : (text : List ℕ) → without_leading_sign text ≡ drop (sign_len text) text
behind_sign [] = refl
behind_sign (b ∷ bs) = by (b == 45) (b == 43)
  where
    by : (minus plus : Bool) → cond minus bs (drop (cond plus 1 0) (b ∷ bs)) ≡ drop (cond (minus || plus) 1 0) (b ∷ bs)
    by true plus = refl
    by false true = refl
    by false false = refl

-- a number is a sign and digits
pub record HasDigits (text : List ℕ) : Type 0 where
  pub digits : List ℕ
  pub following : digits ≡ drop (sign_len text) text
  pub some : 0 < length digits
  pub all : list_all is_ascii_digit digits ≡ true

pub has_digits : (text : List ℕ) → is_number text ≡ true → HasDigits text
has_digits text h =
    let parts = and_parts _ _ h in
    record {
      digits = without_leading_sign text;
      following = behind_sign text;
      some = ltb-true _ _ parts.0;
      all = sym (digits_test (without_leading_sign text)) ∙ parts.1;
    }

pub is_number_from : (text : List ℕ) → 0 < length (drop (sign_len text) text) → list_all is_ascii_digit (drop (sign_len text) text) ≡ true → is_number text ≡ true
is_number_from text some all =
    and_from _ _
    (lt-ltb _ _ (subst (λ l. 0 < length l) (sym (behind_sign text)) some))
    (digits_test (without_leading_sign text) ∙ ap (list_all is_ascii_digit) (behind_sign text) ∙ all)

pub sign_len_le : (text : List ℕ) → sign_len text ≤ length text
sign_len_le [] = omega arith
sign_len_le (b ∷ bs) = cond_both (is_sign b) 1 0 (λ n. n ≤ length (b ∷ bs)) (λ _. omega arith) (λ _. omega arith)

-- a number begins a list with a byte
number_byte : (text rest : List ℕ) → is_number text ≡ true → front_of (text ++ rest) ≡ number_front (text ++ rest)
number_byte [] rest h = cc
number_byte (b ∷ bs) rest h =
    ap (λ l. front_at l b (bs ++ rest)) (lead_of-number b (by (is_sign b) refl))
  where
    has : HasDigits (b ∷ bs)
    has = has_digits (b ∷ bs) h

    first : list_all is_ascii_digit (b ∷ bs) ≡ true → is_ascii_digit b ≡ true
    first all = (and_parts _ _ all).0

    by : (t : Bool) → is_sign b ≡ t → (is_sign b || is_ascii_digit b) ≡ true
    by true e = or_left _ _ e
    by false e =
        let same : has.digits ≡ b ∷ bs = has.following ∙ ap (λ n. drop n (b ∷ bs)) (cond-false (is_sign b) 1 0 e) in
        or_right _ _ (first (subst (λ l. list_all is_ascii_digit l ≡ true) same has.all))

same_sign : (text rest : List ℕ) → is_number text ≡ true → sign_len (text ++ rest) ≡ sign_len text
same_sign [] rest h = cc
same_sign (b ∷ bs) rest h = refl

-- how many digits a number has
pub number_size : (text rest : List ℕ) → is_number text ≡ true → (sign_len (text ++ rest) + digits_len (text ++ rest) ≡ length text + prefix_len is_ascii_digit rest) × (0 < digits_len (text ++ rest))
number_size text rest h =
    let has = has_digits text h in
    let le = sign_len_le text in
    let sign = same_sign text rest h in
    let following : drop (sign_len (text ++ rest)) (text ++ rest) ≡ has.digits ++ rest =
    ap (λ n. drop n (text ++ rest)) sign ∙ drop-append-le (sign_len text) text rest le ∙ ap (λ l. l ++ rest) (sym has.following) in
    let count : digits_len (text ++ rest) ≡ length has.digits + prefix_len is_ascii_digit rest =
    ap (prefix_len is_ascii_digit) following ∙ prefix_len-append_all is_ascii_digit has.digits rest has.all in
    let long = ap length has.following ∙ length-drop (sign_len text) text in
    (omega (arith, sign, count, long, le), omega (arith, count, has.some))

-- the number at the front, and what makes it a float
pub front_of-digits : (text rest : List ℕ) → is_number text ≡ true
    → front_of (text ++ rest) ≡ Some (front_of_digits (length text + prefix_len is_ascii_digit rest) (fraction_len (drop (prefix_len is_ascii_digit rest) rest)))
front_of-digits text rest h =
    let size = number_size text rest h in
    let some : (digits_len (text ++ rest) == 0) ≡ false = ne_eqb _ _ (λ z. omega (arith, size.1)) in
    let left : drop (sign_len (text ++ rest) + digits_len (text ++ rest)) (text ++ rest) ≡ drop (prefix_len is_ascii_digit rest) rest =
    ap (λ n. drop n (text ++ rest)) size.0 ∙ drop_append text rest (prefix_len is_ascii_digit rest) in
    number_byte text rest h ∙ cond-false _ None _ some
    ∙ (λ i. Some (front_of_digits (size.0 i) (fraction_len (left i))))

-- the digits end at what makes them a float
makes_no_digit : (b : ℕ) → makes_float b ≡ true → is_ascii_digit b ≡ false
makes_no_digit b h = one_of (λ x. is_ascii_digit x ≡ false) (46 ∷ 101 ∷ 69 ∷ []) b h (refl, (refl, (refl, tt)))

pub front_of-float : (text rest : List ℕ) → IsFloat text → front_of (text ++ rest) ≡ front (OfKind kind.Float) (length text + prefix_len continues_float rest)
front_of-float text rest f =
    let none : prefix_len is_ascii_digit (f.maker ∷ (f.more ++ rest)) ≡ 0 = cond-false _ _ _ (makes_no_digit f.maker f.makes_float) in
    let whole : text ++ rest ≡ f.number ++ (f.maker ∷ (f.more ++ rest)) = ap (λ l. l ++ rest) f.spelled ∙ append_assoc f.number (f.maker ∷ f.more) rest in
    let size : length text ≡ length f.number + (length f.more + 1) = ap length f.spelled ∙ length-append f.number (f.maker ∷ f.more) ∙ omega arith in
    let fraction : fraction_len (f.maker ∷ (f.more ++ rest)) ≡ length f.more + prefix_len continues_float rest + 1 =
    cond-true _ _ 0 f.makes_float ∙ omega (arith, prefix_len-append_all continues_float f.more rest f.continues) in
    let at : fraction_len (drop (prefix_len is_ascii_digit (f.maker ∷ (f.more ++ rest))) (f.maker ∷ (f.more ++ rest))) ≡ length f.more + prefix_len continues_float rest + 1 =
    ap (λ n. fraction_len (drop n (f.maker ∷ (f.more ++ rest)))) none ∙ fraction in
    let no_zero : (fraction_len (drop (prefix_len is_ascii_digit (f.maker ∷ (f.more ++ rest))) (f.maker ∷ (f.more ++ rest))) == 0) ≡ false = ne_eqb _ _ (λ z. omega (arith, at)) in
    ap front_of whole ∙ front_of-digits f.number (f.maker ∷ (f.more ++ rest)) f.is_number
    ∙ ap Some (cond-false _ _ _ no_zero)
    ∙ ap (front (OfKind kind.Float)) (omega (arith, none, at, size))

-- the digits at the front are a number
same_sign_take : (m : ℕ) (bytes : List ℕ) → 0 < m → sign_len (take m bytes) ≡ sign_len bytes
same_sign_take zero bytes h = absurd (omega arith)
same_sign_take (suc m) [] h = refl
same_sign_take (suc m) (b ∷ bs) h = refl

pub is_number-take : (bytes : List ℕ) → 0 < digits_len bytes → is_number (take (sign_len bytes + digits_len bytes) bytes) ≡ true
is_number-take bytes some =
    let text = take (sign_len bytes + digits_len bytes) bytes in
    let sign : sign_len text ≡ sign_len bytes = same_sign_take (sign_len bytes + digits_len bytes) bytes (omega arith) in
    let following : drop (sign_len text) text ≡ take (digits_len bytes) (drop (sign_len bytes) bytes) =
    ap (λ n. drop n text) sign ∙ drop-take (sign_len bytes) (digits_len bytes) bytes in
    is_number_from text
    (omega (arith, ap length following, length-prefix_len is_ascii_digit (drop (sign_len bytes) bytes)))
    (ap (list_all is_ascii_digit) following ∙ list_all-prefix is_ascii_digit (drop (sign_len bytes) bytes))

pub digits_within : (bytes : List ℕ) → sign_len bytes + digits_len bytes ≤ length bytes
digits_within bytes =
    omega (arith, prefix_len-le-length is_ascii_digit (drop (sign_len bytes) bytes), length-drop (sign_len bytes) bytes, sign_len_le bytes)
