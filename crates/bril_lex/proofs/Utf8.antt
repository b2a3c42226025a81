-- Tests of UTF-8, and the scalar value at the front of bytes.
use Rattle.std.proofs.Common.{◌≡◌, ℕ, zero, suc, ◌+◌, ◌≤◌, ◌<◌, Bool, true, false, ◌&&◌, leb, List, [], ◌∷◌, ◌++◌, length, take, drop, Result, Ok, Err, refl, sym, ap, ◌∙◌, subst, ⊎_elim, arith, IsUtf8, length-append, take-append-drop, append_assoc, length-take-le, le-leb}
use Rattle.std.specs.Prelude.{MatchResult, is_ok}
use Rattle.std.specs.Char.{IsScalar}
use Rattle.std.specs.Str.{is_utf8, continuation_len}
use Rattle.std.specs.Str.Lossy.{valid_len_up_to, utf8_valid_len}
use Rattle.std.proofs.lemmas.Bool.{false_from_ne_true, true≢false, and_parts, and_from, cond-true, cond_both, cases_lt, leb-true}
use Rattle.std.proofs.lemmas.List.{take_at, nil_from_length}
use Rattle.std.proofs.lemmas.Str.{IsUtf8-from_is_utf8, is_utf8-from_IsUtf8, IsUtf8-nil, IsUtf8-encode}
use Rattle.std.proofs.str.Laws as laws
use Rattle.bril_lex.specs.Scan.{scalar_len}
use lib.Utf8.{scalar, scalars, encode, encodes, scalar_cases}

-- the test says what the fact says
pub is_utf8-false : (bs : List ℕ) → (IsUtf8 bs → ⊥) → is_utf8 bs ≡ false
is_utf8-false bs never = false_from_ne_true (is_utf8 bs) (λ test. never (IsUtf8-from_is_utf8 bs test))

-- what `from_utf8` returns decides the test
pub is_ok-is_utf8 : {T E : Type 0} (r : Result T E) (bs : List ℕ) (P : T → Type 0) (Q : E → Type 0) → MatchResult r (λ s. P s × IsUtf8 bs) (λ e. ¬ (IsUtf8 bs) × Q e) → is_ok r ≡ is_utf8 bs
is_ok-is_utf8 (Ok s) bs P Q h = sym (is_utf8-from_IsUtf8 bs h.1)
is_ok-is_utf8 (Err e) bs P Q h = sym (is_utf8-false bs h.0)

-- the first byte of a scalar value tells its length
by_shape : (c first : ℕ) (more : List ℕ) → laws.Shape c → encode c ≡ first ∷ more → length (encode c) ≡ continuation_len first + 1
by_shape c first more (laws.of1 h e) s =
    let q : c ∷ [] ≡ first ∷ more = sym e ∙ s in
    let same : c ≡ first = cc in
    let n : 0 ≡ continuation_len c = grind arith in
    ap length e ∙ omega (arith, ap continuation_len same, n)
by_shape c first more (laws.of2 a b l h f x e) s =
    let q : a ∷ b ∷ [] ≡ first ∷ more = sym e ∙ s in
    let same : a ≡ first = cc in
    let n : 1 ≡ continuation_len a = grind arith in
    ap length e ∙ omega (arith, ap continuation_len same, n)
by_shape c first more (laws.of3 a b d l h f g x e) s =
    let q : a ∷ b ∷ d ∷ [] ≡ first ∷ more = sym e ∙ s in
    let same : a ≡ first = cc in
    let n : 2 ≡ continuation_len a = grind arith in
    ap length e ∙ omega (arith, ap continuation_len same, n)
by_shape c first more (laws.of4 a b d y l h f g k x e) s =
    let q : a ∷ b ∷ d ∷ y ∷ [] ≡ first ∷ more = sym e ∙ s in
    let same : a ≡ first = cc in
    let n : 3 ≡ continuation_len a = grind arith in
    ap length e ∙ omega (arith, ap continuation_len same, n)

encode_len : (c first : ℕ) (more : List ℕ) → IsScalar c → encode c ≡ first ∷ more → length (encode c) ≡ continuation_len first + 1
encode_len c first more s e = by_shape c first more (laws.shape c (scalar_cases c s)) e

-- a scalar value has a first byte
pub record HasFirst (c : ℕ) : Type 0 where
  pub first : ℕ
  pub more : List ℕ
  pub is : encode c ≡ first ∷ more

first_by_shape : (c : ℕ) → laws.Shape c → HasFirst c
first_by_shape c (laws.of1 h e) = record { first = c; more = []; is = e }
first_by_shape c (laws.of2 a b l h f x e) = record { first = a; more = b ∷ []; is = e }
first_by_shape c (laws.of3 a b d l h f g x e) = record { first = a; more = b ∷ d ∷ []; is = e }
first_by_shape c (laws.of4 a b d y l h f g k x e) = record { first = a; more = b ∷ d ∷ y ∷ []; is = e }

pub first_of : (c : ℕ) → IsScalar c → HasFirst c
first_of c s = first_by_shape c (laws.shape c (scalar_cases c s))

-- the length of a scalar value at the front
pub scalar_len-encode : (c : ℕ) (rest : List ℕ) → IsScalar c → scalar_len (encode c ++ rest) ≡ length (encode c)
scalar_len-encode c rest s =
    let f = first_of c s in
    let n : length (encode c) ≡ continuation_len f.first + 1 = encode_len c f.first f.more s f.is in
    let P : List ℕ → Type 0 = λ text. length text ≡ continuation_len f.first + 1 → IsUtf8 text → scalar_len (text ++ rest) ≡ length text in
    subst P (sym f.is) (at f.first f.more) n (IsUtf8-encode c s)
  where
    at : (first : ℕ) (more : List ℕ) → length (first ∷ more) ≡ continuation_len first + 1 → IsUtf8 (first ∷ more) → scalar_len ((first ∷ more) ++ rest) ≡ length (first ∷ more)
    at first more n u =
        let room : leb (continuation_len first + 1) (length ((first ∷ more) ++ rest)) ≡ true = le-leb _ _ (omega (arith, n, length-append (first ∷ more) rest)) in
        let front : take (continuation_len first + 1) ((first ∷ more) ++ rest) ≡ first ∷ more = take_at (first ∷ more) rest (continuation_len first + 1) n in
        let test : is_utf8 (take (continuation_len first + 1) ((first ∷ more) ++ rest)) ≡ true = ap is_utf8 front ∙ is_utf8-from_IsUtf8 (first ∷ more) u in
        cond-true _ _ _ (and_from _ _ room test) ∙ sym n

-- a scalar value is at the front
pub record BeginsScalar (bytes : List ℕ) (n : ℕ) : Type 0 where
  pub value : ℕ
  pub scalar : IsScalar value
  pub cut : bytes ≡ encode value ++ drop n bytes
  pub size : length (encode value) ≡ n

begins : (b : ℕ) (bs : List ℕ) (n : ℕ) (cs : List ℕ) → n ≡ continuation_len b + 1 → n ≤ length (b ∷ bs) → scalars cs ≡ true → encodes cs ≡ take n (b ∷ bs) → BeginsScalar (b ∷ bs) n
begins b bs n [] is room s e =
    let size = length-take-le n (b ∷ bs) room in
    absurd (omega (arith, ap length e))
begins b bs n (c ∷ cs) is room s e =
    let size = length-take-le n (b ∷ bs) room in
    let scalar_parts = and_parts (scalar c) (scalars cs) s in
    let f = first_of c scalar_parts.0 in
    let whole : (f.first ∷ f.more) ++ encodes cs ≡ take n (b ∷ bs) = ap (λ t. t ++ encodes cs) (sym f.is) ∙ e in
    let all : encode c ++ (encodes cs ++ drop n (b ∷ bs)) ≡ b ∷ bs = sym (append_assoc (encode c) (encodes cs) (drop n (b ∷ bs))) ∙ ap (λ t. t ++ drop n (b ∷ bs)) e ∙ take-append-drop n (b ∷ bs) in
    let same : f.first ∷ (f.more ++ (encodes cs ++ drop n (b ∷ bs))) ≡ b ∷ bs = ap (λ t. t ++ (encodes cs ++ drop n (b ∷ bs))) (sym f.is) ∙ all in
    let head : f.first ≡ b = cc in
    let long : length (encode c) ≡ n = encode_len c f.first f.more scalar_parts.0 f.is ∙ omega (arith, ap continuation_len head, is) in
    let none : length (encodes cs) ≡ 0 = omega (arith, ap length e, length-append (encode c) (encodes cs)) in
    let nil : encodes cs ≡ [] = nil_from_length (encodes cs) none in
    record { value = c; scalar = scalar_parts.0; cut = sym (ap (λ t. encode c ++ (t ++ drop n (b ∷ bs))) (sym nil) ∙ all); size = long }

pub scalar_len-tells : (bytes : List ℕ) → 0 < scalar_len bytes → BeginsScalar bytes (scalar_len bytes)
scalar_len-tells [] h = absurd (by h)
  where
    by : 0 < scalar_len [] → ⊥
    by l = omega arith
scalar_len-tells (b ∷ bs) h =
    cond_both test n 0 (λ m. 0 < m → BeginsScalar (b ∷ bs) m)
    (λ e.
    let parts = and_parts (leb n (length (b ∷ bs))) (is_utf8 (take n (b ∷ bs))) e in
    let u = IsUtf8-from_is_utf8 (take n (b ∷ bs)) parts.1 in
    λ _. begins b bs n u.0 refl (leb-true _ _ parts.0) u.1.0 u.1.1)
    (λ e l. absurd (omega arith))
    h
  where
    n : ℕ
    n = continuation_len b + 1

    test : Bool
    test = leb n (length (b ∷ bs)) && is_utf8 (take n (b ∷ bs))

-- the longest front that is UTF-8
up_to_is : (bs : List ℕ) (n : ℕ) → IsUtf8 (take (valid_len_up_to bs n) bs)
up_to_is bs zero = IsUtf8-nil
up_to_is bs (suc n) =
    cond_both (is_utf8 (take (suc n) bs)) (suc n) (valid_len_up_to bs n) (λ m. IsUtf8 (take m bs))
    (λ e. IsUtf8-from_is_utf8 _ e) (λ e. up_to_is bs n)

up_to_le : (bs : List ℕ) (n k : ℕ) → k ≤ n → IsUtf8 (take k bs) → k ≤ valid_len_up_to bs n
up_to_le bs zero k l u = l
up_to_le bs (suc n) k l u =
    cond_both (is_utf8 (take (suc n) bs)) (suc n) (valid_len_up_to bs n) (λ m. k ≤ m)
    (λ e. l)
    (λ e. ⊎_elim
    (λ below. up_to_le bs n k (omega arith) u)
    (λ above.
    let same : k ≡ suc n = omega arith in
    absurd (true≢false (sym (is_utf8-from_IsUtf8 _ (subst (λ m. IsUtf8 (take m bs)) same u)) ∙ e)))
    (cases_lt k (suc n)))

pub valid_front : (bs : List ℕ) → IsUtf8 (take (utf8_valid_len bs) bs)
unfolding utf8_valid_len
valid_front bs = up_to_is bs (length bs)

pub valid_longest : (t r : List ℕ) → IsUtf8 t → length t ≤ utf8_valid_len (t ++ r)
unfolding utf8_valid_len
valid_longest t r u = up_to_le (t ++ r) (length (t ++ r)) (length t) (omega (arith, length-append t r)) (subst IsUtf8 (sym (take_at t r (length t) refl)) u)
