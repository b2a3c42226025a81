-- What identifiers are put together from: identifiers, decimals and underscores.
use Rattle.std.proofs.Common.{◌≡◌, refl, ap, ap₂, Bool, true, false, ◌&&◌, ◌||◌, ℕ, zero, suc, ◌<◌, ◌^◌, List, [], ◌∷◌, ◌++◌, ◌∙◌}
use Rattle.std.specs.Prelude.{◌==◌, replicate}
use Rattle.std.specs.Char.{is_ascii_digit}
use Rattle.std.specs.Fmt.{decimal}
use Rattle.std.specs.List.{list_all}
use Rattle.std.specs.Str.{all_ascii_digits}
use Rattle.std.specs.Str.Parse.{digits_value}
use Rattle.std.proofs.lemmas.Bool.{and_parts, or_right}
use Rattle.std.proofs.lemmas.Fmt.{digits_decimal}
use Rattle.std.proofs.lemmas.List.Folds.{list_all-append}
use Rattle.std.proofs.lemmas.Str.Parse.{IsNumeralModel, numerals_by_value, tells_all_ascii_digits}
use Rattle.bril_tree.specs.Identifier.{begins_identifier, continues_identifier, is_identifier}

-- ---- bytes that may stand after the first

digits_continue : (ds : List ℕ) → all_ascii_digits ds ≡ true → list_all continues_identifier ds ≡ true
digits_continue [] e = refl
digits_continue (d ∷ ds) e =
    let parts = and_parts (is_ascii_digit d) (all_ascii_digits ds) e in
    ap₂ (λ (a b : Bool). a && b) (ap (λ b. (begins_identifier d || (d == 46)) || b) parts.0 ∙ or_right (begins_identifier d || (d == 46)) true refl) (digits_continue ds parts.1)

decimal_model : IsNumeralModel (λ ds. all_ascii_digits ds ≡ true) (digits_value 10)
decimal_model = numerals_by_value (λ ds. all_ascii_digits ds ≡ true) tells_all_ascii_digits

pub decimal_continues : (n : ℕ) → n < 2 ^ 64 → list_all continues_identifier (decimal n) ≡ true
decimal_continues n small = digits_continue (decimal n) (digits_decimal decimal_model n small)

pub underscores_continue : (n : ℕ) → list_all continues_identifier (replicate n 95) ≡ true
underscores_continue zero = refl
underscores_continue (suc n) = underscores_continue n

pub both_continue : (xs ys : List ℕ) → list_all continues_identifier xs ≡ true → list_all continues_identifier ys ≡ true → list_all continues_identifier (xs ++ ys) ≡ true
both_continue xs ys a b = list_all-append continues_identifier xs ys ∙ ap₂ (λ (p q : Bool). p && q) a b

pub identifier_continues : (name : List ℕ) → is_identifier name ≡ true → list_all continues_identifier name ≡ true
identifier_continues [] e = refl
identifier_continues (b ∷ bs) e =
    let parts = and_parts (begins_identifier b) (list_all continues_identifier bs) e in
    ap₂ (λ (a c : Bool). a && c) (ap (λ a. (a || (b == 46)) || is_ascii_digit b) parts.0) parts.1

-- ---- identifiers

pub longer_identifier : (name ys : List ℕ) → is_identifier name ≡ true → list_all continues_identifier ys ≡ true → is_identifier (name ++ ys) ≡ true
longer_identifier [] ys e h = absurd (let f : false ≡ true = e in cc)
longer_identifier (b ∷ bs) ys e h =
    let parts = and_parts (begins_identifier b) (list_all continues_identifier bs) e in
    ap₂ (λ (a c : Bool). a && c) parts.0 (both_continue bs ys parts.1 h)
