-- What a first byte begins.
use Rattle.std.proofs.Common.{◌≡◌, ℕ, ◌<◌, Bool, true, false, cond, ◌&&◌, ◌||◌, List, [], ◌∷◌, refl, sym, ◌∙◌, subst, ⊎_elim, arith}
use Rattle.std.specs.Prelude.{◌==◌, codes}
use Rattle.std.specs.List.{list_any}
use Rattle.std.specs.Char.{is_ascii_digit}
use Rattle.std.proofs.lemmas.Bool.{and_parts, and_from, or_cases, or_parts, or_right, eqb-true, cond_both, false_from_ne_true, true≢false, agree_below_at, leb-true}
use Rattle.bril_tree.specs.Identifier.{begins_identifier}
use Rattle.bril_lex.specs.Spelling.{is_mark, is_blank}
use Rattle.bril_lex.specs.Scan.{is_sign, lead_of}
use Rattle.bril_lex.specs.declared.scan.Lead.{Lead}
use Rattle.bril_lex.specs.declared.scan.Lead.TheVariants as lead
use Rattle.bril_lex.proofs.Spans.{Each, one_of}

-- a test that fails at each byte of a list
apart : (p : ℕ → Bool) (bs : List ℕ) (b : ℕ) → Each (λ x. p x ≡ false) bs → p b ≡ true → list_any (λ x. x == b) bs ≡ false
apart p bs b each h = false_from_ne_true _ (λ e. true≢false (sym h ∙ one_of (λ x. p x ≡ false) bs b e each))

pub lead_of-mark : (b : ℕ) → is_mark b ≡ true → lead_of b ≡ lead.Mark
lead_of-mark b h = rw h refl

pub lead_of-blank : (b : ℕ) → is_blank b ≡ true → lead_of b ≡ lead.Blank
lead_of-blank b h = one_of (λ x. lead_of x ≡ lead.Blank) (32 ∷ 9 ∷ 13 ∷ 10 ∷ []) b h (refl, (refl, (refl, (refl, tt))))

pub lead_of-identifier : (b : ℕ) → begins_identifier b ≡ true → lead_of b ≡ lead.Identifier
lead_of-identifier b h =
    let no_mark : is_mark b ≡ false = apart begins_identifier (codes "{}():,;=<>") b (refl, (refl, (refl, (refl, (refl, (refl, (refl, (refl, (refl, (refl, tt)))))))))) h in
    let no_blank : is_blank b ≡ false = apart begins_identifier (32 ∷ 9 ∷ 13 ∷ 10 ∷ []) b (refl, (refl, (refl, (refl, tt)))) h in
    rw (no_mark, no_blank, h) refl

-- no digit begins anything else
digit_apart : (b : ℕ) → is_ascii_digit b ≡ true → (is_mark b || (is_blank b || begins_identifier b)) ≡ false
digit_apart b h =
    let range = and_parts _ _ h in
    let below : b < 58 = omega (arith, leb-true b 57 range.1) in
    let agree = agree_below_at (λ x. is_ascii_digit x && (is_mark x || (is_blank x || begins_identifier x))) (λ _. false) 58 b refl below in
    false_from_ne_true _ (λ e. true≢false (sym (and_from _ _ h e) ∙ agree))

by_digit : (b : ℕ) → is_ascii_digit b ≡ true → lead_of b ≡ lead.Number
by_digit b h =
    let no = or_parts _ _ (digit_apart b h) in
    let more = or_parts _ _ no.1 in
    let no_mark : is_mark b ≡ false = no.0 in
    let no_blank : is_blank b ≡ false = more.0 in
    let no_identifier : begins_identifier b ≡ false = more.1 in
    let number : (is_sign b || is_ascii_digit b) ≡ true = or_right _ _ h in
    rw (no_mark, no_blank, no_identifier, number) refl

pub lead_of-number : (b : ℕ) → (is_sign b || is_ascii_digit b) ≡ true → lead_of b ≡ lead.Number
lead_of-number b h = ⊎_elim (λ sign. by_sign sign) (by_digit b) (or_cases (is_sign b) (is_ascii_digit b) h)
  where
    by_sign : is_sign b ≡ true → lead_of b ≡ lead.Number
    by_sign s = ⊎_elim (λ e. subst (λ x. lead_of x ≡ lead.Number) (sym (eqb-true b 45 e)) refl) (λ e. subst (λ x. lead_of x ≡ lead.Number) (sym (eqb-true b 43 e)) refl) (or_cases _ _ s)

-- what a lead says about its byte
abbrev pub Tells : Lead → ℕ → Type 0
Tells lead.Mark b = is_mark b ≡ true
Tells lead.Blank b = is_blank b ≡ true
Tells lead.Identifier b = begins_identifier b ≡ true
Tells lead.Number b = (is_sign b || is_ascii_digit b) ≡ true
Tells lead.Function b = b ≡ 64
Tells lead.Label b = b ≡ 46
Tells lead.Char b = b ≡ 39
Tells lead.Path b = b ≡ 34
Tells lead.Comment b = b ≡ 35
Tells lead.Nothing b = Unit {0}

split : (b : ℕ) (t : Bool) (x y : Lead) → (t ≡ true → Tells x b) → (t ≡ false → Tells y b) → Tells (cond t x y) b
split b t x y = cond_both t x y (λ l. Tells l b)

pub lead_of-tells : (b : ℕ) → Tells (lead_of b) b
lead_of-tells b =
    split b (is_mark b) lead.Mark l2 (λ e. e) (λ _.
    split b (is_blank b) lead.Blank l3 (λ e. e) (λ _.
    split b (begins_identifier b) lead.Identifier l4 (λ e. e) (λ _.
    split b (is_sign b || is_ascii_digit b) lead.Number l5 (λ e. e) (λ _.
    split b (b == 64) lead.Function l6 (eqb-true b 64) (λ _.
    split b (b == 46) lead.Label l7 (eqb-true b 46) (λ _.
    split b (b == 39) lead.Char l8 (eqb-true b 39) (λ _.
    split b (b == 34) lead.Path l9 (eqb-true b 34) (λ _.
    split b (b == 35) lead.Comment lead.Nothing (eqb-true b 35) (λ _. tt)))))))))
  where
    l9 : Lead
    l9 = cond (b == 35) lead.Comment lead.Nothing

    l8 : Lead
    l8 = cond (b == 34) lead.Path l9

    l7 : Lead
    l7 = cond (b == 39) lead.Char l8

    l6 : Lead
    l6 = cond (b == 46) lead.Label l7

    l5 : Lead
    l5 = cond (b == 64) lead.Function l6

    l4 : Lead
    l4 = cond (is_sign b || is_ascii_digit b) lead.Number l5

    l3 : Lead
    l3 = cond (begins_identifier b) lead.Identifier l4

    l2 : Lead
    l2 = cond (is_blank b) lead.Blank l3
