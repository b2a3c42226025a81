-- A source that is cut into tokens is UTF-8.
use Rattle.std.proofs.Common.{◌≡◌, ℕ, ◌<◌, Bool, true, false, cond, List, [], ◌∷◌, drop, Some, refl, sym, subst, inl, inr, ⊎_elim, arith, IsUtf8}
use Rattle.std.proofs.lemmas.Bool.{and_parts, or_cases}
use Rattle.std.proofs.lemmas.Bool.Decides.{nat_tests}
use Rattle.std.proofs.lemmas.List.Elements.{All-nil, All-cons}
use Rattle.std.proofs.lemmas.Str.{IsUtf8-append, IsUtf8-from_ascii, IsUtf8-nil, IsUtf8-encode}
use Rattle.std.proofs.lemmas.Str.Ascii.{IsAscii-from_all}
use Rattle.std.specs.Prelude.{codes}
use Rattle.std.specs.List.{All, list_all}
use Rattle.std.specs.Char.{is_ascii_alphabetic, is_ascii_digit}
use Rattle.bril_tree.specs.Identifier.{is_identifier, begins_identifier, continues_identifier}
use Rattle.bril_lex.specs.Spelling.{is_mark, is_blank, is_number, makes_float, continues_float, escaped, SpellsChar, IsTokenOf}
use Rattle.bril_lex.specs.Scan.{is_sign}
use Rattle.bril_lex.specs.Piece.{IsPiece}
use Rattle.bril_lex.specs.Cut.{Piece, bytes_of, AreLongest, AreTokens}
use Rattle.bril_lex.specs.declared.token.Token.{Token}
use Rattle.bril_lex.specs.declared.token.Kind.{Kind}
use Rattle.bril_lex.specs.declared.token.Kind.TheVariants.{Identifier, Function, Label, Number, Float, Char, Path, Mark}
use Rattle.bril_lex.specs.declared.class.Class.{Class}
use Rattle.bril_lex.specs.declared.class.Class.TheVariants.{OfKind, Blank, Comment}
use Rattle.bril_lex.proofs.Numbers.{has_digits, HasDigits}
use Rattle.bril_lex.proofs.Spans.{one_of}

-- ---- bytes below 128
all_below : (p : ℕ → Bool) → ((b : ℕ) → p b ≡ true → b < 128) → (bs : List ℕ) → list_all p bs ≡ true → All (λ b. b < 128) bs
all_below p below [] h = All-nil (λ b. b < 128)
all_below p below (b ∷ bs) h =
    let parts = and_parts (p b) (list_all p bs) h in
    All-cons (λ x. x < 128) b bs (below b parts.0) (all_below p below bs parts.1)

ascii_utf8 : (p : ℕ → Bool) → ((b : ℕ) → p b ≡ true → b < 128) → (bs : List ℕ) → list_all p bs ≡ true → IsUtf8 bs
ascii_utf8 p below bs h = IsUtf8-from_ascii bs (IsAscii-from_all bs (all_below p below bs h))

one : (b : ℕ) → b < 128 → IsUtf8 (b ∷ [])
one b l = IsUtf8-from_ascii (b ∷ []) (IsAscii-from_all (b ∷ []) (All-cons (λ x. x < 128) b [] l (All-nil (λ x. x < 128))))

following : (b : ℕ) (bs : List ℕ) → b < 128 → IsUtf8 bs → IsUtf8 (b ∷ bs)
following b bs l u = IsUtf8-append (b ∷ []) bs (one b l) u

begins_below : (b : ℕ) → begins_identifier b ≡ true → b < 128
begins_below b e = grind (arith, nat_tests)

continues_below : (b : ℕ) → continues_identifier b ≡ true → b < 128
continues_below b e = grind (arith, nat_tests)

digit_below : (b : ℕ) → is_ascii_digit b ≡ true → b < 128
digit_below b e = grind (arith, nat_tests)

letter_below : (b : ℕ) → is_ascii_alphabetic b ≡ true → b < 128
letter_below b e = grind (arith, nat_tests)

float_below : (b : ℕ) → continues_float b ≡ true → b < 128
float_below b h =
    ⊎_elim (λ e. ⊎_elim (letter_below b) (digit_below b) (or_cases (is_ascii_alphabetic b) (is_ascii_digit b) e))
    (λ e. one_of (λ x. x < 128) (codes ".+-") b e (omega arith, (omega arith, (omega arith, tt))))
    (or_cases _ _ h)

makes_below : (b : ℕ) → makes_float b ≡ true → b < 128
makes_below b h = one_of (λ x. x < 128) (codes ".eE") b h (omega arith, (omega arith, (omega arith, tt)))

mark_below : (b : ℕ) → is_mark b ≡ true → b < 128
mark_below b h =
    one_of (λ x. x < 128) (codes "{}():,;=<>") b h
    (omega arith, (omega arith, (omega arith, (omega arith, (omega arith, (omega arith, (omega arith, (omega arith, (omega arith, (omega arith, tt))))))))))

blank_below : (b : ℕ) → is_blank b ≡ true → b < 128
blank_below b h = one_of (λ x. x < 128) (32 ∷ 9 ∷ 13 ∷ 10 ∷ []) b h (omega arith, (omega arith, (omega arith, (omega arith, tt))))

sign_below : (b : ℕ) → is_sign b ≡ true → b < 128
sign_below b e = grind (arith, nat_tests)

letter_of_escape : (l c : ℕ) → escaped l ≡ Some c → l < 128
letter_of_escape l c e = grind (arith, nat_tests)

-- ---- pieces
identifier_utf8 : (name : List ℕ) → is_identifier name ≡ true → IsUtf8 name
identifier_utf8 [] h = IsUtf8-nil
identifier_utf8 (b ∷ bs) h =
    let parts = and_parts (begins_identifier b) (list_all continues_identifier bs) h in
    following b bs (begins_below b parts.0) (ascii_utf8 continues_identifier continues_below bs parts.1)

number_utf8 : (text : List ℕ) → is_number text ≡ true → IsUtf8 text
number_utf8 [] h = IsUtf8-nil
number_utf8 (b ∷ bs) h = by (is_sign b) refl
  where
    has : HasDigits (b ∷ bs)
    has = has_digits (b ∷ bs) h

    all_digits : list_all is_ascii_digit (drop (cond (is_sign b) 1 0) (b ∷ bs)) ≡ true
    all_digits = subst (λ l. list_all is_ascii_digit l ≡ true) has.following has.all

    by : (t : Bool) → is_sign b ≡ t → IsUtf8 (b ∷ bs)
    by true e = following b bs (sign_below b e) (ascii_utf8 is_ascii_digit digit_below bs (subst (λ t. list_all is_ascii_digit (drop (cond t 1 0) (b ∷ bs)) ≡ true) e all_digits))
    by false e = ascii_utf8 is_ascii_digit digit_below (b ∷ bs) (subst (λ t. list_all is_ascii_digit (drop (cond t 1 0) (b ∷ bs)) ≡ true) e all_digits)

char_utf8 : (c : ℕ) (text : List ℕ) → SpellsChar c text → IsUtf8 text
char_utf8 c text (inl e) =
    subst IsUtf8 (sym e.spelled)
    (following 39 _ (omega arith) (following 92 _ (omega arith) (following e.letter _ (letter_of_escape e.letter c e.stands_for) (one 39 (omega arith)))))
char_utf8 c text (inr p) =
    subst IsUtf8 (sym p.spelled)
    (following 39 _ (omega arith) (IsUtf8-append _ (39 ∷ []) (IsUtf8-encode c p.scalar) (one 39 (omega arith))))

token_utf8 : (kind : Kind) (text : List ℕ) → IsTokenOf kind text → IsUtf8 text
token_utf8 Identifier text is = identifier_utf8 text is
token_utf8 Function text is = subst IsUtf8 (sym is.1) (following 64 is.0 (omega arith) (identifier_utf8 is.0 is.2))
token_utf8 Label text is = subst IsUtf8 (sym is.1) (following 46 is.0 (omega arith) (identifier_utf8 is.0 is.2))
token_utf8 Number text is = number_utf8 text is
token_utf8 Float text is =
    subst IsUtf8 (sym is.spelled)
    (IsUtf8-append is.number (is.maker ∷ is.more) (number_utf8 is.number is.is_number)
    (following is.maker is.more (makes_below is.maker is.makes_float) (ascii_utf8 continues_float float_below is.more is.continues)))
token_utf8 Char text is = char_utf8 is.0 text is.1
token_utf8 Path text is =
    subst IsUtf8 (sym is.1.spelled) (following 34 _ (omega arith) (IsUtf8-append is.0 (34 ∷ []) is.1.is_utf8 (one 34 (omega arith))))
token_utf8 Mark text is = subst IsUtf8 (sym is.1) (one is.0 (mark_below is.0 is.2))

piece_utf8 : (class : Class) (text : List ℕ) → IsPiece class text → IsUtf8 text
piece_utf8 (OfKind kind) text is = token_utf8 kind text is
piece_utf8 Blank text is = subst IsUtf8 (sym is.1) (one is.0 (blank_below is.0 is.2))
piece_utf8 Comment text is = subst IsUtf8 (sym is.spelled) (following 35 is.body (omega arith) is.is_utf8)

pieces_utf8 : (pieces : List Piece) (rest : List ℕ) → AreLongest pieces rest → IsUtf8 (bytes_of pieces)
pieces_utf8 [] rest l = IsUtf8-nil
pieces_utf8 (p ∷ ps) rest l = IsUtf8-append p.text (bytes_of ps) (piece_utf8 p.class p.text l.0.fits) (pieces_utf8 ps rest l.1)

pub cuts_are_utf8 : (source : List ℕ) (tokens : List Token) → AreTokens source tokens → IsUtf8 source
cuts_are_utf8 source tokens a = subst IsUtf8 (sym a.cut) (pieces_utf8 a.pieces [] a.longest)
