-- The terminals of tokens are what the tokens spell.
use Rattle.std.proofs.Common.{◌≡◌, ℕ, ◌-◌, ℤ, Bool, true, false, eqb, List, [], ◌∷◌, ◌++◌, length, get_or, Some, None, refl, sym, ap, ◌∙◌, inl, inr, arith, length-append, append-nil, lit<}
use Rattle.std.specs.Prelude.{unwrap_or, FitsSigned, if◌then◌else◌}
use Rattle.std.specs.Int.{w64}
use Rattle.std.specs.Char.{IsScalar, encode_utf8}
use Rattle.std.specs.Str.{chars}
use Rattle.std.proofs.lemmas.List.{take_at}
use Rattle.std.proofs.lemmas.Bool.{and_from, eqb-true}
use Rattle.std.proofs.lemmas.Str.{chars-encodes, encode_same, encode_ascii}
use Rattle.bril_tree.specs.Path.{IsImportPath}
use Rattle.bril_tree.proofs.Equal.{import_path-path}
use Rattle.bril_nums.specs.Decimal.{IsInt}
use Rattle.bril_nums.proofs.IntText.{int_of-complete, int_of-none}
use Rattle.bril_lex.specs.declared.token.Kind.TheVariants as kind
use Rattle.bril_lex.specs.Spelling.{escaped, SpellsChar, SpellsPath}
use Rattle.bril_grammar.specs.declared.mark.Mark.{Mark}
use Rattle.bril_grammar.specs.declared.mark.Mark.TheVariants as mark
use Rattle.bril_grammar.specs.Laws.{TerminalsAreSpelled}
use Rattle.bril_grammar.specs.Terminal.{Terminal, terminal_as, char_value, scalar_at_front, inside, mark_byte, path_or_other, path_terminal}

-- what is between two quotes
pub inside-quoted : (quote : ℕ) (s : List ℕ) → inside (quote ∷ (s ++ (quote ∷ []))) ≡ s
inside-quoted quote s =
    let size : length s ≡ length (quote ∷ (s ++ (quote ∷ []))) - 1 - 1 = omega (arith, length-append s (quote ∷ [])) in
    take_at s (quote ∷ []) (length (quote ∷ (s ++ (quote ∷ []))) - 1 - 1) size

-- ---- chars

pub char_value-escape : (c letter : ℕ) → escaped letter ≡ Some c → char_value (92 ∷ letter ∷ []) ≡ c
char_value-escape c letter e = ap (λ o. unwrap_or o (scalar_at_front (92 ∷ letter ∷ []))) e

front-encode : (c : ℕ) → IsScalar c → scalar_at_front (encode_utf8 c) ≡ c
front-encode c s =
    let one : chars (encode_utf8 c ++ []) ≡ c ∷ [] = chars-encodes (c ∷ []) (and_from _ _ s refl) in
    ap (λ l. get_or (chars l) 0 0) (sym (append-nil (encode_utf8 c))) ∙ ap (λ l. get_or l 0 0) one

-- no character but `\` has a first byte `\`
not_escape : (c letter : ℕ) → encode_utf8 c ≡ 92 ∷ letter ∷ [] → ⊥
not_escape c letter e =
    let whole : encode_utf8 c ++ [] ≡ encode_utf8 92 ++ (letter ∷ []) = append-nil (encode_utf8 c) ∙ e ∙ sym (ap (λ l. l ++ (letter ∷ [])) (encode_ascii 92 (lit< tt))) in
    let same = encode_same c 92 [] (letter ∷ []) whole in
    let rest : [] ≡ letter ∷ [] = same.1 in
    cc

own_value : (text : List ℕ) → ((letter : ℕ) → text ≡ 92 ∷ letter ∷ [] → ⊥) → char_value text ≡ scalar_at_front text
own_value [] n = refl
own_value (byte ∷ []) n = refl
own_value (byte ∷ letter ∷ []) n = at (eqb byte 92) refl
  where
    own : ℕ
    own = scalar_at_front (byte ∷ letter ∷ [])

    at : (b : Bool) → eqb byte 92 ≡ b → char_value (byte ∷ letter ∷ []) ≡ scalar_at_front (byte ∷ letter ∷ [])
    at true e = absurd (n letter (ap (λ x. x ∷ letter ∷ []) (eqb-true byte 92 e)))
    at false e = ap (λ (b : Bool). if b then unwrap_or (escaped letter) (scalar_at_front (byte ∷ letter ∷ [])) else scalar_at_front (byte ∷ letter ∷ [])) e
own_value (byte ∷ next ∷ third ∷ rest) n = refl

pub char_value-plain : (c : ℕ) → IsScalar c → char_value (encode_utf8 c) ≡ c
char_value-plain c s = own_value (encode_utf8 c) (not_escape c) ∙ front-encode c s

char_terminal : (text : List ℕ) (c : ℕ) → SpellsChar c text → terminal_as kind.Char text ≡ Terminal.Char c
char_terminal text c (inl e) = ap (terminal_as kind.Char) e.spelled ∙ ap (λ l. Terminal.Char (char_value l)) (inside-quoted 39 (92 ∷ e.letter ∷ [])) ∙ ap (λ n. Terminal.Char n) (char_value-escape c e.letter e.stands_for)
char_terminal text c (inr p) = ap (terminal_as kind.Char) p.spelled ∙ ap (λ l. Terminal.Char (char_value l)) (inside-quoted 39 (encode_utf8 c)) ∙ ap (λ n. Terminal.Char n) (char_value-plain c p.scalar)

-- ---- paths

-- the terminal of a path that an import may name
pub path_terminal-path : (path : List ℕ) (h : IsImportPath path) → path_terminal path ≡ Terminal.Path (record { bytes = path; is_path = h })
path_terminal-path path h = ap path_or_other (import_path-path path h)

path_is : (text path : List ℕ) (s : SpellsPath path text) → terminal_as kind.Path text ≡ Terminal.Path (record { bytes = path; is_path = s.is_path })
path_is text path s = ap (terminal_as kind.Path) s.spelled ∙ ap path_terminal (inside-quoted 34 path) ∙ path_terminal-path path s.is_path

-- ---- all kinds

mark_is : (m : Mark) → terminal_as kind.Mark (mark_byte m ∷ []) ≡ Terminal.Punctuation m
mark_is mark.OpenBrace = refl
mark_is mark.CloseBrace = refl
mark_is mark.OpenParen = refl
mark_is mark.CloseParen = refl
mark_is mark.Colon = refl
mark_is mark.Comma = refl
mark_is mark.Semicolon = refl
mark_is mark.Equals = refl
mark_is mark.Less = refl
mark_is mark.Greater = refl

number_is : (text : List ℕ) (z : ℤ) → FitsSigned w64 z → IsInt text z → terminal_as kind.Number text ≡ Terminal.Number (Some z)
number_is text z fits is = ap (λ v. Terminal.Number v) (int_of-complete text z fits is)

no_number_is : (text : List ℕ) → ((z : ℤ) → FitsSigned w64 z → IsInt text z → ⊥) → terminal_as kind.Number text ≡ Terminal.Number None
no_number_is text none = ap (λ v. Terminal.Number v) (int_of-none text none)

pub terminals_are_spelled : TerminalsAreSpelled
terminals_are_spelled = record {
  identifiers = λ text. refl;
  functions = λ name. refl;
  labels = λ name. refl;
  numbers = number_is;
  others = no_number_is;
  floats = λ text. refl;
  chars = char_terminal;
  paths = path_is;
  marks = mark_is;
}
