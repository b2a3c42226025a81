-- The scalar values of a text.
use Rattle.std.proofs.Common.{◌≡◌, ℕ, ◌<◌, List, [], ◌∷◌, ◌++◌, length, Ok, Err, refl, sym, ap, ◌∙◌, arith}
use Rattle.std.specs.Prelude.{IsUtf8, encode_utf8, encode_utf8_all}
use Rattle.std.specs.Str.{chars}
use Rattle.std.proofs.lemmas.Str.{chars-nil, chars_past_char, encodes-chars}
use Rattle.bril_tree.specs.declared.value.Lit.TheVariants.{Char}
use Rattle.bril_json.specs.Form.{char_of}
use Rattle.bril_json.specs.declared.fault.JsonFault.TheVariants.{Shape}
use Rattle.bril_json.specs.declared.position.Position.{Position}

-- a text of one scalar value
pub one_char : (position : Position) (text rest : List ℕ) (c : ℕ) → IsUtf8 text → text ≡ encode_utf8 c ++ rest → length rest ≡ 0 → char_of position (chars text) ≡ Ok (Char c)
one_char position text [] c utf8 is e = ap (char_of position) (chars_past_char text [] c utf8 is ∙ ap (λ cs. c ∷ cs) chars-nil)
one_char position text (b ∷ bs) c utf8 is e = absurd (omega arith)

-- a text of several scalar values
pub more_chars : (position : Position) (text rest : List ℕ) (c : ℕ) → IsUtf8 text → text ≡ encode_utf8 c ++ rest → IsUtf8 rest → 0 < length rest →
    char_of position (chars text) ≡ Err (Shape position.func position.item)
more_chars position text rest c utf8 is rest_utf8 some = ap (char_of position) (chars_past_char text rest c utf8 is) ∙ by (chars rest) refl
  where
    by : (cs : List ℕ) → chars rest ≡ cs → char_of position (c ∷ cs) ≡ Err (Shape position.func position.item)
    by [] none = let empty : length rest ≡ 0 = ap length (sym (encodes-chars rest rest_utf8) ∙ ap encode_utf8_all none) in absurd (omega arith)
    by (d ∷ ds) none = refl
