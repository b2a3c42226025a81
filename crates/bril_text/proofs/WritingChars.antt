-- Char literals as they are printed.
use Rattle.std.proofs.Common.{◌≡◌, ◌≢◌, ℕ, Bool, true, false, eqb, List, [], ◌∷◌, ◌++◌, Some, refl, sym, ap, ◌∙◌, inl, inr}
use Rattle.std.specs.Prelude.{if◌then◌else◌, ◌==◌}
use Rattle.std.specs.Char.{IsScalar, encode_utf8}
use Rattle.std.proofs.lemmas.Bool.{eqb-true, eqb-false}
use Rattle.bril_lex.specs.Spelling.{escaped, SpellsChar}
use Rattle.bril_grammar.specs.Terminal.{char_value}
use Rattle.bril_grammar.proofs.Terminals.{char_value-escape, char_value-plain}
use Rattle.bril_text.specs.Canonical.{inner_char_text}

-- the text in quotes spells the character, and its terminal is the character's
pub record IsCharText (c : ℕ) (text : List ℕ) : Type 0 where
  pub spells : SpellsChar c (39 ∷ (text ++ (39 ∷ [])))
  pub value : char_value text ≡ c

escape_is : (c letter : ℕ) → escaped letter ≡ Some c → IsCharText c (92 ∷ letter ∷ [])
escape_is c letter e = record { spells = inl (record { letter = letter; spelled = refl; stands_for = e }); value = char_value-escape c letter e }

plain_is : (c : ℕ) → IsScalar c → c ≢ 10 → IsCharText c (encode_utf8 c)
plain_is c s n = record { spells = inr (record { spelled = refl; scalar = s; no_line_end = n }); value = char_value-plain c s }

-- the escape of a character, or else what is written for the others
chosen : (c k letter : ℕ) (rest : List ℕ) → escaped letter ≡ Some k → (c ≢ k → IsCharText c rest) → IsCharText c (if c == k then 92 ∷ letter ∷ [] else rest)
chosen c k letter rest e other = at (eqb c k) refl
  where
    at : (b : Bool) → eqb c k ≡ b → IsCharText c (if c == k then 92 ∷ letter ∷ [] else rest)
    at true t = rw t (escape_is c letter (e ∙ ap Some (sym (eqb-true c k t))))
    at false t = rw t (other (eqb-false c k t))

pub inner_char_is : (c : ℕ) → IsScalar c → IsCharText c (inner_char_text c)
inner_char_is c s =
    chosen c 0 48 _ refl (λ _. chosen c 7 97 _ refl (λ _. chosen c 8 98 _ refl (λ _. chosen c 9 116 _ refl (λ _. chosen c 10 110 _ refl (λ line.
    chosen c 11 118 _ refl (λ _. chosen c 12 102 _ refl (λ _. chosen c 13 114 _ refl (λ _. plain_is c s line))))))))
