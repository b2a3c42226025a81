-- A token's text has one value.
use Rattle.std.proofs.Common.{◌≡◌, ℕ, List, [], ◌∷◌, ◌++◌, sym, ap, ◌∙◌}
use Rattle.std.proofs.lemmas.Bool.{true≢false}
use Rattle.bril_lex.specs.Spelling.{IsEscape, IsPlainChar}
use Rattle.bril_lex.specs.Scan.{begins_escape}
use Rattle.bril_lex.proofs.Quoted.{no_escape, escape_begins}
use lib.Utf8.{encode}

following : (b : ℕ) (xs ys : List ℕ) → b ∷ xs ≡ b ∷ ys → xs ≡ ys
following b xs ys e = cc

-- no text is both an escape and a plain char
never_both : (c d : ℕ) (text : List ℕ) → IsEscape c text → IsPlainChar d text → ⊥
never_both c d text e p =
    let same = following 39 (92 ∷ e.letter ∷ 39 ∷ []) (encode d ++ (39 ∷ [])) (sym e.spelled ∙ p.spelled) in
    true≢false (sym (escape_begins e.letter c [] e.stands_for) ∙ ap begins_escape same ∙ no_escape d [])
