-- The line of bits that are no word.
use Rattle.std.proofs.Common.{◌≡◌, ℕ, List, ◌++◌, None, sym, ap, ◌∙◌, append_assoc}
use Rattle.std.specs.Prelude.{codes}
use Rattle.std.specs.List.{flat_map}
use Rattle.rv64_words.specs.Encoding.{decoded}
use Rattle.rv64_listing.specs.Line.{written, pieces_by, line_of, hex_text}

pub none_line : (bits : ℕ) (old now new : List ℕ) → decoded bits ≡ None → now ≡ old ++ codes "word " → new ≡ now ++ hex_text bits → new ≡ old ++ line_of bits
none_line bits old now new none was made =
    made ∙ (ap (λ x. x ++ hex_text bits) was ∙ (append_assoc old (codes "word ") (hex_text bits) ∙ ap (λ o. old ++ flat_map written (pieces_by bits o)) (sym none)))
