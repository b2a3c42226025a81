-- What is told of the tally of a pass, in pieces, each for one put.
use Rattle.std.specs.Prelude.{ℕ, List, [], ◌∷◌, codes}
use Rattle.std.specs.Fmt.{decimal}

-- how often a pass of this name ran, and how many items it was given and made
abbrev pub tally_pieces : List ℕ → (runs seen made : ℕ) → List (List ℕ)
tally_pieces name runs seen made =
    name ∷ codes " runs " ∷ decimal runs ∷ codes " seen " ∷ decimal seen ∷ codes " made " ∷ decimal made ∷ codes "\n" ∷ []
