-- The names of a list of passes.
use Rattle.std.specs.Prelude.{ℕ, Bool, nat_le, ◌==◌, List, [], ◌∷◌, length}
use Rattle.std.specs.List.{slice_split}

-- the parts between commas, which may be empty; an empty list has none
abbrev pub names_of : List ℕ → List (List ℕ)
names_of [] = []
names_of (byte ∷ bytes) = slice_split (λ b. b == 44) (byte ∷ bytes)

-- 64 at most
abbrev pub has_few_names : List ℕ → Bool
has_few_names list = nat_le (length (names_of list)) 64
