-- Whether a number is among others.
use Rattle.std.specs.Prelude.{ℕ, Bool, false, ◌==◌, ◌||◌, List, [], ◌∷◌}

abbrev pub is_among : ℕ → List ℕ → Bool
is_among point [] = false
is_among point (x ∷ xs) = (x == point) || is_among point xs
