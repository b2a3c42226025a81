-- The greatest of the numbers of which a fact holds.
use Rattle.std.specs.Prelude.{ℕ, ◌≤◌, Option, MatchOption}

-- it is the greatest number of which a fact holds, and none where the fact holds of none
abbrev pub IsGreatestOf : (ℕ → Type 0) → Option ℕ → Type 0
IsGreatestOf P greatest = MatchOption greatest ((p : ℕ) → P p → ⊥) (λ m. P m × ((p : ℕ) → P p → p ≤ m))
