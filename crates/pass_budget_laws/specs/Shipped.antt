-- A pass that comes with the program.
use Rattle.std.specs.Prelude.{◌≡◌, ℕ, List, [], ◌∷◌}
use Rattle.pass_law.specs.Meaning.{Meaning, is_name}
use Rattle.pass_budget_laws.specs.Laws.{IsWithinRow}
use Rattle.pass_budget_laws.specs.Rows.{Row}

-- What it means, and its row: it answers to the name of its row alone, and what it makes is within the row.
pub record Shipped : Type 1 where
  pub meaning : Meaning
  pub row : Row
  pub answers : (name : List ℕ) → meaning.answers name ≡ is_name row.name name
  pub within : IsWithinRow meaning row

abbrev pub rows_of : List Shipped → List Row
rows_of [] = []
rows_of (s ∷ rest) = s.row ∷ rows_of rest
