-- What a pass makes of a program's numbers at most: a row for each name.
use Rattle.std.specs.Prelude.{ℕ, ◌+◌, List, [], ◌∷◌, if◌then◌else◌}
use Rattle.pass_law.specs.Meaning.{is_name}
use Rattle.pass_budget_laws.specs.Numbers.{Numbers}

-- A pass of this name makes at most so many steps of one, and of a program with these numbers one with those `after`, by a profile of
-- so many entries.
pub record Row : Type 0 where
  pub name : List ℕ
  pub factor : Numbers → ℕ
  pub after : (traced : ℕ) → Numbers → Numbers

-- Nothing grows.
abbrev pub keeps : List ℕ → Row
keeps name = record { name = name; factor = λ n. 1; after = λ traced n. n }

-- Nothing grows but the number of labels that are entered from one leave point, by so many.
abbrev pub widens : ℕ → List ℕ → Row
widens more name = record { name = name; factor = λ n. 1; after = λ traced n. record n { width = n.width + more } }

-- the first of these rows of a name; nothing grows by a name that has none
abbrev pub row_of : List Row → List ℕ → Row
row_of [] name = keeps name
row_of (row ∷ rest) name = if is_name row.name name then row else row_of rest name
