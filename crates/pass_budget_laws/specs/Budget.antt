-- How many words are always enough for what a list of passes makes of a program.
use Rattle.std.specs.Prelude.{ℕ, ◌+◌, ◌*◌, List, [], ◌∷◌}
use Rattle.bril_tree.specs.FrameWords.{frame_head}
use Rattle.pass_budget_laws.specs.Numbers.{Numbers}
use Rattle.pass_budget_laws.specs.Rows.{Row, row_of}

-- by these rows, with a profile of so many entries
module _ (rows : List Row) (traced : ℕ) where
  -- the numbers after the passes of these names, one after another
  abbrev pub numbers_after : List (List ℕ) → Numbers → Numbers
  numbers_after [] n = n
  numbers_after (name ∷ names) n = numbers_after names ((row_of rows name).after traced n)

  -- the product of their factors, each of the numbers at its place
  abbrev pub factors_of : List (List ℕ) → Numbers → ℕ
  factors_of [] n = 1
  factors_of (name ∷ names) n = (row_of rows name).factor n * factors_of names ((row_of rows name).after traced n)

-- the words of one step of a program with these numbers
abbrev pub step_words : Numbers → ℕ
step_words n = 128 + 8 * (frame_head + n.locations * (1 + n.depth) + n.longest)

-- for a program with these numbers that ends in so many steps
abbrev pub budget : (rows : List Row) (traced : ℕ) → List (List ℕ) → Numbers → (steps : ℕ) → ℕ
budget rows traced names n steps = step_words (numbers_after rows traced names n) * (factors_of rows traced names n * (steps + 1))
