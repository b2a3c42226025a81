-- The state of a running program.
use Rattle.std.specs.Prelude.{ℕ, ◌+◌, ◌-◌, ◌^◌, min, Bool, ◌==◌, List, Option, Some, None, if◌then◌else◌, pos, unwrap_or}
use Rattle.bril_tree.specs.declared.limits.End.{End}
use Rattle.bril_tree.specs.declared.value.Value.{Value}
use Rattle.bril_tree.specs.declared.value.Value.TheVariants.{Int}

-- a finite map from numbers to values, as a function
abbrev pub Values : Type 0
Values = ℕ → Option Value

abbrev pub no_values : Values
no_values x = None

-- the map with a value at x
abbrev pub with_value : Values → ℕ → Value → Values
with_value values x v y = if y == x then Some v else values y

-- what is read of a map: what it lacks reads as the int 0, which no accepted program sees
abbrev pub read : Values → ℕ → Value
read values x = unwrap_or (values x) (Int (pos 0))

-- one more, in a count of 64 bits, which stays at its end
abbrev pub counted : ℕ → ℕ
counted n = min (n + 1) (2 ^ 64 - 1)

-- the variables and the shadows of a frame: a `speculate` saves both, and a failed `guard` puts both back
pub record Locals : Type 0 where
  pub vars : Values
  pub shadows : Values

-- a call that hasn't returned: its function, its point, which is the number of an item or, at the end, the
-- number of items, what its locations hold, and what was saved, the newest save first
pub record Frame : Type 0 where
  pub function : ℕ
  pub point : ℕ
  pub locations : Locals
  pub saves : List Locals

-- a block of memory: its size in cells, whether it is live, and what was stored
pub record Block : Type 0 where
  pub size : ℕ
  pub is_live : Bool
  pub cells : Values

-- The frames, the newest first, the blocks, of which the first has the number 1, the bytes that were
-- printed, how the run ended, None while it runs, and how often each guard failed, by function and item, each a
-- count that stays at its end.
pub record State : Type 0 where
  pub frames : List Frame
  pub blocks : List Block
  pub printed : List ℕ
  pub ended : Option End
  pub failures : ℕ → ℕ → ℕ
