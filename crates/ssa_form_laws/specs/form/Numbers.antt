-- How much longer a program runs in SSA form, how many items it gets, and how its numbers grow.
use Rattle.std.specs.Prelude.{◌≡◌, ℕ, ◌+◌, ◌*◌}
use Rattle.bril_tree.specs.declared.program.Prog.{Prog}
use Rattle.bril_tree.specs.Size.{item_count}
use Rattle.ssa_laws.specs.live_entries.LiveEntries.{AreLiveEntries}
use Rattle.pass_edit_laws.specs.numbers.Numbers.{Growth}
use Rattle.program_numbers.specs.ProgramNumbers.{IsGreatestWidth, most_locations}

-- Before an item stand a `get` and a `set` at most for each location, and a `set` of each location for each label that is entered from
-- there.
pub record IsSsaFactor (P : Prog) (k : ℕ) : Type 0 where
  pub width : ℕ
  pub is_width : IsGreatestWidth P width
  pub is : k ≡ 1 + 2 * most_locations P * (width + 1)

-- A `get` and a `set` at most are put in for each live entry: a leave point, a label that an edge joins to it, and a location that is
-- live at the label.
pub record IsSsaBound (P : Prog) (k : ℕ) : Type 0 where
  pub entries : ℕ
  pub are : AreLiveEntries P entries
  pub is : k ≡ item_count P + 2 * entries

-- A variable of the result was one before, or an item of the result assigns it; and each may have a shadow. Nothing else grows.
abbrev pub ssa_growth : (bound : ℕ) → Growth
ssa_growth bound = record { locations = λ n. 2 * (bound + n); arguments = λ n. n; depth = λ n. n; entries = λ n. n; width = λ n. n }
