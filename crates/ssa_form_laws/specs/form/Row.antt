-- What the pass makes of a program's numbers at most.
use Rattle.std.specs.Prelude.{ℕ, ◌+◌, ◌*◌, ◌≤◌, codes}
use Rattle.bril_tree.specs.Accepted.{IsAccepted}
use Rattle.bril_tree.specs.declared.program.Prog.{Prog}
use Rattle.pass_budget_laws.specs.Numbers.{Numbers}
use Rattle.pass_budget_laws.specs.Rows.{Row}
use Rattle.program_numbers.specs.ProgramNumbers.{AreEntries, most_locations}
use Rattle.ssa_laws.specs.live_entries.LiveEntries.{AreLiveEntries}

-- Each pair of an entry and a location brings a `get` and a `set` at most; and each item of the result may bring a variable, which may have
-- a shadow.
abbrev pub ssa_items : Numbers → ℕ
ssa_items n = n.items + 2 * (n.entries * n.locations)

abbrev pub ssa_row : Row
ssa_row = record {
  name = codes "ssa";
  factor = λ n. 1 + 2 * n.locations * (n.width + 1);
  after = λ traced n. record n { items = ssa_items n; locations = 2 * (ssa_items n + n.locations) };
}

-- How many live entries a program has at most: each is an entry and a location.
abbrev pub LiveEntriesAreFew : Type 0
LiveEntriesAreFew = (p : Prog) (live entries : ℕ) → IsAccepted p → AreLiveEntries p live → AreEntries p entries → live ≤ entries * most_locations p
