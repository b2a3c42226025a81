-- What the pass makes of a program's numbers at most.
use Rattle.std.specs.Prelude.{◌+◌, ◌*◌, codes}
use Rattle.pass_budget_laws.specs.Rows.{Row}

-- There are no more paired guards than items. Each brings at most 513 items: its label, at most 511 kept items and a `jmp`; and two labels
-- that are entered, its own and the one that it jumps to.
abbrev pub side_row : Row
side_row = record {
  name = codes "side";
  factor = λ n. 1;
  after = λ traced n. record n { items = 515 * n.items; entries = n.entries + 2 * n.items; width = n.width + n.items };
}
