-- What the pass makes of a program's numbers at most.
use Rattle.std.specs.Prelude.{◌+◌, ◌*◌, max, min, codes}
use Rattle.pass_budget_laws.specs.Rows.{Row}

-- Behind each entry of the profile stand at most 256 items of its path, of which a branch may be two, and five more. Each item may bring
-- a location. The label behind a trace, the one that it jumps to, and that one from above are entered.
abbrev pub trace_row : Row
trace_row = record {
  name = codes "trace";
  factor = λ n. 520;
  after = λ traced n. record {
    items = n.items + 517 * traced;
    entries = n.entries + 3 * traced;
    locations = n.locations + 256 * traced;
    width = max n.width 2;
    depth = min (n.depth + 1) 8;
    longest = n.longest;
  };
}
