use Rattle.std.proofs.Common.{◌≡◌, List, length}
use Rattle.bril_tree.specs.declared.numbered.Instr.{Instr}
use Rattle.live_sets.specs.Flow.{IsFlowOf}
use Rattle.live_sets.proofs.Rows.{AreRows}
use Rattle.live_sets.proofs.live.table_of.Given as goal

-- the rows of the locations so far
abbrev pub invariant-loop-location : goal.invariant-loop-location
invariant-loop-location l = record {
  nodes : l.reached.nodes ≡ l.flow.points;
  long : length l.rows.items ≡ l.location;
  rows : (code : List Instr) → IsFlowOf code l.flow → AreRows code l.rows.items;
}
