use Rattle.std.proofs.Common.{take}
use Rattle.variable_coloring.specs.Late.{AreRowsOf}
use Rattle.variable_coloring.proofs.late.rows_of.Given as goal

abbrev pub invariant-loop-pair : goal.invariant-loop-pair
invariant-loop-pair l = AreRowsOf l.placed (take l.pair-index l.pairs) l.list.items
