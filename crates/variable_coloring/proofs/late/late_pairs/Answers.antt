use Rattle.std.proofs.Common.{subst, sym}
use Rattle.variable_coloring.specs.Late.{AreRowsOf}
use Rattle.variable_coloring.proofs.Waiting.{late-rows}
use Rattle.variable_coloring.proofs.late.late_pairs.Goals as goal

pub returns : goal.returns
returns c = late-rows c.args._func.now c.args.placed.now c.args.pairs.now c.in_ok-late.late.list c.requires (subst (AreRowsOf c.args.placed.now c.args.pairs.now) (sym c.in_ok-late.ensures) c.in_ok-list.ensures)
