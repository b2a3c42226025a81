use Rattle.ssa_build.proofs.lemmas.sources.Adding.{RowPassed}
use Rattle.ssa_build.proofs.sources.sweep.push_row.Given as goal

-- the entries of the row from its end on were passed
abbrev pub invariant-loop-end : goal.invariant-loop-end
invariant-loop-end l = RowPassed l.entries l.wants l.now l.base l.key l.end l.fn.operands.items l.operands.items

abbrev pub decreases-loop-end : goal.decreases-loop-end
decreases-loop-end l = l.end
