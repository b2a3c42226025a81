use Rattle.side_pairs.proofs.Adding.{Goes}
use Rattle.side_pairs.proofs.pairs.all_pairs.Given as goal

abbrev pub invariant-loop-point : goal.invariant-loop-point
invariant-loop-point l = Goes l.code l.point l.draft.pairs
