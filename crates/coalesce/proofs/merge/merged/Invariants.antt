use Rattle.bril_tree.specs.Numbered.{tree_of}
use Rattle.coalesce.specs.Copies.{copies_of_tree}
use Rattle.coalesce.proofs.Made.{IsFarther}
use Rattle.coalesce.proofs.merge.merged.Given as goal

abbrev pub invariant-loop-last : goal.invariant-loop-last
invariant-loop-last l = IsFarther l.prog l.last.prog

abbrev pub decreases-loop-last : goal.decreases-loop-last
decreases-loop-last l = copies_of_tree (tree_of l.last.prog)
