use Rattle.std.proofs.Common.{◌≡◌, true}
use Rattle.bril_tree.specs.Identifier.{is_identifier}
use Rattle.ssa_exit.specs.Fresh.{count_beginning}
use Rattle.ssa_exit.proofs.fresh.free_stem.Given as goal

abbrev pub invariant-loop-count : goal.invariant-loop-count
invariant-loop-count l = (l.count ≡ count_beginning l.stem.items l.vars) × (is_identifier l.stem.items ≡ true)

abbrev pub decreases-loop-count : goal.decreases-loop-count
decreases-loop-count l = l.count
