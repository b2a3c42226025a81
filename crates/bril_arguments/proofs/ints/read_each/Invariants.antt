use Rattle.bril_arguments.specs.Ints.{int_types}
use Rattle.bril_arguments.proofs.Outcomes.{AreRead}
use Rattle.bril_arguments.proofs.ints.read_each.Given as goal

abbrev pub invariant-loop-index : goal.invariant-loop-index
invariant-loop-index l = AreRead (int_types l.words) l.words l.index l.wanting l.values
