use Rattle.bril_arguments.proofs.Outcomes.{AreRead, types_of}
use Rattle.bril_arguments.proofs.arguments.read_words.Given as goal

abbrev pub invariant-loop-index : goal.invariant-loop-index
invariant-loop-index l = AreRead (types_of l.parameters) l.words l.index l.wanting l.values
