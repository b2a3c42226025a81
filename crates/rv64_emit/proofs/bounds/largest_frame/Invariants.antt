use Rattle.rv64_emit.proofs.Frames.{IsLargestOf}
use Rattle.rv64_emit.proofs.bounds.largest_frame.Given as goal

abbrev pub invariant-loop-number : goal.invariant-loop-number
invariant-loop-number l = IsLargestOf l.checked.prog.funcs l.number l.most
