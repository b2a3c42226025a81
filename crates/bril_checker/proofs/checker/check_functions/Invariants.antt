use Rattle.std.proofs.Common.{take, All}
use Rattle.std.specs.List.{AllZip}
use Rattle.bril_tree.specs.Accepted.{IsAcceptedFunction}
use Rattle.bril_tree.specs.FrameWords.{AreFrameWords}
use Rattle.bril_checker.proofs.checker.check_functions.Given as goal

-- the functions so far are accepted, with the words of their frames
abbrev pub invariant-loop-number : goal.invariant-loop-number
invariant-loop-number l = All (IsAcceptedFunction l.prog) (take l.number l.prog.funcs) × AllZip AreFrameWords (take l.number l.prog.funcs) l.words
