use Rattle.std.proofs.Common.{take, All}
use Rattle.bril_checker.specs.Faults.{IsTyped}
use Rattle.bril_checker.proofs.mistakes.first_mistyped.Given as goal

-- the items so far are typed
abbrev pub invariant-loop-number : goal.invariant-loop-number
invariant-loop-number l = All (IsTyped l.prog l.func) (take l.number l.func.code)
