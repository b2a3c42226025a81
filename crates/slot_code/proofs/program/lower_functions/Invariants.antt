use Rattle.std.proofs.Common.{take}
use Rattle.std.specs.List.{AllZip}
use Rattle.slot_code.specs.Lowered.{IsLoweredFunction}
use Rattle.slot_code.proofs.program.lower_functions.Given as goal

-- the functions so far
abbrev pub invariant-loop-number : goal.invariant-loop-number
invariant-loop-number l = AllZip IsLoweredFunction (take l.number l.checked.prog.funcs) l.funcs
