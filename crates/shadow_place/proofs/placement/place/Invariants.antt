use Rattle.shadow_place.proofs.Programs.{ArePlacements}
use Rattle.shadow_place.proofs.placement.place.Given as goal

-- the functions so far
abbrev pub invariant-loop-number : goal.invariant-loop-number
invariant-loop-number l = ArePlacements l.prog.prog.funcs l.fn.slots.funcs l.number l.funcs.items
