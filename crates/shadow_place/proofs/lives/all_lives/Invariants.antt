use Rattle.std.proofs.Common.{take}
use Rattle.std.specs.List.{AllZip}
use Rattle.shadow_place.specs.Placement.{TellsLiveIn}
use Rattle.shadow_place.proofs.lives.all_lives.Given as goal

-- the functions so far
abbrev pub invariant-loop-number : goal.invariant-loop-number
invariant-loop-number l = AllZip TellsLiveIn (take l.number l.prog.prog.funcs) l.lives
