use Rattle.std.proofs.Common.{take}
use Rattle.braun_ssa.specs.Bound.{TellsEntries}
use Rattle.braun_ssa.proofs.bound.live_entries.Given as goal

abbrev pub invariant-loop-func : goal.invariant-loop-func
invariant-loop-func l = TellsEntries (take l.func-index l.prog.funcs) l.count
