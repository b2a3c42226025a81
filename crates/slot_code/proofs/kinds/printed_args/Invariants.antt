use Rattle.std.proofs.Common.{◌≡◌, map, take}
use Rattle.slot_code.specs.Lowered.{printed_as}
use Rattle.slot_code.proofs.kinds.printed_args.Given as goal

abbrev pub invariant-loop-variable : goal.invariant-loop-variable
invariant-loop-variable l = l.printed ≡ map (printed_as l.vars) (take l.variable-index l.args)
