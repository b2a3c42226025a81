use Rattle.std.proofs.Common.{◌≡◌}
use Rattle.bril_names.proofs.numbering.variables.Variables.into_infos.Given as goal

-- the variables so far
abbrev pub invariant-loop-info : goal.invariant-loop-info
invariant-loop-info l = l.list ≡ l.yielded
