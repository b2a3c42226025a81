use Rattle.std.proofs.Common.{◌≡◌, map, take}
use Rattle.bril_names.specs.Faults.{Differ, argument_names}
use Rattle.bril_names.specs.Numbering.{argument_variable}
use Rattle.bril_names.proofs.numbering.function.number_arguments.Given as goal

-- the arguments so far, whose names differ
abbrev pub invariant-loop-arg : goal.invariant-loop-arg
invariant-loop-arg l = record {
  vars : l.vars.infos.items ≡ map argument_variable (take l.arg-index l.function.args);
  differ : Differ (take l.arg-index (argument_names l.function));
}
