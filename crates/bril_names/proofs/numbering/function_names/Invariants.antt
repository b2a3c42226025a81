use Rattle.std.proofs.Common.{◌≡◌, take}
use Rattle.bril_names.specs.Faults.{Differ, function_names}
use Rattle.bril_names.proofs.numbering.function_names.Given as goal

-- the names so far, which differ
abbrev pub invariant-loop-k : goal.invariant-loop-k
invariant-loop-k l = record {
  names : l.functions ≡ take l.k (function_names l.tree);
  differ : Differ l.functions;
}
