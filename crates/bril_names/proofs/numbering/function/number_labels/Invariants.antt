use Rattle.std.proofs.Common.{◌≡◌, take}
use Rattle.bril_names.specs.Faults.{Differ, labels_of}
use Rattle.bril_names.proofs.numbering.function.number_labels.Given as goal

-- the labels so far, which differ
abbrev pub invariant-loop-k : goal.invariant-loop-k
invariant-loop-k l = record {
  labels : l.labels ≡ labels_of (take l.k l.function.code);
  differ : Differ l.labels;
}
