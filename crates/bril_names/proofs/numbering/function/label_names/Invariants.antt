use Rattle.std.proofs.Common.{◌≡◌, take}
use Rattle.bril_names.specs.Faults.{labels_of}
use Rattle.bril_names.proofs.numbering.function.label_names.Given as goal

-- the labels so far
abbrev pub invariant-loop-item : goal.invariant-loop-item
invariant-loop-item l = l.labels ≡ labels_of (take l.item-index l.code)
