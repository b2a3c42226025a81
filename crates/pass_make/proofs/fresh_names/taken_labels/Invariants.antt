use Rattle.std.proofs.Common.{◌≡◌, take}
use Rattle.pass_make.proofs.fresh_names.taken_labels.Given as goal

abbrev pub invariant-loop-label : goal.invariant-loop-label
invariant-loop-label l = l.taken ≡ take l.label-index l.func.labels
