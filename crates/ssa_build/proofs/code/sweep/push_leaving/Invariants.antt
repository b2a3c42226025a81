use Rattle.std.proofs.Common.{◌≡◌, ◌++◌, take}
use Rattle.ssa_build.specs.code.Layout.{view_of}
use Rattle.ssa_build.specs.code.Sweep.{sets_leaving}
use Rattle.ssa_build.proofs.code.sweep.push_leaving.Given as goal

abbrev pub invariant-loop-label : goal.invariant-loop-label
invariant-loop-label l = l.code ≡ l.fn.code ++ sets_leaving (view_of l.layout) l.now (take l.label-index l.labels)
