use Rattle.std.proofs.Common.{◌≡◌, map, take}
use Rattle.definite_assignment.specs.Window.{windowed}
use Rattle.variable_coloring.proofs.windows.windowed.Given as goal

abbrev pub invariant-loop-read : goal.invariant-loop-read
invariant-loop-read l = l.list.items ≡ map windowed (take l.read-index l.reads)
