use Rattle.std.proofs.Common.{◌≡◌, ◌+◌, drop}
use Rattle.ssa_build.specs.fresh_names.Names.{marks}
use Rattle.ssa_build.proofs.fresh_names.names.marks.Given as goal

abbrev pub invariant-loop-place : goal.invariant-loop-place
invariant-loop-place l = marks l.name ≡ l.place + marks (drop l.place l.name)
