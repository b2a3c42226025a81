use Rattle.std.proofs.Common.{◌≡◌, ◌≤◌, length, drop}
use Rattle.ssa_build.specs.fresh_names.Names.{stem_end}
use Rattle.ssa_build.proofs.fresh_names.names.stem_end.Given as goal

abbrev pub invariant-loop-place : goal.invariant-loop-place
invariant-loop-place l = (stem_end l.place l.end (drop l.place l.name) ≡ stem_end 0 (length l.name) l.name) × (l.end ≤ length l.name)
