use Rattle.std.proofs.Common.{◌≡◌, take}
use Rattle.ssa_build.specs.code.Rows.{leaves_of}
use Rattle.ssa_build.proofs.code.rows.leaves.Given as goal

abbrev pub invariant-loop-edge : goal.invariant-loop-edge
invariant-loop-edge l = l.leaves.items ≡ leaves_of l.code (take l.edge-index l.edges)
