use Rattle.std.proofs.Common.{◌≡◌, ◌*◌, ℕ, Option, length}
use Rattle.bril_tree.specs.Operand.{Location}
use Rattle.ssa_build.specs.code.Layout.{AreGetsBy, IsLaidSoFarBy}
use Rattle.ssa_build.proofs.code.sweep.lay_all.Given as goal

abbrev pub invariant-loop-item : goal.invariant-loop-item
invariant-loop-item l = record {
  count : l.point ≡ length l.yielded;
  wide : length l.now ≡ 2 * length l.layout.func.now.vars;
  laid : (gets : ℕ → Location → Option ℕ) → AreGetsBy l.layout gets → IsLaidSoFarBy l.layout gets l.point l.yielded l.made l.now;
}
