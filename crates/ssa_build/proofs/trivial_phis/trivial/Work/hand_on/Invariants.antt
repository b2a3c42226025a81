use Rattle.std.proofs.Common.{◌≡◌}
use Rattle.std.specs.Prelude.{length}
use Rattle.ssa_build.proofs.trivial_phis.trivial.Work.hand_on.Given as goal

abbrev pub invariant-loop-get : goal.invariant-loop-get
invariant-loop-get l = record {
  classes : l.self.classes ≡ l.fn.self.classes;
  gone : l.self.gone.items ≡ l.fn.self.gone.items;
  ends : l.self.ends.items ≡ l.fn.self.ends.items;
  firsts : l.self.firsts.items ≡ l.fn.self.firsts.items;
  long : length l.self.watchers.items ≡ length l.fn.self.watchers.items;
}
