use Rattle.std.proofs.Common.{◌≡◌, ℕ, ◌<◌}
use Rattle.std.specs.Prelude.{length, slice_index}
use Rattle.ssa_build.specs.trivial_phis.Classes.{SameClasses, find_in}
use Rattle.ssa_build.proofs.trivial_phis.trivial.Work.finds.Given as goal

abbrev pub invariant-loop-d : goal.invariant-loop-d
invariant-loop-d l = record {
  same : SameClasses l.fn.self.classes l.self.classes;
  long : length l.find.items ≡ l.d;
  found : (k : ℕ) → k < l.d → slice_index l.find.items k ≡ find_in l.fn.self.classes k;
}
