use Rattle.std.proofs.Common.{◌≡◌, ◌<◌, ◌+◌, ◌-◌, false, if◌then◌else◌}
use Rattle.std.specs.Prelude.{slice_index}
use Rattle.ssa_build.specs.trivial_phis.Classes.{SameClasses, find_in}
use Rattle.ssa_build.specs.trivial_phis.Trivial.{Differs, IsLooked, sources_of}
use Rattle.ssa_build.proofs.trivial_phis.trivial.Work.look.Given as goal

abbrev pub invariant-loop-passing : goal.invariant-loop-passing
invariant-loop-passing l = record {
  same : SameClasses l.fn.self.classes l.self.classes;
  gone : l.self.gone.items ≡ l.fn.self.gone.items;
  ends : l.self.ends.items ≡ l.fn.self.ends.items;
  firsts : l.self.firsts.items ≡ l.fn.self.firsts.items;
  looked : IsLooked l.operands l.base (find_in l.self.classes) l.get l.end l.first;
  stops : l.passing ≡ false → (0 < l.end) × Differs (find_in l.self.classes) l.y (slice_index (sources_of l.operands) (l.end - 1)) l.first;
}

abbrev pub decreases-loop-passing : goal.decreases-loop-passing
decreases-loop-passing l = l.end + (if l.passing then 1 else 0)
