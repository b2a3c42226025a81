use Rattle.std.proofs.Common.{◌≡◌}
use Rattle.ssa_build.proofs.lemmas.trivial_phis.Roots.{RootStep}
use Rattle.ssa_build.proofs.trivial_phis.classes.Classes.root.Given as goal

abbrev pub invariant-loop-node : goal.invariant-loop-node
invariant-loop-node l = record {
  stands : l.self-inside.stands.items ≡ l.fn.self.stands;
  step : RootStep l.fn.self l.fn.d l.self-inside.parents.items l.node;
}

abbrev pub decreases-loop-node : goal.decreases-loop-node
decreases-loop-node l = l.node
