use Rattle.ssa_build.proofs.lemmas.trivial_phis.Loop.{RoundKeeps}
use Rattle.ssa_build.proofs.trivial_phis.trivial.Work.round.Given as goal

abbrev pub invariant-loop-get : goal.invariant-loop-get
invariant-loop-get l = RoundKeeps l.operands l.base l.todo l.fn.self.gone.items l.get-index l.joined l.self.classes l.self.gone.items l.self.ends.items l.self.firsts.items
