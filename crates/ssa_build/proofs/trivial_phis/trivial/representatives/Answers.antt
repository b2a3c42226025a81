use Rattle.std.proofs.Common.{Ok, ap}
use Rattle.ssa_build.specs.trivial_phis.Classes.{find_in}
use Rattle.ssa_build.proofs.lemmas.trivial_phis.Loop.{resolved-of, stays-all}
use Rattle.ssa_build.proofs.trivial_phis.trivial.representatives.Goals as goal

pub returns-clause-resolved : goal.returns-clause-resolved
returns-clause-resolved c =
    let all = c.loop-again.invariant.all c.if-full.true in
    let s = c.round.new.self in
    resolved-of c.args.operands.now c.args.base c.requires.within c.round.new.self.classes c.round.new.self.gone.items c.round.new.self.ends.items c.round.new.self.firsts.items c.in_ok-find.find.items c.in_ok-joined.ensures.work
    (stays-all c.args.operands.now c.args.base (find_in c.round.new.self.classes) c.round.new.self.gone.items c.as_slice.result.now c.loop-again.todo.items c.as_slice.ensures.value all.0 all.1 (c.in_ok-joined.ensures.stay (ap Ok c.if-joined.false)))
    c.in_ok-find.ensures.find
