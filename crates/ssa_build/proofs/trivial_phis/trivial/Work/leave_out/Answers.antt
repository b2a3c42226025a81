use Rattle.ssa_build.proofs.lemmas.trivial_phis.Loop.{leave-work}
use Rattle.ssa_build.proofs.trivial_phis.trivial.Work.leave_out.Goals as goal

pub returns-in_ok-push-clause-work : goal.returns-in_ok-push-clause-work
returns-in_ok-push-clause-work c =
    leave-work c.args._operands.now c.args.base c.requires.within c.args.self.now.classes c.join.new.self c.hand_on.new.self.classes c.args.self.now.gone.items c.hand_on.new.self.gone.items c.args.self.now.ends.items c.hand_on.new.self.ends.items c.args.self.now.firsts.items c.hand_on.new.self.firsts.items c.args.get c.args.z
    c.requires.work c.requires.get c.requires.stands c.requires.z c.requires.trivial c.join.ensures c.hand_on.ensures.same c.hand_on.ensures.rest

pub returns-else-z-base-clause-work : goal.returns-else-z-base-clause-work
returns-else-z-base-clause-work c =
    leave-work c.args._operands.now c.args.base c.requires.within c.args.self.now.classes c.join.new.self c.hand_on.new.self.classes c.args.self.now.gone.items c.hand_on.new.self.gone.items c.args.self.now.ends.items c.hand_on.new.self.ends.items c.args.self.now.firsts.items c.hand_on.new.self.firsts.items c.args.get c.args.z
    c.requires.work c.requires.get c.requires.stands c.requires.z c.requires.trivial c.join.ensures c.hand_on.ensures.same c.hand_on.ensures.rest
