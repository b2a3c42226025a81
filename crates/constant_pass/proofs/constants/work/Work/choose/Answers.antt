use Rattle.std.proofs.Common.{sym, subst}
use Rattle.constant_pass.specs.constants.Ways.{chosen}
use Rattle.constant_pass.specs.constants.Work.{Reaches}
use Rattle.constant_pass.proofs.lemmas.constants.Stepping.{went-both}
use Rattle.constant_pass.proofs.constants.work.Work.choose.Goals as goal

pub returns-in_ok-reach-in-Many-2-clause-reaches : goal.returns-in_ok-reach-in-Many-2-clause-reaches
returns-in_ok-reach-in-Many-2-clause-reaches c =
    let marks = c.args.self.now.reached.items in
    let points = c.args.self.now.points.items in
    let more = c.reach-in-Many-2.new.self.reached.items in
    let longer = c.reach-in-Many-2.new.self.points.items in
    subst (λ k. Reaches (chosen k c.args.first c.args.second) marks more points longer) (sym c.in-Many.is)
    (went-both c.args.first c.args.second marks c.reach-in-Many.new.self.reached.items more points c.reach-in-Many.new.self.points.items longer c.in_ok-reach-in-Many.ensures.reaches c.in_ok-reach-in-Many-2.ensures.reaches)
