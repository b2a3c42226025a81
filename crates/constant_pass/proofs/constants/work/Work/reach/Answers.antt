use Rattle.std.proofs.Common.{[], ◌∷◌, set, true, false, sym, subst, ◌∙◌}
use Rattle.std.proofs.lemmas.List.{get_or_read}
use Rattle.constant_pass.specs.constants.Work.{Reaches}
use Rattle.constant_pass.proofs.lemmas.constants.Stepping.{went-on}
use Rattle.constant_pass.proofs.constants.work.Work.reach.Goals as goal

pub returns-clause-reaches : goal.returns-clause-reaches
returns-clause-reaches c =
    let marks = c.args.self.now.reached.items in
    let points = c.args.self.now.points.items in
    subst (λ l. Reaches (c.args.to ∷ []) marks (set marks c.args.to true) points l) (sym c.in_ok-push.ensures.items)
    (went-on c.args.to marks points c.requires (sym (get_or_read marks c.args.to c.index.result.now c.requires c.index.ensures false) ∙ c.if-index.false))
