use Rattle.std.proofs.Common.{arith, ◌+◌, subst, sym}
use Rattle.variable_coloring.proofs.Fitting.{IsBest, best-all, best-before, best-here}
use Rattle.variable_coloring.proofs.classes.Classes.find.Goals as goal
use Rattle.variable_coloring.proofs.classes.Classes.find.Goals.{then-suits, else-suits}

pub loop-place-preserved : goal.loop-place-preserved
loop-place-preserved c =
    let F = c.args.func.now in
    let now = c.args.self.now in
    let place = c.loop-place.place in
    elim c.if-suits.branch [
      | then-suits w ↦ best-here F now.placed.items now.class.items now.shadow.items now.stamps.items c.args.x c.args.turn c.args.heads.now c.args.any place c.if-suits.best c.if-suits.found w.best-is c.loop-place-test.true (c.suits.ensures.fits w.if-suits.true)
      | else-suits w ↦
          subst (λ b. IsBest F now.placed.items now.class.items now.shadow.items now.stamps.items c.args.x c.args.turn c.args.heads.now c.args.any (place + 1) b c.if-suits.found) (sym w.best-is)
          (subst (IsBest F now.placed.items now.class.items now.shadow.items now.stamps.items c.args.x c.args.turn c.args.heads.now c.args.any (place + 1) c.loop-place.best) (sym w.found-is)
          (best-before F now.placed.items now.class.items now.shadow.items now.stamps.items c.args.x c.args.turn c.args.heads.now c.args.any place c.loop-place.best c.loop-place.found c.loop-place-test.true c.loop-place.invariant (λ all. c.suits.ensures.misfits all w.if-suits.false)))
    ]

pub returns-clause-none : goal.returns-clause-none
returns-clause-none c =
    let now = c.args.self.now in
    best-all c.args.func.now now.placed.items now.class.items now.shadow.items now.stamps.items c.args.x c.args.turn c.args.heads.now c.args.any c.loop-place.place c.loop-place.best c.loop-place.found (let h = c.loop-place-test.false in omega (arith, h)) c.loop-place.invariant
