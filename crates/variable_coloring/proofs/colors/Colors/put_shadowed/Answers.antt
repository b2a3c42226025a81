use Rattle.std.proofs.Common.{◌<◌, ◌∙◌, ap, length, subst, sym}
use Rattle.std.specs.Prelude.{slice_index}
use Rattle.variable_coloring.specs.Growing.{FitsIn, row_at}
use Rattle.variable_coloring.proofs.Heads.{none-shadowed}
use Rattle.variable_coloring.proofs.Placing.{opened-state, shadowed-state}
use Rattle.variable_coloring.proofs.colors.Colors.put_shadowed.Goals as goal

pub returns-in_ok-open-in-None-clause-state : goal.returns-in_ok-open-in-None-clause-state
returns-in_ok-open-in-None-clause-state c =
    let now = c.args.self.now in
    let made = c.in_ok-open-in-None.ensures in
    opened-state c.args.func.now c.args.x c.args.turn now.classes.placed.items now.classes.class.items now.classes.shadow.items now.classes.stamps.items now.shadowed now.plain c.requires.looking c.requires.started
    (none-shadowed c.args.func.now c.args.x now.classes.placed.items now.classes.class.items now.classes.shadow.items now.shadowed now.plain c.requires.looking.heads c.args.turn now.classes.stamps.items c.requires.shadow c.in-None.ensures.none)
    c.open.new.self.classes.placed.items c.open.new.self.classes.class.items c.open.new.self.classes.shadow.items c.open.new.self.classes.stamps.items c.open.new.self.shadowed c.open.new.self.plain
    made.placed made.class made.shadow made.stamps made.heads

pub returns-in_ok-push-in-Some-clause-state : goal.returns-in_ok-push-in-Some-clause-state
returns-in_ok-push-in-Some-clause-state c =
    let now = c.args.self.now in
    let row = c.row_of-row.ensures.row in
    shadowed-state c.args.func.now c.args.x c.args.turn now.classes.placed.items now.classes.class.items now.classes.shadow.items now.classes.stamps.items now.shadowed now.plain c.requires.looking c.requires.started
    c.take-head.result (subst (FitsIn c.args.func.now now.classes c.args.x c.args.turn) (ap (λ r. slice_index (row_at now.plain r) c.in-Some.place) (sym row) ∙ sym c.take-head.ensures.value) c.in-Some.ensures.fits)
    c.join.new.self.placed.items c.join.new.self.class.items c.join.new.self.shadow.items c.join.new.self.stamps.items c.join.ensures.placed c.join.ensures.class c.join.ensures.shadow c.join.ensures.stamps
    c.row_of-row.result c.in-Some.place c.push.new.self c.take-head.new.self row c.row_of-row.ensures.few (subst (λ r. c.in-Some.place < length (row_at now.plain r)) (sym row) c.in-Some.ensures.within) c.take-head.ensures.value c.requires.shadow
    c.in_ok-push-in-Some.ensures c.take-head.ensures.rows
