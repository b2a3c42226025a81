use Rattle.std.proofs.Common.{refl}
use Rattle.variable_coloring.proofs.Placing.{opened-state, plain-state}
use Rattle.variable_coloring.proofs.colors.Colors.put_plain.Goals as goal

pub returns-in-Some-clause-state : goal.returns-in-Some-clause-state
returns-in-Some-clause-state c =
    let now = c.args.self.now in
    plain-state c.args.func.now c.args.x c.args.turn now.classes.placed.items now.classes.class.items now.classes.shadow.items now.classes.stamps.items now.shadowed now.plain c.requires.looking c.requires.started
    c.in-Some.head c.in-Some.ensures c.join.new.self.placed.items c.join.new.self.class.items c.join.new.self.shadow.items c.join.new.self.stamps.items c.join.ensures.placed c.join.ensures.class c.join.ensures.shadow c.join.ensures.stamps c.requires.shadow

pub returns-in_ok-open-in-None-clause-state : goal.returns-in_ok-open-in-None-clause-state
returns-in_ok-open-in-None-clause-state c =
    let now = c.args.self.now in
    let made = c.in_ok-open-in-None.ensures in
    opened-state c.args.func.now c.args.x c.args.turn now.classes.placed.items now.classes.class.items now.classes.shadow.items now.classes.stamps.items now.shadowed now.plain c.requires.looking c.requires.started (c.in-None.ensures.none refl)
    c.open.new.self.classes.placed.items c.open.new.self.classes.class.items c.open.new.self.classes.shadow.items c.open.new.self.classes.stamps.items c.open.new.self.shadowed c.open.new.self.plain
    made.placed made.class made.shadow made.stamps made.heads

pub returns-then-takes-clause-state : goal.returns-then-takes-clause-state
returns-then-takes-clause-state c =
    let now = c.args.self.now in
    let made = c.join-then-takes.new.self in
    let joins = c.join-then-takes.ensures in
    plain-state c.args.func.now c.args.x c.args.turn now.classes.placed.items now.classes.class.items now.classes.shadow.items now.classes.stamps.items now.shadowed now.plain c.requires.looking c.requires.started
    c.in-Some-fitting.head c.in-Some-fitting.ensures.some made.placed.items made.class.items made.shadow.items made.stamps.items joins.placed joins.class joins.shadow joins.stamps c.requires.shadow
