use Rattle.std.proofs.Common.{subst, sym, ◌∙◌}
use Rattle.variable_coloring.specs.Growing.{StampsClasses}
use Rattle.variable_coloring.proofs.Placing.{looking}
use Rattle.variable_coloring.proofs.colors.Colors.put.Goals as goal

pub put_shadowed-requires-clause-looking : goal.put_shadowed-requires-clause-looking
put_shadowed-requires-clause-looking c =
    let now = c.args.self.now.classes in
    let made = c.stamp_wishes.new.self in
    let first = c.stamp_all.ensures in
    let wished = c.stamp_wishes.ensures in
    looking c.args.func.now c.args.x c.args.turn now.placed.items now.class.items now.shadow.items now.stamps.items c.args.self.now.shadowed c.args.self.now.plain c.requires.state c.requires.below c.requires.behind c.requires.waiting c.args.met.now c.requires.met
    made.placed.items made.class.items made.shadow.items made.stamps.items (wished.placed ∙ first.placed) (wished.class ∙ first.class) (wished.shadow ∙ first.shadow)
    (subst (StampsClasses c.args.turn now.class.items c.args.met.now now.stamps.items) (sym wished.stamps) first.stamps)

pub put_plain-requires-clause-looking : goal.put_plain-requires-clause-looking
put_plain-requires-clause-looking c =
    let now = c.args.self.now.classes in
    let made = c.stamp_wishes.new.self in
    let first = c.stamp_all.ensures in
    let wished = c.stamp_wishes.ensures in
    looking c.args.func.now c.args.x c.args.turn now.placed.items now.class.items now.shadow.items now.stamps.items c.args.self.now.shadowed c.args.self.now.plain c.requires.state c.requires.below c.requires.behind c.requires.waiting c.args.met.now c.requires.met
    made.placed.items made.class.items made.shadow.items made.stamps.items (wished.placed ∙ first.placed) (wished.class ∙ first.class) (wished.shadow ∙ first.shadow)
    (subst (StampsClasses c.args.turn now.class.items c.args.met.now now.stamps.items) (sym wished.stamps) first.stamps)
