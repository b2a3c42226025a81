use Rattle.std.proofs.Common.{subst, sym}
use Rattle.variable_coloring.specs.Growing.{AreMet}
use Rattle.variable_coloring.proofs.Placing.{first-argument}
use Rattle.variable_coloring.proofs.Waiting.{met-first}
use Rattle.variable_coloring.proofs.colors.Colors.look_at.Goals as goal

pub returns-then-x-func : goal.returns-then-x-func
returns-then-x-func c =
    let made = c.in_ok-open.ensures in
    first-argument c.args.func.now c.args.x c.args.self.now c.open.new.self c.requires.first c.requires.below c.if-x-func.true made.class made.placed made.shadow made.stamps made.heads

pub put-requires-clause-met : goal.put-requires-clause-met
put-requires-clause-met c =
    subst (AreMet c.args.func.now c.args.x c.args.self.now.classes.placed.items) (sym c.as_slice.ensures.value)
    (met-first c.args.func.now c.args.x c.args.pairs.now.list c.args.self.now.classes.placed.items c.in_ok-met.met.items c.requires.pairs c.requires.below c.requires.first.only c.in_ok-met.ensures)
