use Rattle.std.proofs.Common.{arith, subst, sym, ◌+◌, ◌∙◌}
use Rattle.variable_coloring.specs.Growing.{AreMet}
use Rattle.variable_coloring.proofs.Placing.{second-turn}
use Rattle.variable_coloring.proofs.Waiting.{met-second}
use Rattle.variable_coloring.proofs.colors.Colors.look_again.Goals as goal

pub put-requires-clause-met : goal.put-requires-clause-met
put-requires-clause-met c =
    subst (AreMet c.args.func.now c.args.x c.args.self.now.classes.placed.items) (sym c.as_slice.ensures.value)
    (met-second c.args.func.now c.args.x c.args.late.now.list c.args.self.now.classes.placed.items c.in_ok-met.met.items c.requires.second.late c.requires.below (sym c.is_placed.ensures ∙ c.if-is_placed.false) c.in_ok-met.ensures)

pub returns : goal.returns
returns c = second-turn c.args.func.now c.args.x c.args.late.now.list c.args.self.now c.put.new.self c.requires.second c.requires.below (c.len.result + c.args.x)
    (let count = c.len.ensures in let long = c.requires.second.state.colors.long in omega (arith, count, long)) c.in_ok-put.ensures.state c.in_ok-put.ensures.placed
