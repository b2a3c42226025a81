use Rattle.std.proofs.Common.{◌++◌, sym, ap, ◌∙◌}
use Rattle.ssa_build.specs.code.Layout.{view_of}
use Rattle.ssa_build.specs.code.Sweep.{sets_falling}
use Rattle.ssa_build.proofs.code.sweep.push_falling.Goals as goal

pub returns : goal.returns
returns c = c.in_ok-push_sets_to.ensures ∙ ap (λ b. c.args.code.now ++ sets_falling (view_of c.args.layout.now) c.args.now.now b c.args.point) (sym c.if-not-falls.false)
