use Rattle.std.proofs.Common.{◌-◌, refl, sym, ◌∙◌, arith}
use Rattle.bril_tree.proofs.Elements.{get_at}
use Rattle.ssa_build.proofs.lemmas.code.Pushing.{falls-on}
use Rattle.ssa_build.proofs.code.sweep.falls_at.Goals as goal

pub returns : goal.returns
returns c =
    falls-on c.args.code.now c.args.graph.now.sites c.args.point c.index-code-point.result c.goes_on.result c.if-point-eq0.false (sym c.reached_at.ensures ∙ c.if-not-reached_at.false)
    (get_at c.args.code.now c.args.code.now refl (c.args.point - 1) c.index-code-point.result (let h = c.requires.point in let n = c.if-point-eq0.false in omega (arith, h, n)) c.index-code-point.is) c.goes_on.ensures
