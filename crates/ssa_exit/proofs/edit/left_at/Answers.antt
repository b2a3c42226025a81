use Rattle.std.proofs.Common.{◌<◌, length, subst, sym}
use Rattle.bril_tree.proofs.Elements.{get_at}
use Rattle.ssa_exit.proofs.Loops.{below-at, shaped-at}
use Rattle.ssa_exit.proofs.edit.left_at.Goals as goal

pub left-requires-clause-known : goal.left-requires-clause-known
left-requires-clause-known c =
    below-at c.args.func.now c.args.point c.index-as_slice-point.result (get_at c.as_slice.result.now c.args.func.now.code c.as_slice.ensures c.args.point c.index-as_slice-point.result (subst (λ l. c.args.point < length l) (sym c.as_slice.ensures) c.requires.point) c.index-as_slice-point.is)

pub left-requires-clause-shaped : goal.left-requires-clause-shaped
left-requires-clause-shaped c =
    shaped-at c.args.func.now c.requires.shaped c.args.point c.index-as_slice-point.result
    (get_at c.as_slice.result.now c.args.func.now.code c.as_slice.ensures c.args.point c.index-as_slice-point.result (subst (λ l. c.args.point < length l) (sym c.as_slice.ensures) c.requires.point) c.index-as_slice-point.is)
