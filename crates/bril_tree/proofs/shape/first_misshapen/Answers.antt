use Rattle.std.proofs.Common.{sym, ◌∙◌}
use Rattle.bril_tree.specs.Shape.{is_shaped}
use Rattle.bril_tree.proofs.First.{first_failing, none_failing, one_more}
use Rattle.bril_tree.proofs.shape.first_misshapen.Goals as goal

pub returns-then-not-fits_shape : goal.returns-then-not-fits_shape
returns-then-not-fits_shape c =
    first_failing (is_shaped c.args.returns) c.args.items.now c.loop-number.number c.index-items-number.result c.loop-number-test.true c.index-items-number.is c.loop-number.invariant
    (sym c.fits_shape.ensures ∙ c.if-not-fits_shape.true)

pub loop-number-preserved : goal.loop-number-preserved
loop-number-preserved c =
    one_more (is_shaped c.args.returns) c.args.items.now c.loop-number.number c.index-items-number.result c.loop-number-test.true c.index-items-number.is c.loop-number.invariant
    (sym c.fits_shape.ensures ∙ c.if-not-fits_shape.false)

pub returns : goal.returns
returns c = none_failing (is_shaped c.args.returns) c.args.items.now c.loop-number.number c.loop-number-test.false c.loop-number.invariant
