use Rattle.std.proofs.Common.{length, ap, ◌∙◌, arith}
use Rattle.std.proofs.lemmas.Option.{slice_get_within}
use Rattle.coalesce.proofs.Starting.{related-more}
use Rattle.coalesce.proofs.classes.related_variables.Goals as goal

pub loop-item-preserved : goal.loop-item-preserved
loop-item-preserved c = record {
  long = c.relate.ensures.long ∙ c.loop-item.invariant.long;
  relates = related-more c.args.func.now c.requires c.loop-item.related.items c.relate.new.related.items c.as_slice-item-items.result.now c.as_slice-item-items.ensures c.loop-item.item-index c.item-item.result c.loop-item-test.true c.item-item.is
      c.loop-item.invariant.long c.relate.ensures c.loop-item.invariant.relates;
}

pub returns-clause-relates : goal.returns-clause-relates
returns-clause-relates c = λ point item at.
    let low = slice_get_within c.args.func.now.code point item at in
    let over = c.loop-item-test.false in
    c.loop-item.invariant.relates point item (omega (arith, ap length c.as_slice-item-items.ensures)) at
