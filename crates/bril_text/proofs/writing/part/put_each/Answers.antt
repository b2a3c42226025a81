use Rattle.bril_tree.proofs.Elements.{All-one_more, All-whole}
use Rattle.bril_text.proofs.WritingLists.{items_written}
use Rattle.bril_text.proofs.writing.part.put_each.Goals as goal

pub loop-part-preserved : goal.loop-part-preserved
loop-part-preserved g c =
    let at = c.loop-part.part-index in
    record {
      text = items_written g.T.Part.canonical c.args.parts.now at c.part-item.result c.args.into.now c.loop-part.into c.put.new.into c.loop-part-test.true c.part-item.is c.loop-part.invariant.text c.in_ok-put.ensures.text;
      valid = All-one_more g.T.Part.is_part c.args.parts.now at c.part-item.result c.loop-part-test.true c.part-item.is c.loop-part.invariant.valid c.in_ok-put.ensures.valid;
    }

pub returns-clause-valid : goal.returns-clause-valid
returns-clause-valid g c = All-whole g.T.Part.is_part c.args.parts.now c.loop-part.part-index c.loop-part-test.false c.loop-part.invariant.valid
