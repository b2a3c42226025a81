use Rattle.std.proofs.Common.{◌++◌, codes}
use Rattle.bril_tree.proofs.Elements.{All-one_more}
use Rattle.bril_text.proofs.WritingLists.{items_written, two_written}
use Rattle.bril_text.proofs.writing.part.put_first_and_rest.Goals as goal

pub loop-part-preserved : goal.loop-part-preserved
loop-part-preserved g c =
    let at = c.loop-part.part-index in
    let old = c.args.into.now ++ g.T.Part.canonical c.args.first.now in
    let last = c.put-in-loop-part.new.into in
    record {
      text = items_written (λ (x : g.row.T.Denot). codes ", " ++ g.T.Part.canonical x) c.args.rest.now at c.part-item.result old c.loop-part.into last c.loop-part-test.true c.part-item.is c.loop-part.invariant.text
          (two_written c.loop-part.into c.add.new.self last (codes ", ") (g.T.Part.canonical c.part-item.result) c.in_ok-add.ensures.ok c.in_ok-put-2.ensures.text);
      first = c.loop-part.invariant.first;
      valid = All-one_more g.T.Part.is_part c.args.rest.now at c.part-item.result c.loop-part-test.true c.part-item.is c.loop-part.invariant.valid c.in_ok-put-2.ensures.valid;
    }
