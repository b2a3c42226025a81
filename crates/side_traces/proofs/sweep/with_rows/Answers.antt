use Rattle.std.proofs.Common.{◌∙◌, ◌∷◌, [], arith}
use Rattle.std.proofs.lemmas.List.{length-append}
use Rattle.side_traces.specs.Rows.{row}
use Rattle.side_traces.proofs.Splicing.{rows-grow}
use Rattle.side_traces.proofs.sweep.with_rows.Goals as goal

pub loop-item-preserved : goal.loop-item-preserved
loop-item-preserved c =
    let inv = c.loop-item.invariant in
    let point = c.loop-item.point in
    record {
      count = let h = inv.count in let k = length-append c.loop-item.yielded (c.in-Some.item ∷ []) in omega (arith, h, k);
      long = c.take_row.ensures.long ∙ inv.long;
      rest = λ i low. c.take_row.ensures.others i (λ e. omega (arith, e, low)) ∙ inv.rest i (omega (arith, low));
      made = rows-grow (row c.args.rows.items) c.loop-item.yielded c.in-Some.item point c.take_row.result c.loop-item.made c.append.new.made c.push.new.self inv.count (c.take_row.ensures.row ∙ inv.rest point (omega arith)) inv.made c.in_ok-append.ensures c.in_ok-push.ensures.ok;
    }
