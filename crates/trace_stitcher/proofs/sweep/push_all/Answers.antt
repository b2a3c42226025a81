use Rattle.std.proofs.Common.{◌∷◌, [], map, arith}
use Rattle.std.proofs.lemmas.List.{length-append}
use Rattle.bril_tree.specs.declared.function_tree.Item.TheVariants as item
use Rattle.trace_stitcher.specs.Inserted.{row}
use Rattle.trace_stitcher.proofs.Splicing.{around-grows}
use Rattle.trace_stitcher.proofs.sweep.push_all.Goals as goal

pub loop-item-preserved : goal.loop-item-preserved
loop-item-preserved c =
    let inv = c.loop-item.invariant in
    let inserted = c.args.inserted.now in
    record {
      count = let h = inv.count in let k = length-append c.loop-item.yielded (c.in-Some.item ∷ []) in omega (arith, h, k);
      made = around-grows (λ i. map item.Label (row inserted.before.items i)) (row inserted.behind.items) c.loop-item.yielded c.in-Some.item c.loop-item.point c.args.made.now c.loop-item.made c.push_around.new.made inv.count inv.made c.in_ok-push_around.ensures;
    }
