use Rattle.std.proofs.Common.{◌≡◌, ◌++◌, map, length}
use Rattle.bril_tree.specs.declared.function_tree.Item.TheVariants as item
use Rattle.trace_stitcher.specs.Inserted.{around, row}
use Rattle.trace_stitcher.proofs.sweep.push_all.Given as goal

abbrev pub invariant-loop-item : goal.invariant-loop-item
invariant-loop-item l = record {
  count : l.point ≡ length l.yielded;
  made : l.made ≡ l.initial.made ++ around (λ i. map item.Label (row l.inserted.before.items i)) (row l.inserted.behind.items) 0 l.yielded;
}
