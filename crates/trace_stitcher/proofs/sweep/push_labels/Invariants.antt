use Rattle.std.proofs.Common.{◌≡◌, ◌++◌, map, take}
use Rattle.bril_tree.specs.declared.function_tree.Item.TheVariants as item
use Rattle.trace_stitcher.proofs.sweep.push_labels.Given as goal

abbrev pub invariant-loop-name : goal.invariant-loop-name
invariant-loop-name l = l.made ≡ l.initial.made ++ map item.Label (take l.name-index l.names)
