use Rattle.std.proofs.Common.{◌<◌}
use Rattle.std.specs.List.{AllWithin}
use Rattle.graph_search.proofs.reached.next_stamp.Given as goal

abbrev pub invariant-loop-s : goal.invariant-loop-s
invariant-loop-s l = AllWithin (λ s. s < 1) l.stamps 0 l.s-index
