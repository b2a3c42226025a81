use Rattle.std.proofs.Common.{◌≡◌, ◌+◌, min}
use Rattle.bril_tree.specs.Size.{item_count}
use Rattle.side_laws.specs.Sided.{exits_size}
use Rattle.side_traces.proofs.Bounding.{exits_in}
use Rattle.side_traces.proofs.bound.side_bound.Given as goal

abbrev pub invariant-loop-func : goal.invariant-loop-func
invariant-loop-func l = l.bound ≡ min (item_count l.prog + exits_size (exits_in l.prog) l.func-index) 18446744073709551615
