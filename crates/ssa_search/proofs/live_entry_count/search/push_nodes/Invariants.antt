use Rattle.std.proofs.Common.{◌≡◌, ◌++◌, drop, map}
use Rattle.ssa_search.specs.live_entry_count.Lanes.{seed_of}
use Rattle.ssa_search.proofs.live_entry_count.search.push_nodes.Given as goal

abbrev pub invariant-loop-node : goal.invariant-loop-node
invariant-loop-node l = l.seeds.items ++ map (seed_of l.bits) (drop l.node-index l.nodes) ≡ l.fn.seeds.items ++ map (seed_of l.bits) l.nodes
