use Rattle.std.proofs.Common.{◌≡◌, ◌++◌, drop}
use Rattle.std.specs.List.{flat_map}
use Rattle.ssa_search.specs.placing.Blocks.{edge_arcs}
use Rattle.ssa_search.proofs.placing.blocks.block_arcs.Given as goal

abbrev pub invariant-loop-edge : goal.invariant-loop-edge
invariant-loop-edge l = l.arcs.items ++ flat_map (edge_arcs l.code) (drop l.edge-index l.graph.edges) ≡ flat_map (edge_arcs l.code) l.graph.edges
