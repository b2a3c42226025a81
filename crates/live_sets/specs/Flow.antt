-- The reads of a function, and the arcs along which locations are live.
use Rattle.std.specs.Prelude.{◌≡◌, ℕ, ◌+◌, List, length}
use Rattle.bril_tree.specs.declared.numbered.Instr.{Instr}
use Rattle.flow_graph.specs.Accesses.{AccessesView}
use Rattle.flow_graph.specs.Reads.{reads_from}
use Rattle.graph_search.specs.declared.graph.Arc.{Arc}
use Rattle.live_sets.specs.Arcs.{AreBackArcs}

-- so many points, the reads of all items, and the arcs along which locations are live
pub record FlowView : Type 0 where
  pub points : ℕ
  pub reads : AccessesView
  pub arcs : List Arc

-- They are those of these items.
pub record IsFlowOf (code : List Instr) (flow : FlowView) : Type 0 where
  pub points : flow.points ≡ length code + 1
  pub reads : flow.reads.list ≡ reads_from 0 code
  pub arcs : AreBackArcs code flow.arcs
