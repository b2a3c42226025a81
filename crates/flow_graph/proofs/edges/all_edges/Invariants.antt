use Rattle.std.proofs.Common.{◌≡◌, ◌++◌, List, drop}
use Rattle.bril_tree.specs.declared.numbered.Instr.{Instr}
use Rattle.flow_graph.specs.Graph.{edges_from}
use Rattle.flow_graph.specs.Branches.{AreBranchRows}
use Rattle.flow_graph.proofs.edges.all_edges.Given as goal

abbrev pub invariant-loop-point : goal.invariant-loop-point
invariant-loop-point l = (code : List Instr) → AreBranchRows code l.rows → l.edges ++ edges_from code l.point (drop l.point l.sites) ≡ edges_from code 0 l.sites
