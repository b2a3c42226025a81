use Rattle.flow_graph.proofs.Told.{edge_told, edge_listed, edge_leaves, leaves_edge}
use Rattle.flow_graph.proofs.laws.edges_leave.Goals as goal

pub returns-clause-all : goal.returns-clause-all
returns-clause-all c = λ code graph sound is edge. (edge_told code graph is edge, edge_listed code graph is sound edge)

pub returns-clause-branch : goal.returns-clause-branch
returns-clause-branch c = edge_leaves

pub returns-clause-edge : goal.returns-clause-edge
returns-clause-edge c = leaves_edge
