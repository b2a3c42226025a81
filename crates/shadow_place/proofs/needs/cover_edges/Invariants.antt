use Rattle.std.proofs.Common.{take}
use Rattle.std.specs.List.{Contains}
use Rattle.bril_tree.specs.declared.edge.Edge.{Edge}
use Rattle.shadow_place.specs.Spans.{IsAssignedBy, Widens}
use Rattle.shadow_place.proofs.needs.cover_edges.Given as goal

-- the edges so far
abbrev pub invariant-loop-edge : goal.invariant-loop-edge
invariant-loop-edge l = Widens (λ slot point. (edge : Edge) × Contains (take l.edge-index l.edges) edge × IsAssignedBy l.code l.lowered edge slot point) l.fn.spans.items l.spans.items
