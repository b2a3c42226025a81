use Rattle.std.proofs.Common.{◌≡◌, ◌<◌, Some}
use Rattle.std.specs.Prelude.{slice_get}
use Rattle.std.specs.List.{All, Contains}
use Rattle.definite_assignment.specs.Window.{place_of}
use Rattle.flow_graph.specs.declared.reads.Access.{Access}
use Rattle.flow_graph.proofs.AccessRows.{RowDone}
use Rattle.graph_search.specs.Sets.{seeds_of}
use Rattle.variable_coloring.proofs.Seeding.{SeedsRead}
use Rattle.variable_coloring.proofs.live_flow.LiveFlow.seeds.Given as goal

-- the seeds of the row from its end on
abbrev pub invariant-loop-end : goal.invariant-loop-end
invariant-loop-end l = record {
  nodes : All (λ seed. seed.node < l.self.arcs.nodes) l.seeds.items;
  done : RowDone l.self.rows.list l.window l.end (λ k access. (read : Access) → slice_get l.self.reads.items k ≡ Some read → Contains (seeds_of (place_of read.location) l.seeds.items) read.item);
  only : SeedsRead l.self.reads.items l.window l.seeds.items;
}

abbrev pub decreases-loop-end : goal.decreases-loop-end
decreases-loop-end l = l.end
