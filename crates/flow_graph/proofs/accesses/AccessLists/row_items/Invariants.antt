use Rattle.std.specs.List.{All, Contains}
use Rattle.flow_graph.specs.Accesses.{Accesses}
use Rattle.flow_graph.proofs.AccessRows.{RowDone}
use Rattle.flow_graph.proofs.accesses.AccessLists.row_items.Given as goal

-- the items of the row from its end on
abbrev pub invariant-loop-end : goal.invariant-loop-end
invariant-loop-end l = record {
  done : RowDone l.self.list l.location l.end (λ k access. Contains l.items.items access.item);
  only : All (λ item. Accesses l.self.list l.location item) l.items.items;
}

abbrev pub decreases-loop-end : goal.decreases-loop-end
decreases-loop-end l = l.end
