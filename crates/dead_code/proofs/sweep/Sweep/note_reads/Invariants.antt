use Rattle.std.proofs.Common.{◌≡◌, map, take}
use Rattle.flow_graph.specs.declared.reads.Access.{Access}
use Rattle.dead_code.specs.Sweep.{AreNoted}
use Rattle.dead_code.proofs.sweep.Sweep.note_reads.Given as goal

abbrev pub invariant-loop-read : goal.invariant-loop-read
invariant-loop-read l = record {
  dead : l.self.dead.items ≡ l.fn.self.dead.items;
  assigns : l.self.assigns.items ≡ l.fn.self.assigns.items;
  branch : l.self.branch ≡ l.fn.self.branch;
  end : l.self.end ≡ l.fn.self.end;
  noted : AreNoted l.point (map (λ (access : Access). access.location) (take l.read-index l.read-items)) l.fn.self.reads.items l.self.reads.items;
}
