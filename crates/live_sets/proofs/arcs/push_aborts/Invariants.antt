use Rattle.std.proofs.Common.{◌≡◌, ◌++◌, drop}
use Rattle.live_sets.specs.Arcs.{abort_arcs}
use Rattle.live_sets.proofs.arcs.push_aborts.Given as goal

abbrev pub invariant-loop-edge : goal.invariant-loop-edge
invariant-loop-edge l = l.arcs.items ++ abort_arcs l.code (drop l.edge-index l.edges) ≡ l.fn.arcs.items ++ abort_arcs l.code l.edges
