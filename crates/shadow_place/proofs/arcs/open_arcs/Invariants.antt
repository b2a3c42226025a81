use Rattle.std.proofs.Common.{◌≡◌, take}
use Rattle.shadow_place.specs.Arcs.{open_arcs_of}
use Rattle.shadow_place.proofs.arcs.open_arcs.Given as goal

abbrev pub invariant-loop-edge : goal.invariant-loop-edge
invariant-loop-edge l = l.arcs.items ≡ open_arcs_of l.depths l.level (take l.edge-index l.edges)
