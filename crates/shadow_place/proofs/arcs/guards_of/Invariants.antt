use Rattle.std.proofs.Common.{◌≡◌, take}
use Rattle.shadow_place.specs.Arcs.{guards_of}
use Rattle.shadow_place.proofs.arcs.guards_of.Given as goal

abbrev pub invariant-loop-edge : goal.invariant-loop-edge
invariant-loop-edge l = l.guards.items ≡ guards_of l.depths l.level (take l.edge-index l.edges)
