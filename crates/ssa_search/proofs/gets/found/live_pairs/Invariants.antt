use Rattle.std.proofs.Common.{◌≡◌, ◌+◌, length}
use Rattle.ssa_search.specs.gets.Found.{AreFoundBefore, IsBlank}
use Rattle.ssa_search.proofs.gets.found.live_pairs.Given as goal

abbrev pub invariant-loop-location : goal.invariant-loop-location
invariant-loop-location l = record {
  nodes : l.reached.nodes ≡ l.blocks.arcs.nodes;
  long : length l.first.items ≡ l.blocks.arcs.nodes + 1;
  blank : IsBlank l.first.items;
  found : AreFoundBefore l.func.code l.location l.found.items;
}
