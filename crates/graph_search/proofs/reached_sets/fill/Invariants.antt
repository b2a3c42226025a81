use Rattle.std.proofs.Common.{◌≡◌, ◌+◌, length}
use Rattle.graph_search.specs.Sets.{room}
use Rattle.graph_search.proofs.Filling.{Filling}
use Rattle.graph_search.proofs.reached_sets.fill.Given as goal

abbrev pub invariant-loop-node : goal.invariant-loop-node
invariant-loop-node g l = record {
  words : length l.words.words ≡ length l.fn.words.words;
  nodes : length l.pending.marks ≡ length l.fn.words.words;
  filling : Filling l.graph.arcs (g.G.Gates.opens l.gates) l.seeds l.words.words l.pending.marks;
}

abbrev pub decreases-loop-node : goal.decreases-loop-node
decreases-loop-node g l = room l.words.words + l.pending.left
