use Rattle.std.proofs.Common.{◌≡◌, ℕ, ◌+◌, ◌≤◌, length, map, true}
use Rattle.graph_search.specs.Adjacency.{EndsRow}
use Rattle.graph_search.specs.Sets.{Spreads, has_bit, room}
use Rattle.graph_search.proofs.Visiting.{Goes}
use Rattle.graph_search.proofs.reached_sets.spread.Given as goal

-- the word was passed on over the arcs from the row's end on
abbrev pub invariant-loop-end : goal.invariant-loop-end
invariant-loop-end g l = record {
  words : length l.words.words ≡ length l.fn.words.words;
  nodes : length l.pending.marks ≡ length l.fn.words.words;
  spreads : Spreads (λ n k. (has_bit l.word k ≡ true) × Goes l.graph.arcs (g.G.Gates.opens l.gates k) l.node l.end n) l.fn.words.words l.fn.pending.marks l.words.words l.pending.marks;
  room : room l.words.words + l.pending.left ≤ room l.fn.words.words + l.fn.pending.left;
  bound : ℕ;
  within : bound ≤ length l.graph.arcs;
  row : EndsRow (map (λ arc. arc.from) l.graph.arcs) l.node bound l.end;
}

abbrev pub decreases-loop-end : goal.decreases-loop-end
decreases-loop-end g l = l.end
