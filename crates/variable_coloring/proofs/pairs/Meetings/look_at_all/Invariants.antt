use Rattle.std.proofs.Common.{◌≡◌, ◌*◌, length}
use Rattle.variable_coloring.specs.Pairs.{AreDone}
use Rattle.variable_coloring.proofs.Pairing.{AreFoundBelow}
use Rattle.variable_coloring.proofs.pairs.Meetings.look_at_all.Given as goal

abbrev pub invariant-loop-block : goal.invariant-loop-block
invariant-loop-block l = record {
  sets : l.live.sets.nodes ≡ l.flow.arcs.nodes;
  points : l.live.reached.nodes ≡ l.flow.arcs.nodes;
  done : AreDone (length l.related.func.now.vars) l.self.list.items l.self.blocks.items l.self.words.items;
  found : AreFoundBelow l.related.func.now (64 * l.block) l.self.list.items;
}
