use Rattle.std.proofs.Common.{◌≡◌, ◌<◌, true, length, take}
use Rattle.std.specs.Prelude.{slice_index}
use Rattle.std.specs.List.{Contains}
use Rattle.graph_search.specs.Sets.{has_bit}
use Rattle.variable_coloring.specs.Pairs.{AddsPairs, AreDone}
use Rattle.variable_coloring.proofs.pairs.Meetings.look_at.Given as goal

abbrev pub invariant-loop-point : goal.invariant-loop-point
invariant-loop-point l = record {
  done : AreDone (length l.related.func.now.vars) l.self.list.items l.self.blocks.items l.self.words.items;
  adds : AddsPairs l.related.func.now l.block (λ k p. (k < 64) × (has_bit (slice_index l.live.sets.words p) k ≡ true) × Contains (take l.point-index l.live.reached.found) p) l.initial.self.list.items l.self.list.items;
}
