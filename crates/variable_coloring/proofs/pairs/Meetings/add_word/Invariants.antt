use Rattle.std.proofs.Common.{◌≡◌, ◌<◌, ℕ, true, length}
use Rattle.graph_search.specs.Sets.{has_bit}
use Rattle.variable_coloring.specs.Pairs.{AddsPairs, AreDone}
use Rattle.variable_coloring.proofs.pairs.Meetings.add_word.Given as goal

-- the variables whose bits are no longer set were looked at
abbrev pub invariant-loop-left : goal.invariant-loop-left
invariant-loop-left l = record {
  done : AreDone (length l.related.func.now.vars) l.self.list.items l.self.blocks.items l.self.words.items;
  among : (k : ℕ) → has_bit l.left k ≡ true → has_bit l.word k ≡ true;
  adds : AddsPairs l.related.func.now l.block (λ k p. (k < 64) × (has_bit l.word k ≡ true) × (p ≡ l.point) × (has_bit l.left k ≡ true → ⊥)) l.initial.self.list.items l.self.list.items;
}

abbrev pub decreases-loop-left : goal.decreases-loop-left
decreases-loop-left l = l.left
