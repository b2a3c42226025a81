use Rattle.std.proofs.Common.{◌≡◌, length}
use Rattle.graph_search.proofs.words.Words.clear.Given as goal

abbrev pub invariant-loop : goal.invariant-loop
invariant-loop l = length l.self.words ≡ length l.fn.self.words

abbrev pub decreases-loop : goal.decreases-loop
decreases-loop l = length l.self.touched
