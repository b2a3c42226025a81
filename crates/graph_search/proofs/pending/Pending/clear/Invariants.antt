use Rattle.std.proofs.Common.{◌≡◌, length}
use Rattle.graph_search.proofs.pending.Pending.clear.Given as goal

abbrev pub invariant-loop : goal.invariant-loop
invariant-loop l = length l.self.marks ≡ length l.fn.self.marks

abbrev pub decreases-loop : goal.decreases-loop
decreases-loop l = l.self.left
