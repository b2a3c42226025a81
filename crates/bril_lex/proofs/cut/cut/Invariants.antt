use Rattle.std.proofs.Common.{◌-◌, ◌≤◌, length}
use Rattle.bril_lex.proofs.Cuts.{IsCutTo}
use Rattle.bril_lex.proofs.cut.cut.Given as goal

abbrev pub invariant-loop-at : goal.invariant-loop-at
invariant-loop-at l = record { within : l.at ≤ length l.source; cut : IsCutTo l.source l.at l.list }

abbrev pub decreases-loop-at : goal.decreases-loop-at
decreases-loop-at l = length l.source - l.at
