use Rattle.coalesce.specs.Rounds.{HasNoneBelow}
use Rattle.coalesce.proofs.round.is_changed.Given as goal

abbrev pub invariant-loop-number : goal.invariant-loop-number
invariant-loop-number l = HasNoneBelow l.prog l.number
