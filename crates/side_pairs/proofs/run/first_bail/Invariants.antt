use Rattle.side_pairs.proofs.Running.{HasNoGuard}
use Rattle.side_pairs.proofs.run.first_bail.Given as goal

abbrev pub invariant-loop-place : goal.invariant-loop-place
invariant-loop-place l = HasNoGuard l.code l.start l.place
