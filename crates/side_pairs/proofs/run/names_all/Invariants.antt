use Rattle.side_pairs.specs.Runs.{NamesAll}
use Rattle.side_pairs.proofs.run.names_all.Given as goal

abbrev pub invariant-loop-place : goal.invariant-loop-place
invariant-loop-place l = NamesAll l.code l.start l.place l.bail
