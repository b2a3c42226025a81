-- The bytes so far are `_`.
use Rattle.std.proofs.Common.{◌≡◌}
use Rattle.import_linker.specs.Runs.{run_of}
use Rattle.import_linker.proofs.RunLengths.{run_after}
use Rattle.import_linker.proofs.fresh_run.run_of.Given as goal

abbrev pub invariant-loop-place : goal.invariant-loop-place
invariant-loop-place l = run_of l.name ≡ run_after l.place l.name
