-- Each run below is that of a name.
use Rattle.std.proofs.Common.{◌≡◌, ◌+◌, ◌-◌, ◌<◌, ◌≤◌, ℕ, true}
use Rattle.std.specs.List.{list_any}
use Rattle.import_linker.specs.Linked.{begins_so}
use Rattle.import_linker.specs.Names.{function_names}
use Rattle.import_linker.proofs.fresh_run.fresh_run.Given as goal

abbrev pub invariant-loop-run : goal.invariant-loop-run
invariant-loop-run l = record {
  some : 0 < l.run;
  within : l.run ≤ l.longest + 1;
  shortest : (m : ℕ) → 0 < m → m < l.run → list_any (begins_so m) (function_names l.functions) ≡ true;
}

abbrev pub decreases-loop-run : goal.decreases-loop-run
decreases-loop-run l = (l.longest + 1) - l.run
