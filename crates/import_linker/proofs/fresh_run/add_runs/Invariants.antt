-- The runs so far.
use Rattle.std.proofs.Common.{◌≡◌, ◌+◌, ◌<◌, ◌^◌, ℕ, false, nat_eq, take}
use Rattle.std.specs.List.{list_any}
use Rattle.import_linker.specs.Linked.{begins_so}
use Rattle.import_linker.specs.Names.{function_names}
use Rattle.import_linker.proofs.fresh_run.add_runs.Given as goal

abbrev pub invariant-loop-function : goal.invariant-loop-function
invariant-loop-function l = record {
  runs : (n : ℕ) → list_any (nat_eq n) l.runs.keys ≡ list_any (begins_so n) (function_names (take l.function-index l.functions));
  longest : (n : ℕ) → l.longest < n → list_any (begins_so n) (function_names (take l.function-index l.functions)) ≡ false;
  small : l.longest + 1 < 2 ^ 64;
}
