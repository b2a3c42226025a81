use Rattle.std.proofs.Common.{◌≡◌, ◌++◌, drop, map}
use Rattle.ssa_build.specs.sources.Sweeping.{entry_key}
use Rattle.ssa_build.proofs.sources.sweep.entry_keys.Given as goal

abbrev pub invariant-loop-entry : goal.invariant-loop-entry
invariant-loop-entry l = l.keys.items ++ map entry_key (drop l.entry-index l.entries) ≡ map entry_key l.entries
