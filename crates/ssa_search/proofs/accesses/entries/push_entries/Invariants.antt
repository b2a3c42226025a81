use Rattle.std.proofs.Common.{◌≡◌, ◌++◌, drop, map}
use Rattle.ssa_search.specs.accesses.Entries.{entry_of}
use Rattle.ssa_search.proofs.accesses.entries.push_entries.Given as goal

abbrev pub invariant-loop-leave : goal.invariant-loop-leave
invariant-loop-leave l = l.entries.items ++ map (entry_of l.label) (drop l.leave-index l.leaves) ≡ l.fn.entries.items ++ map (entry_of l.label) l.leaves
