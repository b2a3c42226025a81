use Rattle.std.proofs.Common.{◌≡◌, ◌++◌, drop}
use Rattle.std.specs.List.{flat_map}
use Rattle.ssa_search.specs.accesses.Accesses.{exposed_read}
use Rattle.ssa_search.proofs.accesses.accesses.push_reads.Given as goal

abbrev pub invariant-loop-read : goal.invariant-loop-read
invariant-loop-read l = l.exposed.items ++ flat_map (exposed_read l.head l.last) (drop l.read-index l.reads) ≡ l.fn.exposed.items ++ flat_map (exposed_read l.head l.last) l.reads
