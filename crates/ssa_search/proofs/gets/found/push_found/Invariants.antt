use Rattle.std.proofs.Common.{◌≡◌, ◌++◌, drop, map}
use Rattle.ssa_search.specs.gets.Found.{found_at}
use Rattle.ssa_search.proofs.gets.found.push_found.Given as goal

abbrev pub invariant-loop-label : goal.invariant-loop-label
invariant-loop-label l = l.found.items ++ map (found_at l.location) (drop l.label-index l.labels) ≡ l.fn.found.items ++ map (found_at l.location) l.labels
