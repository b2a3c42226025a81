use Rattle.std.proofs.Common.{◌≡◌, length, drop}
use Rattle.ssa_search.specs.gets.Found.{with_values}
use Rattle.ssa_search.proofs.gets.found.erase_firsts.Given as goal

abbrev pub invariant-loop-point : goal.invariant-loop-point
invariant-loop-point l = record {
  long : length l.first.items ≡ length l.fn.first.items;
  written : with_values (λ _. 4294967295) l.heads (drop l.point-index l.points) l.first.items ≡ with_values (λ _. 4294967295) l.heads l.points l.fn.first.items;
}
