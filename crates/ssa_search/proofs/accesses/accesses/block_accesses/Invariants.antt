use Rattle.std.proofs.Common.{◌≡◌, ◌*◌, length}
use Rattle.ssa_search.specs.accesses.Accesses.{AreAccessesBefore}
use Rattle.ssa_search.proofs.accesses.accesses.block_accesses.Given as goal

abbrev pub invariant-loop-point : goal.invariant-loop-point
invariant-loop-point l = record {
  long : length l.last.items ≡ 2 * length l.func.vars;
  before : AreAccessesBefore l.func.code l.point l.last.items l.exposed.items l.firsts.items;
}
