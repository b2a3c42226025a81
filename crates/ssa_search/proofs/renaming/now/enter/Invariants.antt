use Rattle.std.proofs.Common.{◌≡◌, length, drop}
use Rattle.ssa_search.specs.renaming.Gets.{with_gets}
use Rattle.ssa_search.proofs.renaming.now.enter.Given as goal

abbrev pub invariant-loop-get : goal.invariant-loop-get
invariant-loop-get l = record {
  long : length l.definitions ≡ length l.fn.definitions;
  set : with_gets (drop l.get-index l.gets) l.definitions ≡ with_gets l.gets l.fn.definitions;
}
