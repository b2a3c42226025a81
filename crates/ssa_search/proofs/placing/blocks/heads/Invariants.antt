use Rattle.std.proofs.Common.{◌≡◌, ℕ, ◌<◌, length}
use Rattle.std.specs.Prelude.{slice_index}
use Rattle.ssa_search.specs.placing.Blocks.{head_before}
use Rattle.ssa_search.specs.placing.Wanted.{head_of}
use Rattle.ssa_search.proofs.placing.blocks.heads.Given as goal

abbrev pub invariant-loop-point : goal.invariant-loop-point
invariant-loop-point l = record {
  long : length l.heads.items ≡ l.point;
  head : l.head ≡ head_before l.code l.point;
  heads : (p : ℕ) → p < l.point → slice_index l.heads.items p ≡ head_of l.code p;
}
