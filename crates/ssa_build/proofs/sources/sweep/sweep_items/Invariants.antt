use Rattle.std.proofs.Common.{suc}
use Rattle.ssa_search.specs.gets.Wants.{gets_of}
use Rattle.ssa_build.specs.sources.Sweeping.{AreOperandsBefore}
use Rattle.ssa_search.specs.renaming.Tells.{TellsNow}
use Rattle.ssa_laws.specs.reaching_definitions.Told.{into_at}
use Rattle.ssa_build.proofs.sources.sweep.sweep_items.Given as goal

abbrev pub invariant-loop-point : goal.invariant-loop-point
invariant-loop-point l = record {
  tells : TellsNow (into_at l.func.code l.func.args (gets_of l.wants) l.point) l.now;
  before : AreOperandsBefore l.func.code l.func.args (gets_of l.wants) (suc l.point) l.operands.items;
}
