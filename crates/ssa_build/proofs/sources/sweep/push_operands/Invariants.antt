use Rattle.std.proofs.Common.{◌≡◌, ◌++◌, drop, map}
use Rattle.ssa_build.specs.sources.Sweeping.{operand_of}
use Rattle.ssa_build.proofs.sources.sweep.push_operands.Given as goal

abbrev pub invariant-loop-get : goal.invariant-loop-get
invariant-loop-get l = l.operands.items ++ map (operand_of l.base l.now) (drop l.get-index l.gets) ≡ l.fn.operands.items ++ map (operand_of l.base l.now) l.gets
