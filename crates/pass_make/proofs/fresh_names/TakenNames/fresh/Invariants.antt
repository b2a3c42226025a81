use Rattle.std.proofs.Common.{◌+◌, ◌-◌, length}
use Rattle.std.specs.List.{sum_by}
use Rattle.pass_make.proofs.Marks.{AreMarked}
use Rattle.pass_make.proofs.fresh_names.TakenNames.fresh.Given as goal

abbrev pub invariant-marks : goal.invariant-marks
invariant-marks l = AreMarked l.self l.fn.base.items l.bytes.items

abbrev pub decreases-marks : goal.decreases-marks
decreases-marks l = (sum_by length l.self + 1) - length l.bytes.items
