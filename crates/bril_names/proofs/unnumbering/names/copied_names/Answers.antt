use Rattle.std.proofs.Common.{length}
use Rattle.bril_names.proofs.Naming.{AreBelow-at}
use Rattle.bril_names.proofs.unnumbering.names.copied_names.Goals as goal

pub copied_name-requires : goal.copied_name-requires
copied_name-requires g c = AreBelow-at (length c.args.table.now) c.args.numbers.now c.loop-number.number-index 0 c.loop-number-test.true c.requires
