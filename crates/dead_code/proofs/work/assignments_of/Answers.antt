use Rattle.std.proofs.Common.{ap, length, drop, arith}
use Rattle.std.proofs.lemmas.List.{length-append}
use Rattle.dead_code.specs.Work.{assignments_from}
use Rattle.dead_code.proofs.Clearing.{length-assignments}
use Rattle.dead_code.proofs.work.assignments_of.Goals as goal

pub of-requires : goal.of-requires
of-requires c =
    let code = c.args.code.now in
    omega (arith, ap length c.loop-item.invariant, length-append c.loop-item.assignments.items (assignments_from c.loop-item.item (drop c.loop-item.item code)), length-assignments 0 code, c.requires)
