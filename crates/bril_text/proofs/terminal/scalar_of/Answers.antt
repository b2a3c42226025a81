use Rattle.std.proofs.Common.{◌<◌, length, arith}
use Rattle.std.proofs.lemmas.Grind.{common_steps}
use Rattle.bril_text.proofs.Chars.{IsScalarText-utf8, IsScalarText-some}
use Rattle.bril_text.proofs.terminal.scalar_of.Goals as goal

pub unreachable-requires : goal.unreachable-requires
unreachable-requires c =
    let some : 0 < length c.args.text.now = IsScalarText-some c.args.text.now c.requires in
    grind (arith, common_steps, c.in-Ok.ensures, c.in-None.ensures)

pub unreachable-requires-in-Err : goal.unreachable-requires-in-Err
unreachable-requires-in-Err c = c.in-Err.ensures.cases.0 (IsScalarText-utf8 c.args.text.now c.requires)
