use Rattle.std.proofs.Common.{length, ap, ◌∙◌, arith}
use Rattle.std.specs.Fmt.{signed_decimal}
use Rattle.std.proofs.lemmas.Int.{to_z-of_z}
use Rattle.std.proofs.lemmas.Grind.{common_steps}
use Rattle.bril_nums.proofs.PlainText.{IsPlainDecimal-written, length-signed_decimal-gt}
use Rattle.bril_nums.proofs.decimal.put_int.Goals as goal

pub returns-clause-not_empty : goal.returns-clause-not_empty
returns-clause-not_empty c =
    let written = c.as_bytes-text.ensures.value ∙ c.format.ensures.text ∙ ap signed_decimal (to_z-of_z _ c.args.n c.ranges.n) in
    omega (arith, ap length written, length-signed_decimal-gt c.args.n c.ranges.n)

pub returns-clause-plain : goal.returns-clause-plain
returns-clause-plain c = IsPlainDecimal-written _ c.args.n c.ranges.n (grind (arith, common_steps, to_z-of_z))
