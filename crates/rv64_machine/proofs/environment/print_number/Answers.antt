-- The text of a number is something.
use Rattle.std.proofs.Common.{◌≡◌, ◌<◌, length, ap, ◌∙◌, rules, FitsSigned, of_z, to_z}
use Rattle.std.specs.Int.{w64}
use Rattle.std.specs.Fmt.{signed_decimal}
use Rattle.std.proofs.Math.Facts.{sfits_to_z}
use Rattle.std.proofs.lemmas.Int.{to_z-of_z}
use Rattle.bril_nums.proofs.PlainText.{length-signed_decimal-gt}
use Rattle.rv64_machine.proofs.environment.print_number.Goals as goal

pub returns-clause-ok : goal.returns-clause-ok
returns-clause-ok g c =
    let fits : FitsSigned w64 (to_z w64 c.args.number) = sfits_to_z c.ranges.number in
    let is : c.as_bytes.result.now ≡ signed_decimal (to_z w64 c.args.number) = c.as_bytes.ensures.value ∙ c.format-text.ensures.text ∙ ap (λ r. signed_decimal (to_z w64 (of_z w64 r))) c.cast_signed.ensures ∙ ap signed_decimal (to_z-of_z w64 _ fits) in
    let some : 0 < length (signed_decimal (to_z w64 c.args.number)) = length-signed_decimal-gt _ fits in
    let put = rw is at c.put.ensures.ok in
    search rules

pub returns-clause-err : goal.returns-clause-err
returns-clause-err g c =
    let fits : FitsSigned w64 (to_z w64 c.args.number) = sfits_to_z c.ranges.number in
    let is : c.as_bytes.result.now ≡ signed_decimal (to_z w64 c.args.number) = c.as_bytes.ensures.value ∙ c.format-text.ensures.text ∙ ap (λ r. signed_decimal (to_z w64 (of_z w64 r))) c.cast_signed.ensures ∙ ap signed_decimal (to_z-of_z w64 _ fits) in
    let some : 0 < length (signed_decimal (to_z w64 c.args.number)) = length-signed_decimal-gt _ fits in
    let put = rw is at c.put.ensures.err in
    search rules
