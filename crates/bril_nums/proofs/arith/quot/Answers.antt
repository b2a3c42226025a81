use Rattle.std.proofs.Common.{pos, ◌≢◌, arith}
use Rattle.std.proofs.lemmas.Int.{ints, to_z-of_z}
use Rattle.bril_nums.proofs.Quotients.{quotient_is, wrapping_div_is}
use Rattle.bril_nums.proofs.arith.quot.Goals as goal

pub returns-else-b-eq0-clause-value : goal.returns-else-b-eq0-clause-value
returns-else-b-eq0-clause-value c =
    let some : c.args.b ≢ pos 0 = λ e. c.if-b-eq0.false (omega (arith, ints)) in
    let divided = wrapping_div_is c.args.a c.args.b c.ranges.a in
    let named = quotient_is c.args.a c.args.b some in
    grind (arith, to_z-of_z)
