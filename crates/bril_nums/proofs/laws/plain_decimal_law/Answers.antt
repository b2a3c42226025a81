use Rattle.bril_nums.proofs.PlainText.{IsPlainDecimal-signed_decimal, signed_decimal-IsPlainDecimal, length-signed_decimal-le}
use Rattle.bril_nums.proofs.laws.plain_decimal_law.Goals as goal

pub returns-clause-plain : goal.returns-clause-plain
returns-clause-plain c = IsPlainDecimal-signed_decimal

pub returns-clause-only : goal.returns-clause-only
returns-clause-only c = signed_decimal-IsPlainDecimal

pub returns-clause-short : goal.returns-clause-short
returns-clause-short c = length-signed_decimal-le
