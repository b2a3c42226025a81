use Rattle.bril_nums.proofs.PlainText.{IsInt-signed_decimal, int_of-signed_decimal}
use Rattle.bril_nums.proofs.laws.round_trip_law.Goals as goal

pub returns-clause-spelled : goal.returns-clause-spelled
returns-clause-spelled c = IsInt-signed_decimal

pub returns-clause-read : goal.returns-clause-read
returns-clause-read c = int_of-signed_decimal
