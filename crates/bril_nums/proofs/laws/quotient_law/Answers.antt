use Rattle.bril_nums.proofs.Quotients.{quotient_truncated, quotient_remainder, quotient_least}
use Rattle.bril_nums.proofs.laws.quotient_law.Goals as goal

pub returns-clause-truncated : goal.returns-clause-truncated
returns-clause-truncated c = quotient_truncated

pub returns-clause-remainder : goal.returns-clause-remainder
returns-clause-remainder c = quotient_remainder

pub returns-clause-least : goal.returns-clause-least
returns-clause-least c = quotient_least
