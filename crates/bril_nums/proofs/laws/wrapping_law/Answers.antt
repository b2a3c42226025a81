use Rattle.bril_nums.proofs.Wraps.{wrapped, wrapped_only}
use Rattle.bril_nums.proofs.laws.wrapping_law.Goals as goal

pub returns-clause-wrapped : goal.returns-clause-wrapped
returns-clause-wrapped c = wrapped

pub returns-clause-only : goal.returns-clause-only
returns-clause-only c = wrapped_only
