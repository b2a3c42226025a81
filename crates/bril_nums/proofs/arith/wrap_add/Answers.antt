use Rattle.std.proofs.Common.{rules}
use Rattle.std.proofs.lemmas.Int.{wraps}
use Rattle.bril_nums.proofs.arith.wrap_add.Goals as goal

pub returns : goal.returns
returns c = search (rules, wraps)
