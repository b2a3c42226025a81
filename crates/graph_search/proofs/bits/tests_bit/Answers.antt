use Rattle.std.proofs.Common.{ap}
use Rattle.std.specs.Prelude.{◌==◌}
use Rattle.std.proofs.lemmas.Nat.Bits.{shr_and_one}
use Rattle.graph_search.specs.Sets.{has_bit}
use Rattle.graph_search.proofs.bits.tests_bit.Goals as goal

pub returns : goal.returns
unfolding has_bit
returns c = ap (λ n. n == 1) (shr_and_one c.args.word c.args.k)
