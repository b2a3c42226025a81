use Rattle.std.proofs.Common.{◌-◌, ◌^◌}
use Rattle.std.proofs.lemmas.Nat.Bits.{bit_at_ones}
use Rattle.graph_search.proofs.WordBits.{one-has}
use Rattle.graph_search.proofs.bits.all_bits.Goals as goal

pub returns : goal.returns
returns c = λ j low. one-has (2 ^ 64 - 1) j (bit_at_ones 64 j low)
