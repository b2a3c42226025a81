use Rattle.std.proofs.Common.{◌*◌, ◌%◌, ◌^◌}
use Rattle.std.proofs.lemmas.Nat.{one_shl}
use Rattle.graph_search.proofs.WordBits.{one-only}
use Rattle.graph_search.proofs.bits.one_bit.Goals as goal

pub returns : goal.returns
returns c = λ j. one-only (1 * 2 ^ c.args.k % 2 ^ 64) j c.args.k (one_shl c.args.k 64 c.requires)
