use Rattle.std.proofs.Common.{length, ap, arith}
use Rattle.rv64_emit.proofs.items.put_branch.Goals as goal

pub put_ways-requires-clause-near_then : goal.put_ways-requires-clause-near_then
put_ways-requires-clause-near_then c = λ told. (
    let apart = c.requires.near_then told in
    let all = ap length c.as_slice.ensures in
    (omega (arith, apart.0, all, c.source_size_of.ensures.few), omega (arith, apart.1, all, c.source_size_of.ensures.few)))

pub put_ways-requires-clause-near_else : goal.put_ways-requires-clause-near_else
put_ways-requires-clause-near_else c = λ told. (
    let apart = c.requires.near_else told in
    let all = ap length c.as_slice.ensures in
    (omega (arith, apart.0, all, c.source_size_of.ensures.few), omega (arith, apart.1, all, c.source_size_of.ensures.few)))
