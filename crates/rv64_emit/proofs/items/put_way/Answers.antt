use Rattle.std.proofs.Common.{sym, ◌∙◌, arith}
use Rattle.rv64_emit.proofs.items.put_way.Goals as goal

pub near_bytes-requires-clause-down : goal.near_bytes-requires-clause-down
near_bytes-requires-clause-down c = let apart = c.requires.near (sym c.is_in_reach.ensures ∙ c.if-is_in_reach.true) in omega (arith, apart.1, c.place-word.ensures.value)

pub near_bytes-requires-clause-up : goal.near_bytes-requires-clause-up
near_bytes-requires-clause-up c = let apart = c.requires.near (sym c.is_in_reach.ensures ∙ c.if-is_in_reach.true) in omega (arith, apart.0, c.place-word.ensures.value)
