use Rattle.std.proofs.Common.{◌≡◌, ◌+◌, ◌≤◌, drop}
use Rattle.rv64_emit_laws.specs.layout.Reach.{items_count}
use Rattle.rv64_emit.proofs.sizes.are_few.Given as goal

abbrev pub invariant-loop-item : goal.invariant-loop-item
invariant-loop-item l = (988 + items_count l.slots (drop l.item-index l.items) ≡ l.left + items_count l.slots l.items) × (l.left ≤ 988)
