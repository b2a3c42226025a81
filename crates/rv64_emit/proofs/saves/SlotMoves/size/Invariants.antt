use Rattle.std.proofs.Common.{◌≡◌, ◌+◌, drop}
use Rattle.rv64_emit.specs.SlotMoves.{all_moves, moves_of_slots, size_by}
use Rattle.rv64_emit.proofs.saves.SlotMoves.size.Given as goal

abbrev pub invariant-loop-k : goal.invariant-loop-k
invariant-loop-k l = l.size + size_by l.transfer (moves_of_slots l.self l.k (drop l.k l.self.slots.now)) ≡ size_by l.transfer (all_moves l.self)
