use Rattle.std.proofs.Common.{◌≡◌, ◌++◌, map, drop}
use Rattle.rv64_words.specs.Encoding.{encoded}
use Rattle.rv64_emit.specs.SlotMoves.{all_moves, moves_of_slots, words_by}
use Rattle.rv64_emit.proofs.saves.SlotMoves.put.Given as goal

abbrev pub invariant-loop-k : goal.invariant-loop-k
invariant-loop-k l = l.code ++ map encoded (words_by l.transfer (moves_of_slots l.self l.k (drop l.k l.self.slots.now))) ≡ l.initial.code ++ map encoded (words_by l.transfer (all_moves l.self))
