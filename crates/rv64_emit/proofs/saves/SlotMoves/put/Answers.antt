use Rattle.rv64_emit.specs.Moved.{is_moved}
use Rattle.rv64_emit.specs.Placed.{homes_in}
use Rattle.rv64_emit.specs.SlotMoves.{moves_of_slots, words_by}
use Rattle.rv64_emit.proofs.Moving.{words_more, words_next}
use Rattle.rv64_emit.proofs.saves.SlotMoves.put.Goals as goal

pub loop-k-preserved : goal.loop-k-preserved
loop-k-preserved c =
    let m = c.args.self.now in
    let homes = homes_in m.homes in
    words_next (λ i slots. words_by c.args.transfer (moves_of_slots m i slots)) (words_more c.args.transfer homes m.first (is_moved homes m.func.now m.moved)) m.slots.now c.loop-k.k _ c.loop-k.code c.put_one.new.code _ c.loop-k-test.true (c.in_ok-put_one.ensures {u = tt}) c.loop-k.invariant
