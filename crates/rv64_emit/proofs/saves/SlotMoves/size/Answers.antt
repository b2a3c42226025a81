use Rattle.std.proofs.Common.{arith}
use Rattle.rv64_emit.specs.Moved.{is_moved}
use Rattle.rv64_emit.specs.Placed.{homes_in}
use Rattle.rv64_emit.specs.SlotMoves.{moves_of_slots, size_by}
use Rattle.rv64_emit.proofs.Moving.{size_more, sizes_next}
use Rattle.rv64_emit.proofs.saves.SlotMoves.size.Goals as goal

-- the sum with one slot more
pub loop-k-preserved : goal.loop-k-preserved
loop-k-preserved c =
    let m = c.args.self.now in
    let homes = homes_in m.homes in
    sizes_next (λ i slots. size_by c.args.transfer (moves_of_slots m i slots)) (size_more c.args.transfer homes m.first (is_moved homes m.func.now m.moved)) m.slots.now c.loop-k.k _ c.one_size-size.result c.loop-k.size _ c.loop-k-test.true c.one_size-size.ensures.value c.loop-k.invariant

pub overflow_add-size : goal.overflow_add-size
overflow_add-size c = omega (arith, c.loop-k.invariant, c.requires.few, c.one_size-size.ensures.few)
