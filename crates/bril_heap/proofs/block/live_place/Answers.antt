-- The block of the number was ended.
use Rattle.std.proofs.Common.{◌≡◌, ◌-◌, false, arith}
use Rattle.bril_heap.proofs.Blocks.{live_block-ended}
use Rattle.bril_heap.proofs.block.live_place.Goals as goal

pub returns-else-is_live : goal.returns-else-is_live
returns-else-is_live c =
    let ended : c.index-blocks-place.result.is_live ≡ false = cc in
    live_block-ended c.args.blocks.now c.args.block (c.args.block - 1) c.index-blocks-place.result (omega arith) c.if-place-blocks.false c.index-blocks-place.is ended
