-- There are as many cells as kinds.
use Rattle.std.proofs.Common.{arith}
use Rattle.bril_heap.proofs.Stored.{length-held}
use Rattle.bril_heap.proofs.stored_block.StoredBlock.size.Goals as goal

pub returns : goal.returns
returns c = rw (← c.self.view_is) (omega (arith, c.len.ensures, (length-held c.self.inside.kinds.items c.self.inside.words.items c.self.invariant).0))
