-- The value is in the cell of a live block.
use Rattle.std.proofs.lemmas.Int.{to_z-of_z}
use Rattle.bril_heap.specs.Stored.{IsCellAt}
use Rattle.bril_heap.proofs.Blocks.{store-set}
use Rattle.bril_heap.proofs.cells.Cells.store.Goals as goal

pub returns-in-Some-clause-stored : goal.returns-in-Some-clause-stored
returns-in-Some-clause-stored c =
    let items = c.self.inside.blocks.items in
    let fits = c.ranges.offset in
    let at : IsCellAt items c.args.block c.args.offset c.in-Some.place c.in-Some.cell = simp (c.deref.ensures.value, to_z-of_z) at c.in-Some.ensures in
    rw (← c.self.view_is) (rw c.put.ensures (store-set items c.args.block c.args.offset c.in-Some.place c.in-Some.cell c.index_mut.result.now c.args.value at c.index_mut.ensures.value))
