use Rattle.std.proofs.Common.{refl}
use Rattle.std.proofs.lemmas.Int.{to_z-of_z}
use Rattle.bril_heap.specs.Heap.{blocks_of}
use Rattle.bril_interpreter.proofs.Steps.{Did-from, stores-fault}
use Rattle.bril_interpreter.proofs.interp.Interp.store.Goals as goal

pub returns-in-Err : goal.returns-in-Err
returns-in-Err c =
    let fits = c.offset_of.ensures.fits in
    let told = simp to_z-of_z at c.in-Err.ensures.stored in
    let stored = rw (c.block_of.ensures, c.offset_of.ensures.value) at told in
    rw (← c.self.view_is)
    (Did-from _ _ c.fault.new.self _ _ c.fault.ensures
    (stores-fault c.self.inside.checked.now.prog c.self.inside.limits _ _ _ _ c.in-Err.kind c.args.pointer c.args.value (blocks_of c.store.new.self) stored)
    refl refl refl)
