-- The cell has the kind and the word.
use Rattle.std.proofs.Common.{◌<◌, length, arith}
use Rattle.bril_heap.specs.Stored.{cells_held}
use Rattle.bril_heap.proofs.Stored.{inside-held, held-set, fit-set}
use Rattle.bril_heap.proofs.stored_block.StoredBlock.set_word.Goals as goal

pub index_mut-requires : goal.index_mut-requires
index_mut-requires c =
    let kinds = c.self.inside.kinds.items in
    let words = c.self.inside.words.items in
    let inside : c.args.cell < length (cells_held kinds words) = rw (← c.self.view_is) at c.requires.inside in
    let places = inside-held kinds words c.args.cell c.self.invariant inside in
    omega (arith, places.0)

pub index_mut-requires-2 : goal.index_mut-requires-2
index_mut-requires-2 c =
    let kinds = c.self.inside.kinds.items in
    let words = c.self.inside.words.items in
    let inside : c.args.cell < length (cells_held kinds words) = rw (← c.self.view_is) at c.requires.inside in
    let places = inside-held kinds words c.args.cell c.self.invariant inside in
    omega (arith, places.1)

pub invariant_of-self : goal.invariant_of-self
invariant_of-self c = fit-set c.self.inside.kinds.items c.self.inside.words.items c.args.cell c.args.kind c.args.word c.self.invariant c.requires.fits

pub returns : goal.returns
returns c =
    let set = held-set c.self.inside.kinds.items c.self.inside.words.items c.args.cell c.args.kind c.args.word in
    rw (← c.self.view_is) (λ i. record { is_live = c.self.inside.is_live; cells = set i })
