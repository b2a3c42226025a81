-- The cell has the kind of the bool.
use Rattle.std.proofs.Common.{◌<◌, length, arith}
use Rattle.bril_heap.specs.Stored.{cells_held}
use Rattle.bril_heap.proofs.Stored.{inside-held, truth-set, truth-set_fits}
use Rattle.bril_heap.proofs.stored_block.StoredBlock.set_truth.Goals as goal

pub index_mut-requires : goal.index_mut-requires
index_mut-requires c =
    let kinds = c.self.inside.kinds.items in
    let words = c.self.inside.words.items in
    let inside : c.args.cell < length (cells_held kinds words) = rw (← c.self.view_is) at c.requires in
    let places = inside-held kinds words c.args.cell c.self.invariant inside in
    omega (arith, places.0)

pub invariant_of-self : goal.invariant_of-self
invariant_of-self c = rw c.truth_kind.ensures (truth-set_fits c.self.inside.kinds.items c.self.inside.words.items c.args.cell c.args.truth c.self.invariant)

pub returns : goal.returns
returns c =
    let set = truth-set c.self.inside.kinds.items c.self.inside.words.items c.args.cell c.args.truth in
    rw (← c.self.view_is) (rw c.truth_kind.ensures (λ i. record { is_live = c.self.inside.is_live; cells = set i }))
