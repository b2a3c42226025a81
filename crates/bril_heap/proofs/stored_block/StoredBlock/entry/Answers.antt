-- What the cell's kind and word say.
use Rattle.std.proofs.Common.{ℕ, ℤ, ◌<◌, None, Some, true, false, length, refl, ◌∙◌, ap, arith}
use Rattle.std.proofs.lemmas.Int.{to_z-of_z}
use Rattle.std.specs.Int.{w64}
use Rattle.bril_tree.specs.declared.value.Value.TheVariants as value
use Rattle.bril_heap.specs.declared.stored_cell.Kind.TheVariants as kind
use Rattle.bril_heap.specs.Stored.{cells_held}
use Rattle.bril_heap.proofs.Stored.{inside-held, kind-held, word-held, fit-read}
use Rattle.bril_heap.proofs.stored_block.StoredBlock.entry.Goals as goal

pub index-requires : goal.index-requires
index-requires c =
    let kinds = c.self.inside.kinds.items in
    let words = c.self.inside.words.items in
    let inside : c.args.cell < length (cells_held kinds words) = rw (← c.self.view_is) at c.requires in
    let places = inside-held kinds words c.args.cell c.self.invariant inside in
    omega (arith, places.0)

pub index-requires-in-Int : goal.index-requires-in-Int
index-requires-in-Int c =
    let kinds = c.self.inside.kinds.items in
    let words = c.self.inside.words.items in
    let inside : c.args.cell < length (cells_held kinds words) = rw (← c.self.view_is) at c.requires in
    let places = inside-held kinds words c.args.cell c.self.invariant inside in
    omega (arith, places.1)

pub index-requires-in-Char : goal.index-requires-in-Char
index-requires-in-Char c =
    let kinds = c.self.inside.kinds.items in
    let words = c.self.inside.words.items in
    let inside : c.args.cell < length (cells_held kinds words) = rw (← c.self.view_is) at c.requires in
    let places = inside-held kinds words c.args.cell c.self.invariant inside in
    omega (arith, places.1)

pub index-requires-in-Ptr : goal.index-requires-in-Ptr
index-requires-in-Ptr c =
    let kinds = c.self.inside.kinds.items in
    let words = c.self.inside.words.items in
    let inside : c.args.cell < length (cells_held kinds words) = rw (← c.self.view_is) at c.requires in
    let places = inside-held kinds words c.args.cell c.self.invariant inside in
    omega (arith, places.1)

pub letter_of-requires : goal.letter_of-requires
letter_of-requires c =
    let kinds = c.self.inside.kinds.items in
    let words = c.self.inside.words.items in
    let inside : c.args.cell < length (cells_held kinds words) = rw (← c.self.view_is) at c.requires in
    fit-read kinds words c.args.cell c.index.result.now kind.Char c.index-in-Char.result.now c.self.invariant inside c.index.ensures c.in-Char.is c.index-in-Char.ensures

pub returns-in-Never : goal.returns-in-Never
returns-in-Never c =
    let kinds = c.self.inside.kinds.items in
    let words = c.self.inside.words.items in
    let inside : c.args.cell < length (cells_held kinds words) = rw (← c.self.view_is) at c.requires in
    rw (← c.self.view_is) (kind-held kinds words c.args.cell c.index.result.now kind.Never None c.self.invariant inside c.index.ensures c.in-Never.is (λ w. refl))

pub returns-in-False : goal.returns-in-False
returns-in-False c =
    let kinds = c.self.inside.kinds.items in
    let words = c.self.inside.words.items in
    let inside : c.args.cell < length (cells_held kinds words) = rw (← c.self.view_is) at c.requires in
    rw (← c.self.view_is) (kind-held kinds words c.args.cell c.index.result.now kind.False (Some (value.Bool false)) c.self.invariant inside c.index.ensures c.in-False.is (λ w. refl))

pub returns-in-True : goal.returns-in-True
returns-in-True c =
    let kinds = c.self.inside.kinds.items in
    let words = c.self.inside.words.items in
    let inside : c.args.cell < length (cells_held kinds words) = rw (← c.self.view_is) at c.requires in
    rw (← c.self.view_is) (kind-held kinds words c.args.cell c.index.result.now kind.True (Some (value.Bool true)) c.self.invariant inside c.index.ensures c.in-True.is (λ w. refl))

pub returns-in-Int : goal.returns-in-Int
returns-in-Int c =
    let kinds = c.self.inside.kinds.items in
    let words = c.self.inside.words.items in
    let inside : c.args.cell < length (cells_held kinds words) = rw (← c.self.view_is) at c.requires in
    rw (← c.self.view_is) (ap (λ (z : ℤ). Some (value.Int z)) (to_z-of_z w64 c.cast_signed.result (record { sfits = c.cast_signed.type_inv }) ∙ c.cast_signed.ensures) ∙ word-held kinds words c.args.cell c.index.result.now kind.Int c.index-in-Int.result.now c.self.invariant inside c.index.ensures c.in-Int.is c.index-in-Int.ensures)

pub returns-in-Char : goal.returns-in-Char
returns-in-Char c =
    let kinds = c.self.inside.kinds.items in
    let words = c.self.inside.words.items in
    let inside : c.args.cell < length (cells_held kinds words) = rw (← c.self.view_is) at c.requires in
    rw (← c.self.view_is) (ap (λ (n : ℕ). Some (value.Char n)) c.letter_of.ensures ∙ word-held kinds words c.args.cell c.index.result.now kind.Char c.index-in-Char.result.now c.self.invariant inside c.index.ensures c.in-Char.is c.index-in-Char.ensures)

pub returns-in-Ptr : goal.returns-in-Ptr
returns-in-Ptr c =
    let kinds = c.self.inside.kinds.items in
    let words = c.self.inside.words.items in
    let inside : c.args.cell < length (cells_held kinds words) = rw (← c.self.view_is) at c.requires in
    rw (← c.self.view_is) (c.pointer_of.ensures ∙ word-held kinds words c.args.cell c.index.result.now kind.Ptr c.index-in-Ptr.result.now c.self.invariant inside c.index.ensures c.in-Ptr.is c.index-in-Ptr.ensures)
