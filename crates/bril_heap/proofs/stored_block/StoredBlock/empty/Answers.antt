-- Cells that hold nothing.
use Rattle.std.proofs.Common.{◌≡◌, true, replicate, None}
use Rattle.bril_heap.specs.Stored.{cells_held}
use Rattle.bril_heap.proofs.Stored.{held-empty, fit-empty}
use Rattle.bril_heap.proofs.stored_block.StoredBlock.empty.Goals as goal

pub invariant_of-result : goal.invariant_of-result
invariant_of-result c =
    let kinds = c.in_ok-kinds.ensures.items_if_clones_equal (λ y e. e) in
    let words = c.in_ok-words.ensures.items_if_clones_equal (λ y e. e) in
    rw (kinds, words) (fit-empty c.args.size)

pub returns : goal.returns
returns c =
    let kinds = c.in_ok-kinds.ensures.items_if_clones_equal (λ y e. e) in
    let words = c.in_ok-words.ensures.items_if_clones_equal (λ y e. e) in
    let cells : cells_held c.in_ok-kinds.kinds.items c.in_ok-words.words.items ≡ replicate c.args.size None = rw (kinds, words) (held-empty c.args.size) in
    λ i. record { is_live = true; cells = cells i }
