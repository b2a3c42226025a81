-- When a block can't be had, and the blocks with a new one after them.
use Rattle.std.proofs.Common.{rules, ◌≡◌, ℕ, ◌+◌, ◌<◌, ◌≤◌, length, ℤ, pos, negsuc, nat_abs, int_lt, false, None, Ok, Err, Result, refl, sym, subst, arith}
use Rattle.std.specs.Result.{IfErr, IsErrAnd}
use Rattle.std.proofs.lemmas.Bool.{lt-ltb, le-ltb}
use Rattle.std.proofs.lemmas.Int.{to_z-of_z}
use Rattle.std.proofs.lemmas.List.{map-append}
use Rattle.bril_tree.specs.Memory.{cells_of, most_blocks}
use Rattle.bril_heap.specs.declared.fault.HeapFault.{HeapFault}
use Rattle.bril_heap.specs.declared.fault.HeapFault.TheVariants.{Memory}
use Rattle.bril_heap.specs.Heap.{IsRefusal}
use Rattle.bril_heap.proofs.Entries.{new_block-seen}
use Rattle.bril_heap.proofs.Live.{fault-seen}
use Rattle.bril_heap.proofs.cells.Cells.take.Goals as goal

size_is : (count : ℤ) → int_lt count (pos 1) ≡ false → nat_abs count ≡ cells_of count
size_is (pos n) some = refl
size_is (negsuc n) some = cc

-- memory may be wanting where there is no fault
memory-wanting : (answer : Result ℕ HeapFault) → IsErrAnd answer (λ why. why ≡ Memory) → IfErr answer (λ why. IsRefusal why None)
memory-wanting (Ok n) is = tt
memory-wanting (Err why) is = subst (λ w. IsRefusal w None) (sym is) refl

pub returns-then-count-self-clause-refused : goal.returns-then-count-self-clause-refused
returns-then-count-self-clause-refused c =
    let inside = c.self.inside in
    let fits = c.ranges.count in
    let some : int_lt c.args.count (pos 1) ≡ false = simp to_z-of_z at c.if-count-lt1.false in
    let few : length inside.blocks.items < most_blocks = omega (arith, c.if-len-ge-MOST_BLOCKS.false, c.len.ensures) in
    let more : inside.limit < inside.in_use + nat_abs c.args.count = search rules in
    rw (← c.self.view_is) (rw (fault-seen inside.limit inside.in_use inside.live inside.blocks.items c.args.count c.self.invariant some few, lt-ltb inside.limit (inside.in_use + nat_abs c.args.count) more) refl)

pub returns-in_err-push_empty-clause-refused : goal.returns-in_err-push_empty-clause-refused
returns-in_err-push_empty-clause-refused c =
    let inside = c.self.inside in
    let fits = c.ranges.count in
    let some : int_lt c.args.count (pos 1) ≡ false = simp to_z-of_z at c.if-count-lt1.false in
    let few : length inside.blocks.items < most_blocks = omega (arith, c.if-len-ge-MOST_BLOCKS.false, c.len.ensures) in
    let room : inside.in_use + nat_abs c.args.count ≤ inside.limit = search rules in
    rw (← c.self.view_is) (rw (fault-seen inside.limit inside.in_use inside.live inside.blocks.items c.args.count c.self.invariant some few, le-ltb inside.limit (inside.in_use + nat_abs c.args.count) room) (memory-wanting c.from_residual.result c.from_residual.ensures.1))

pub returns-clause-allowed : goal.returns-clause-allowed
returns-clause-allowed c =
    let inside = c.self.inside in
    let fits = c.ranges.count in
    let some : int_lt c.args.count (pos 1) ≡ false = simp to_z-of_z at c.if-count-lt1.false in
    let few : length inside.blocks.items < most_blocks = omega (arith, c.if-len-ge-MOST_BLOCKS.false, c.len.ensures) in
    let room : inside.in_use + nat_abs c.args.count ≤ inside.limit = search rules in
    rw (← c.self.view_is) (rw (fault-seen inside.limit inside.in_use inside.live inside.blocks.items c.args.count c.self.invariant some few, le-ltb inside.limit (inside.in_use + nat_abs c.args.count) room) refl)

pub returns-clause-blocks : goal.returns-clause-blocks
returns-clause-blocks c =
    let fits = c.ranges.count in
    let some : int_lt c.args.count (pos 1) ≡ false = simp to_z-of_z at c.if-count-lt1.false in
    rw (← c.self.view_is, c.in_ok-push_empty.ensures.ok) (rw (map-append, new_block-seen) (simp (to_z-of_z, size_is c.args.count some)))
