-- The block of the number is ended.
use Rattle.std.proofs.Common.{◌≡◌, ◌-◌, ◌<◌, ◌^◌, false, pos, refl, sym, ap, arith}
use Rattle.std.proofs.lemmas.Int.{ints}
use Rattle.bril_tree.specs.Memory.{ended_block}
use Rattle.bril_tree.specs.State.{Block}
use Rattle.bril_heap.specs.Heap.{BlockView, block_seen}
use Rattle.bril_heap.specs.Stored.{IsLiveAt}
use Rattle.bril_heap.proofs.Blocks.{live_block-read, live-counts, heap-set, set-seen}
use Rattle.bril_heap.proofs.cells.Cells.free.Goals as goal

pub overflow_cast-self : goal.overflow_cast-self
overflow_cast-self c =
    let inside = c.self.inside in
    let at : IsLiveAt inside.blocks.items c.args.block c.in-Some.place = rw c.deref.ensures.value at c.in-Some.ensures in
    let live = live-counts inside.limit inside.in_use inside.live inside.blocks.items c.args.block c.in-Some.place c.index.result.now c.self.invariant at c.index.ensures in
    let ranges = c.self.ranges in
    let below : c.size.result < 2 ^ 32 = omega (arith, c.size.ensures, live.2) in
    record { fits = below }

pub overflow_sub-self : goal.overflow_sub-self
overflow_sub-self c =
    let inside = c.self.inside in
    let at : IsLiveAt inside.blocks.items c.args.block c.in-Some.place = rw c.deref.ensures.value at c.in-Some.ensures in
    let live = live-counts inside.limit inside.in_use inside.live inside.blocks.items c.args.block c.in-Some.place c.index.result.now c.self.invariant at c.index.ensures in
    omega (arith, c.size.ensures, live.2)

pub overflow_sub-self-in-Some : goal.overflow_sub-self-in-Some
overflow_sub-self-in-Some c =
    let inside = c.self.inside in
    let at : IsLiveAt inside.blocks.items c.args.block c.in-Some.place = rw c.deref.ensures.value at c.in-Some.ensures in
    (live-counts inside.limit inside.in_use inside.live inside.blocks.items c.args.block c.in-Some.place c.index_mut.result.now c.self.invariant at c.index_mut.ensures.value).1

pub invariant_of-self : goal.invariant_of-self
invariant_of-self c =
    let inside = c.self.inside in
    let b = c.index.result.now in
    let at : IsLiveAt inside.blocks.items c.args.block c.in-Some.place = rw c.deref.ensures.value at c.in-Some.ensures in
    let live = live-counts inside.limit inside.in_use inside.live inside.blocks.items c.args.block c.in-Some.place b c.self.invariant at c.index.ensures in
    let ended : c.end.new.self.is_live ≡ false = ap (λ (x : BlockView). x.is_live) c.end.ensures in
    let within = c.self.invariant.within in
    heap-set inside.limit inside.in_use inside.live (inside.in_use - c.size.result) (inside.live - 1) inside.blocks.items c.args.block c.in-Some.place b c.end.new.self c.self.invariant at c.index.ensures (omega arith)
    (rw (live.0, ended) (omega (arith, live.2, c.size.ensures))) (rw (live.0, ended) (omega (arith, live.1)))

pub returns-in-Some-clause-answer : goal.returns-in-Some-clause-answer
returns-in-Some-clause-answer c =
    let blocks = c.self.inside.blocks.items in
    let at : IsLiveAt blocks c.args.block c.in-Some.place = rw c.deref.ensures.value at c.in-Some.ensures in
    let offset : c.args.offset ≡ pos 0 = omega (arith, ints) in
    rw (← c.self.view_is) (rw (live_block-read blocks c.args.block c.in-Some.place c.index_mut.result.now at c.index_mut.ensures.value) (rw offset refl))

pub returns-in-Some-clause-blocks : goal.returns-in-Some-clause-blocks
returns-in-Some-clause-blocks c =
    let blocks = c.self.inside.blocks.items in
    let b = c.index_mut.result.now in
    let at : IsLiveAt blocks c.args.block c.in-Some.place = rw c.deref.ensures.value at c.in-Some.ensures in
    rw (← c.self.view_is) (set-seen blocks c.args.block c.in-Some.place b c.end.new.self (λ (x : Block). ended_block) at c.index_mut.ensures.value (ap block_seen (sym c.end.ensures)))
