-- Blocks as they are kept, and the blocks of the semantics.
use Rattle.std.proofs.Common.{◌≡◌, ℕ, zero, suc, ◌+◌, ◌<◌, ◌≤◌, true, false, cond, List, [], ◌∷◌, map, length, set, get_or, Option, Some, None, slice_get, Ok, refl, sym, ap, arith, ℤ, pos}
use Rattle.std.specs.List.{count_by, sum_by}
use Rattle.std.proofs.lemmas.Bool.{lt-ltb}
use Rattle.std.proofs.lemmas.List.{length-set}
use Rattle.std.proofs.lemmas.List.Sums.{sum_by-set, get_or-le-sum_by}
use Rattle.std.proofs.lemmas.Option.{slice_get-map, slice_get_read, get_or_from_slice_get, same_Some}
use Rattle.bril_tree.specs.declared.value.Value.{Value}
use Rattle.bril_tree.specs.declared.value.Value.TheVariants.{Ptr}
use Rattle.bril_tree.specs.Memory.{live_block, cell_at, changed, changed_block}
use Rattle.bril_tree.specs.State.{with_value, Block}
use Rattle.bril_heap.specs.Heap.{BlockView, IsHeap, block_seen, entries_of, Stores}
use Rattle.bril_heap.specs.Stored.{seen, IsLiveAt, IsCellAt}
use Rattle.bril_heap.proofs.Entries.{entries-set}

-- the block at a place
block_read : (blocks : List BlockView) (place : ℕ) (b : BlockView) → place < length blocks → b ≡ get_or blocks place b → slice_get blocks place ≡ Some b
block_read blocks place b within read = slice_get_read blocks (length blocks) place b refl within read

live_read : (blocks : List BlockView) (block place : ℕ) (b : BlockView) → IsLiveAt blocks block place → b ≡ get_or blocks place b → slice_get blocks place ≡ Some b
live_read blocks block place b live read = block_read blocks place b live.within read

-- the live block of a number
pub live_block-read : (blocks : List BlockView) (block place : ℕ) (b : BlockView) → IsLiveAt blocks block place → b ≡ get_or blocks place b → live_block (seen blocks) block ≡ Some (block_seen b)
live_block-read blocks block place b live read =
    let number : block ≡ suc place = live.number in
    let stands : slice_get blocks place ≡ Some b = live_read blocks block place b live read in
    let is_live : b.is_live ≡ true = live.live b stands in
    rw number (rw (slice_get-map block_seen blocks place, stands, is_live) refl)

-- a block that was ended isn't live
pub live_block-ended : (blocks : List BlockView) (block place : ℕ) (b : BlockView) → block ≡ suc place → place < length blocks → b ≡ get_or blocks place b → b.is_live ≡ false → live_block (seen blocks) block ≡ None
live_block-ended blocks block place b number within read ended =
    rw number (rw (slice_get-map block_seen blocks place, block_read blocks place b within read, ended) refl)

-- a change of one block
changed-set : (bs : List BlockView) (place : ℕ) (b after : BlockView) (change : Block → Block) → slice_get bs place ≡ Some b → change (block_seen b) ≡ block_seen after → changed (map block_seen bs) place change ≡ map block_seen (set bs place after)
changed-set [] place b after change stands is = refl
changed-set (x ∷ bs) zero b after change stands is =
    let first : x ≡ b = same_Some x b stands in
    ap (λ (y : Block). y ∷ map block_seen bs) (rw first is)
changed-set (x ∷ bs) (suc place) b after change stands is = ap (λ (rest : List Block). block_seen x ∷ rest) (changed-set bs place b after change stands is)

pub set-seen : (blocks : List BlockView) (block place : ℕ) (b after : BlockView) (change : Block → Block) → IsLiveAt blocks block place → b ≡ get_or blocks place b → change (block_seen b) ≡ block_seen after → seen (set blocks place after) ≡ changed_block (seen blocks) block change
set-seen blocks block place b after change live read is =
    let number : block ≡ suc place = live.number in
    rw number (sym (changed-set blocks place b after change (live_read blocks block place b live read) is))

-- the cells of a block, where it is live
abbrev pub cells_used : BlockView → ℕ
cells_used b = cond b.is_live (length b.cells) 0

-- what is kept after a change of one block
pub heap-set : (limit used live used_now now : ℕ) (bs : List BlockView) (block place : ℕ) (b after : BlockView) → IsHeap limit used live bs → IsLiveAt bs block place → b ≡ get_or bs place b →
    used_now ≤ limit → used_now + cells_used b ≡ used + cells_used after → now + cond b.is_live 1 0 ≡ live + cond after.is_live 1 0 → IsHeap limit used_now now (set bs place after)
heap-set limit used live used_now now bs block place b after heap at read within cells counts =
    let stands : get_or bs place b ≡ b = get_or_from_slice_get bs place b b (live_read bs block place b at read) in
    let sizes : sum_by cells_used (set bs place after) + cells_used b ≡ sum_by cells_used bs + cells_used after = rw stands at (sum_by-set cells_used bs place after b at.within) in
    let lives : count_by (λ v. v.is_live) (set bs place after) + cond b.is_live 1 0 ≡ count_by (λ v. v.is_live) bs + cond after.is_live 1 0 = rw stands at (sum_by-set (λ (v : BlockView). cond v.is_live 1 0) bs place after b at.within) in
    record {
      counted = omega (arith, heap.counted);
      within = within;
      alive = omega (arith, heap.alive);
      few = omega (arith, heap.few, length-set bs place after);
    }

-- a live block counts, and so do its cells
pub live-counts : (limit used live : ℕ) (bs : List BlockView) (block place : ℕ) (b : BlockView) → IsHeap limit used live bs → IsLiveAt bs block place → b ≡ get_or bs place b → (b.is_live ≡ true) × (0 < live) × (length b.cells ≤ used)
live-counts limit used live bs block place b heap at read =
    let there : slice_get bs place ≡ Some b = live_read bs block place b at read in
    let is_live : b.is_live ≡ true = at.live b there in
    let stands : get_or bs place b ≡ b = get_or_from_slice_get bs place b b there in
    let counted : 1 ≤ count_by (λ v. v.is_live) bs = rw (stands, is_live) at (get_or-le-sum_by (λ (v : BlockView). cond v.is_live 1 0) bs place b at.within) in
    let used : length b.cells ≤ sum_by cells_used bs = rw (stands, is_live) at (get_or-le-sum_by cells_used bs place b at.within) in
    (is_live, omega (arith, heap.alive), omega (arith, heap.counted))

-- a cell of a live block
pub cell_at-read : (blocks : List BlockView) (block : ℕ) (offset : ℤ) (place cell : ℕ) (b : BlockView) → IsCellAt blocks block offset place cell → b ≡ get_or blocks place b → (cell < length b.cells) × (cell_at (seen blocks) (Ptr block offset) ≡ Some cell)
cell_at-read blocks block offset place cell b at read =
    let offset_is : offset ≡ pos cell = at.cell_is in
    let inside : cell < length b.cells = at.inside b (live_read blocks block place b at.found read) in
    (inside, rw offset_is (rw (live_block-read blocks block place b at.found read, lt-ltb cell (length b.cells) inside) refl))

-- what a store answers and leaves
pub store-set : (blocks : List BlockView) (block : ℕ) (offset : ℤ) (place cell : ℕ) (b : BlockView) (v : Value) → IsCellAt blocks block offset place cell → b ≡ get_or blocks place b → Stores (Ok tt) (seen blocks) (Ptr block offset) (cell_at (seen blocks) (Ptr block offset)) v (seen (set blocks place (record b { cells = set b.cells cell (Some v) })))
store-set blocks block offset place cell b v at read =
    let cell_is = cell_at-read blocks block offset place cell b at read in
    let items : List (Option Value) = b.cells in
    let after : BlockView = record b { cells = set items cell (Some v) } in
    let stored : record { size = length items; is_live = b.is_live; cells = with_value (entries_of items) cell v } ≡ block_seen after =
    λ i. record { size = sym (length-set items cell (Some v)) i; is_live = b.is_live; cells = sym (entries-set items cell v cell_is.0) i } in
    rw (cell_is.1) (refl, set-seen blocks block place b after (λ (x : Block). record x { cells = with_value x.cells cell v }) at.found read stored)
