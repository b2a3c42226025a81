-- The blocks of memory: Bril's memory extension.
use Rattle.std.specs.Prelude.{ℕ, zero, suc, ◌+◌, Bool, true, false, not, ◌==◌, nat_lt, List, [], ◌∷◌, length, Option, Some, None, slice_get, if◌then◌else◌, ℤ, pos, negsuc}
use Rattle.std.specs.List.{list_any, sum_by}
use Rattle.bril_tree.specs.declared.limits.Fault.{Fault}
use Rattle.bril_tree.specs.declared.limits.Fault.TheVariants as fault
use Rattle.bril_tree.specs.declared.value.Value.{Value}
use Rattle.bril_tree.specs.Outcome.{block_of, offset_of}
use Rattle.bril_tree.specs.State.{no_values, Block}

-- some block is live
abbrev pub is_live_any : List Block → Bool
is_live_any blocks = list_any (λ b. b.is_live) blocks

-- the live block of a number, which counts from 1
abbrev pub if_live : Option Block → Option Block
if_live None = None
if_live (Some b) = if b.is_live then Some b else None

abbrev pub live_block : List Block → ℕ → Option Block
live_block blocks zero = None
live_block blocks (suc k) = if_live (slice_get blocks k)

-- the cell of a live block at an offset inside it
abbrev pub cell_inside : Option Block → ℤ → Option ℕ
cell_inside None offset = None
cell_inside (Some b) (pos n) = if nat_lt n b.size then Some n else None
cell_inside (Some b) (negsuc n) = None

abbrev pub cell_at : List Block → Value → Option ℕ
cell_at blocks pointer = cell_inside (live_block blocks (block_of pointer)) (offset_of pointer)

-- what a cell of a block holds, where it was stored
abbrev pub cell_of : Option Block → ℕ → Option Value
cell_of None n = None
cell_of (Some b) n = b.cells n

abbrev pub held : List Block → Value → ℕ → Option Value
held blocks pointer n = cell_of (live_block blocks (block_of pointer)) n

abbrev pub changed : List Block → ℕ → (Block → Block) → List Block
changed [] k change = []
changed (b ∷ blocks) zero change = change b ∷ blocks
changed (b ∷ blocks) (suc k) change = b ∷ changed blocks k change

-- the blocks with the block of a number changed
abbrev pub changed_block : List Block → ℕ → (Block → Block) → List Block
changed_block blocks zero change = blocks
changed_block blocks (suc k) change = changed blocks k change

-- the cells of all live blocks
abbrev pub cells_live : List Block → ℕ
cells_live blocks = sum_by (λ b. if b.is_live then b.size else 0) blocks

-- the most blocks that are ever allocated
abbrev pub most_blocks : ℕ
most_blocks = 262144

-- why a block of so many cells can't be had, in this order, where at most so many cells are live
abbrev pub allocation_fault : ℕ → List Block → ℤ → Option Fault
allocation_fault most blocks (negsuc n) = Some fault.BadAlloc
allocation_fault most blocks (pos zero) = Some fault.BadAlloc
allocation_fault most blocks (pos (suc n)) =
    if not (nat_lt (length blocks) most_blocks) then Some fault.Allocs
    else (if nat_lt most (cells_live blocks + suc n) then Some fault.Cells else None)

-- the count as a number of cells
abbrev pub cells_of : ℤ → ℕ
cells_of (pos n) = n
cells_of (negsuc n) = 0

abbrev pub new_block : ℕ → Block
new_block size = record { size = size; is_live = true; cells = no_values }

-- what is left of a block that was freed
abbrev pub ended_block : Block
ended_block = record { size = 0; is_live = false; cells = no_values }

-- offset 0 of a live block
abbrev pub is_freeable : Option Block → ℤ → Bool
is_freeable None offset = false
is_freeable (Some b) (pos n) = n == 0
is_freeable (Some b) (negsuc n) = false
