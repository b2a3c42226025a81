-- What the memory operations leave of the blocks that the machine holds, and what they find there.
use Rattle.std.specs.Prelude.{◌≡◌, ℕ, ◌+◌, ◌*◌, ◌<◌, ◌≤◌, true, false, List, [], ◌∷◌, ◌++◌, length, ℤ, pos, Some, None, FitsSigned}
use Rattle.std.specs.Int.{w32, w64, cast_unsigned}
use Rattle.bril_tree.specs.declared.value.Value.{Value}
use Rattle.bril_tree.specs.declared.value.Value.TheVariants.{Ptr}
use Rattle.bril_tree.specs.Memory.{live_block, cell_at, held, changed_block, allocation_fault, cells_of, new_block, ended_block, is_freeable}
use Rattle.bril_tree.specs.State.{Block, with_value}
use Rattle.bril_tree.specs.Value.{word_of}
use Rattle.rv64_words.specs.Environment as rv64
use Rattle.rv64_words.specs.Region.{Sizes, cells_base}
use Rattle.rv64_words_laws.specs.stretches.Core.{Core, machine, put_cell, with_block, without_block}
use Rattle.rv64_words_laws.specs.blocks.Memory.{HasWord, MemoryHolds}

-- the machine's core holds the blocks
abbrev pub CoreHolds : Sizes → List Block → Core → Type 0
CoreHolds z blocks c = MemoryHolds z blocks c.table c.cells c.blocks c.next_free

-- a new block, under the machine's limit of cells
abbrev pub AllocationsAreAlike : Type 0
AllocationsAreAlike = (z : Sizes) (limit : ℕ) (blocks : List Block) (c : Core) (n : ℤ) → z.cells ≡ 2 * limit → CoreHolds z blocks c → FitsSigned w64 n →
    (rv64.allocation_fault z (machine 0 c 0) (cast_unsigned w64 n) ≡ allocation_fault limit blocks n)
    × (allocation_fault limit blocks n ≡ None → CoreHolds z (blocks ++ new_block (cells_of n) ∷ []) (with_block z (cast_unsigned w64 n) c))

-- the free of a block by a pointer to one of those that were made
abbrev pub FreesAreAlike : Type 0
FreesAreAlike = (z : Sizes) (blocks : List Block) (c : Core) (block : ℕ) (offset : ℤ) → CoreHolds z blocks c → block ≤ length blocks → FitsSigned w32 offset →
    (rv64.is_freeable (machine 0 c 0) (word_of (Ptr block offset)) ≡ is_freeable (live_block blocks block) offset)
    × (is_freeable (live_block blocks block) offset ≡ true → CoreHolds z (changed_block blocks block (λ b. ended_block)) (without_block block c))

-- The machine finds cell `at` of its memory for cell n of a block: by the block's entry in the table.
pub record FindsCell (z : Sizes) (c : Core) (block n at : ℕ) : Type 0 where
  pub inside : n < c.table (2 * block + 1)
  pub address : c.table (2 * block) + 16 * n ≡ cells_base + 16 * at
  pub within : 2 * at + 1 < z.cells

-- a load by a pointer to one of the blocks that were made finds what the cell holds, or that it was never stored
abbrev pub LoadsAreAlike : Type 0
LoadsAreAlike = (z : Sizes) (blocks : List Block) (c : Core) (block n : ℕ) (offset : ℤ) → CoreHolds z blocks c → block ≤ length blocks → cell_at blocks (Ptr block offset) ≡ Some n →
    (at : ℕ) × (offset ≡ pos n) × FindsCell z c block n at
    × ((v : Value) → held blocks (Ptr block offset) n ≡ Some v → (c.cells (2 * at) ≡ 1) × HasWord (length blocks) v (c.cells (2 * at + 1)))
    × (held blocks (Ptr block offset) n ≡ None → c.cells (2 * at) ≡ 0)

-- and a store to it leaves the blocks with that cell stored
abbrev pub StoresAreAlike : Type 0
StoresAreAlike = (z : Sizes) (blocks : List Block) (c : Core) (block n w : ℕ) (offset : ℤ) (v : Value) → CoreHolds z blocks c → block ≤ length blocks → cell_at blocks (Ptr block offset) ≡ Some n → HasWord (length blocks) v w →
    (at : ℕ) × FindsCell z c block n at × CoreHolds z (changed_block blocks block (λ b. record b { cells = with_value b.cells n v })) (put_cell (put_cell c (2 * at) 1) (2 * at + 1) w)

-- where the pointer has no cell its offset isn't inside the size in the table
abbrev pub AccessesAreAlike : Type 0
AccessesAreAlike = (z : Sizes) (blocks : List Block) (c : Core) (block : ℕ) (offset : ℤ) → CoreHolds z blocks c → block ≤ length blocks → cell_at blocks (Ptr block offset) ≡ None →
    (n : ℕ) → offset ≡ pos n → c.table (2 * block + 1) ≤ n
