-- The blocks of a program in the machine's memory: the block table and the cells.
use Rattle.std.specs.Prelude.{◌≡◌, ◌≢◌, ℕ, suc, ◌+◌, ◌*◌, ◌<◌, ◌≤◌, ◌⊎◌, true, if◌then◌else◌, List, length, Some, None, slice_get}
use Rattle.bril_tree.specs.declared.value.Value.{Value}
use Rattle.bril_tree.specs.Memory.{most_blocks}
use Rattle.bril_tree.specs.Outcome.{block_of}
use Rattle.bril_tree.specs.State.{Block}
use Rattle.bril_tree.specs.Value.{word_of}
use Rattle.rv64_words.specs.Region.{Sizes, cells_base}

-- It is the word of the value, and a block to which that points is one of the first `made`.
pub record HasWord (made : ℕ) (v : Value) (w : ℕ) : Type 0 where
  pub is : w ≡ word_of v
  pub known : block_of v ≤ made

-- A block: the address of its first cell and its size, 0 where it isn't live, are in the block table; while it is live, its
-- cells are there, two words for each: whether it was stored, and what it holds.
pub record BlockHolds (made : ℕ) (number first : ℕ) (b : Block) (table cells : ℕ → ℕ) : Type 0 where
  pub address : table (2 * number) ≡ cells_base + 16 * first
  pub size : table (2 * number + 1) ≡ (if b.is_live then b.size else 0)
  pub stored : b.is_live ≡ true → (k : ℕ) (v : Value) → k < b.size → b.cells k ≡ Some v → (cells (2 * (first + k)) ≡ 1) × HasWord made v (cells (2 * (first + k) + 1))
  pub fresh : b.is_live ≡ true → (k : ℕ) → k < b.size → b.cells k ≡ None → cells (2 * (first + k)) ≡ 0

-- a live block has so many cells, one at least, and they lie before the next free one
pub record LiesIn (next_free first : ℕ) (b : Block) : Type 0 where
  pub some : 1 ≤ b.size
  pub inside : first + b.size ≤ next_free

-- The machine holds the blocks. Block k, from 1, has its first cell at `first k`. Live blocks have no cell in common, and no
-- cell from the next free one on was stored.
pub record MemoryHolds (z : Sizes) (blocks : List Block) (table cells : ℕ → ℕ) (made next_free : ℕ) : Type 0 where
  pub first : ℕ → ℕ
  pub count : made ≡ length blocks
  pub few : length blocks ≤ most_blocks
  pub room : 2 * next_free ≤ z.cells
  pub each : (k : ℕ) (b : Block) → slice_get blocks k ≡ Some b → BlockHolds (length blocks) (suc k) (first (suc k)) b table cells
  pub lies : (k : ℕ) (b : Block) → slice_get blocks k ≡ Some b → b.is_live ≡ true → LiesIn next_free (first (suc k)) b
  pub apart : (j k : ℕ) (a b : Block) → slice_get blocks j ≡ Some a → slice_get blocks k ≡ Some b → a.is_live ≡ true → b.is_live ≡ true → j ≢ k →
      (first (suc j) + a.size ≤ first (suc k)) ⊎ (first (suc k) + b.size ≤ first (suc j))
  pub free : (k : ℕ) → next_free ≤ k → cells (2 * k) ≡ 0
  pub none : (k : ℕ) → length blocks < k → table (2 * k + 1) ≡ 0
  pub zero_block : table 1 ≡ 0
