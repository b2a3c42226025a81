-- What a machine keeps of its block table, so that it can slide the live blocks in place.
use Rattle.std.specs.Prelude.{◌≡◌, ◌≢◌, ℕ, suc, ◌+◌, ◌-◌, ◌*◌, ◌/◌, ◌<◌, ◌≤◌, ◌==◌, if◌then◌else◌}
use Rattle.rv64_words.specs.Region.{cells_base}
use Rattle.rv64_words.specs.State.{assigned}
use Rattle.rv64_words.specs.Environment.{live_cells}
use Rattle.rv64_processor.specs.RegionView.{moved_down}

-- the number of the first cell of a block, from its address
abbrev pub first_cell : (ℕ → ℕ) → ℕ → ℕ
first_cell table b = (table (2 * b) - cells_base) / 16

-- Block suc b is one of the first `blocks`, and live.
pub record IsLiveOf (table : ℕ → ℕ) (blocks b : ℕ) : Type 0 where
  pub made : b < blocks
  pub size : table (2 * suc b + 1) ≢ 0

-- Live blocks lie in the order of their numbers, before the next free cell; no block but those that were made has a size.
pub record IsOrdered (table : ℕ → ℕ) (blocks free : ℕ) : Type 0 where
  pub address : (b : ℕ) → IsLiveOf table blocks b → table (2 * suc b) ≡ cells_base + 16 * first_cell table (suc b)
  pub rising : (a b : ℕ) → a < b → IsLiveOf table blocks a → IsLiveOf table blocks b → first_cell table (suc a) + table (2 * suc a + 1) ≤ first_cell table (suc b)
  pub below : (b : ℕ) → IsLiveOf table blocks b → first_cell table (suc b) + table (2 * suc b + 1) ≤ free
  pub none : (b : ℕ) → blocks < b → table (2 * b + 1) ≡ 0
  pub zero_block : table 1 ≡ 0

-- No block before block `low` was freed since the last slide: the live ones before it lie without gaps at the front, and it
-- stood after them. Where none at all was freed, the next free cell is the first after the live blocks.
pub record IsTight (table : ℕ → ℕ) (blocks free low : ℕ) : Type 0 where
  pub front : (b : ℕ) → suc b < low → IsLiveOf table blocks b → table (2 * suc b) ≡ cells_base + 16 * live_cells table b
  pub freed : (b : ℕ) → low ≡ suc b → b < blocks → table (2 * suc b) ≡ cells_base + 16 * live_cells table b
  pub whole : blocks < low → free ≡ live_cells table blocks
  pub some : 1 ≤ low

-- what the machine keeps
pub record KeepsBlocks (table : ℕ → ℕ) (blocks free low live : ℕ) : Type 0 where
  pub ordered : IsOrdered table blocks free
  pub tight : IsTight table blocks free low
  pub counted : live ≡ live_cells table blocks

-- ---- one block

-- the block table with the block moved to cell `to`
abbrev pub table_moved : (ℕ → ℕ) → ℕ → ℕ → (ℕ → ℕ)
table_moved table number to = if table (2 * number + 1) == 0 then table else assigned table (2 * number) (cells_base + 16 * to)

-- and the words of the cells
abbrev pub cells_moved : (ℕ → ℕ) → (ℕ → ℕ) → ℕ → ℕ → (ℕ → ℕ)
cells_moved table cells number to = moved_down cells (2 * first_cell table number) (2 * to) (2 * table (2 * number + 1))

-- A live block may move to cell `to`, which isn't after its first one; its cells are among those that there are.
pub record IsMovable (table : ℕ → ℕ) (number to room : ℕ) : Type 0 where
  pub address : table (2 * number) ≡ cells_base + 16 * first_cell table number
  pub ahead : to ≤ first_cell table number
  pub inside : 2 * (first_cell table number + table (2 * number + 1)) ≤ room
