-- What the words of memory find and do, in any image in which they stand.
use Rattle.std.specs.Prelude.{◌≡◌, ℕ, ◌+◌, ◌*◌, ◌^◌, ◌<◌, ◌≤◌, Bool, IsTrue, false, nat_lt, List, ℤ, pos, negsuc, FitsSigned}
use Rattle.std.specs.Int.{w32, cast_unsigned}
use Rattle.bril_tree.specs.declared.limits.End.TheVariants.{Faulted}
use Rattle.bril_tree.specs.declared.limits.Fault.TheVariants as fault
use Rattle.rv64_words.specs.declared.image.Image.{Image}
use Rattle.rv64_words.specs.declared.word.Word.{Word}
use Rattle.rv64_words.specs.Region.{Sizes, cells_base, most_blocks, most_stack}
use Rattle.rv64_words_laws.specs.stretches.Core.{Core, written, put_cell, Keeps}
use Rattle.rv64_words_laws.specs.stretches.Runs.{HasAt, Runs}
use Rattle.rv64_words_laws.specs.sequences.Operations.{cell_words, load_cell_words, mark_cell_words, store_cell_words}
use Rattle.rv64_words_laws.specs.values.Operands.{is_result_register, Gives, EndsSo}

-- the offset of a pointer is inside a block of so many cells
abbrev pub is_inside : ℤ → ℕ → Bool
is_inside (pos n) size = nat_lt n size
is_inside (negsuc n) size = false

-- ---- finding a cell

-- The words stand at word k, and register 5 has a pointer to one of the blocks of the table.
pub record PointerReady (image : Image) (z : Sizes) (k : ℕ) (c : Core) (ws : List Word) (block : ℕ) (offset : ℤ) : Type 0 where
  pub has : HasAt image k ws
  pub low : k < 2 ^ 19
  pub few : z.stack ≤ most_stack
  pub null : c.registers 0 ≡ 0
  pub pointer : c.registers 5 ≡ block * 2 ^ 32 + cast_unsigned w32 offset
  pub fits : FitsSigned w32 offset
  pub known : block ≤ most_blocks
  pub limited : c.table (2 * block + 1) < 2 ^ 63

-- Register 7 has the address of this cell, and the rest is kept.
pub record FindsCell (image : Image) (z : Sizes) (k : ℕ) (c : Core) (size at : ℕ) : Type 0 where
  pub steps : ℕ
  pub within : steps ≤ size
  pub core : Core
  pub keeps : Keeps c core
  pub result : core.registers 7 ≡ cells_base + 16 * at
  pub runs : Runs image z k c steps (k + size) core

-- a pointer into a block whose first cell the table names
abbrev pub CellWordsFind : Type 0
CellWordsFind = (image : Image) (z : Sizes) (k : ℕ) (c : Core) (block n first : ℕ) (offset : ℤ) → PointerReady image z k c cell_words block offset → offset ≡ pos n → n < c.table (2 * block + 1) → c.table (2 * block) ≡ cells_base + 16 * first → first + n < 2 ^ 58 →
    FindsCell image z k c 14 (first + n)

-- and one that points to no cell
abbrev pub CellWordsFault : Type 0
CellWordsFault = (image : Image) (z : Sizes) (k : ℕ) (c : Core) (block : ℕ) (offset : ℤ) → PointerReady image z k c cell_words block offset → is_inside offset (c.table (2 * block + 1)) ≡ false → EndsSo image z k c 14 (Faulted fault.Access)

-- ---- loads and stores of a cell

-- register 7 has the address of a cell of the region
pub record CellReady (image : Image) (z : Sizes) (k : ℕ) (c : Core) (ws : List Word) (at : ℕ) : Type 0 where
  pub has : HasAt image k ws
  pub low : k < 2 ^ 19
  pub few : z.stack ≤ most_stack
  pub null : c.registers 0 ≡ 0
  pub address : c.registers 7 ≡ cells_base + 16 * at
  pub inside : 2 * at + 1 < z.cells
  pub small : at < 2 ^ 58

-- a load of a cell that was stored, and of one that never was
abbrev pub LoadWordsGive : Type 0
LoadWordsGive = (image : Image) (z : Sizes) (k : ℕ) (c : Core) (d at : ℕ) → IsTrue (is_result_register d) → CellReady image z k c (load_cell_words d) at → c.cells (2 * at) ≡ 1 → Gives image z k c d 6 (c.cells (2 * at + 1))

abbrev pub LoadWordsFault : Type 0
LoadWordsFault = (image : Image) (z : Sizes) (k : ℕ) (c : Core) (d at : ℕ) → IsTrue (is_result_register d) → CellReady image z k c (load_cell_words d) at → c.cells (2 * at) ≡ 0 → EndsSo image z k c 6 (Faulted fault.Uninit)

-- the two stores of a cell: its mark, by register 5, and its value
abbrev pub MarkWordsRun : Type 0
MarkWordsRun = (image : Image) (z : Sizes) (k : ℕ) (c : Core) (at : ℕ) → CellReady image z k c mark_cell_words at → Runs image z k c 2 (k + 2) (put_cell (written c 5 1) (2 * at) 1)

abbrev pub StoreWordsRun : Type 0
StoreWordsRun = (image : Image) (z : Sizes) (k : ℕ) (c : Core) (v at : ℕ) → CellReady image z k c (store_cell_words v) at → Runs image z k c 1 (k + 1) (put_cell c (2 * at + 1) (c.registers v))
