-- What words do, as laws.
use Rattle.std.specs.Prelude.{◌≡◌, ℕ, ◌+◌, ◌*◌, ◌<◌, false, true, List, length, ℤ}
use Rattle.rv64_words.specs.declared.image.Image.{Image}
use Rattle.rv64_words.specs.declared.word.Word.{Word}
use Rattle.rv64_words.specs.declared.word.Word.TheVariants.{Jal, Ld, Sd}
use Rattle.rv64_words.specs.Arithmetic.{moved_by}
use Rattle.rv64_words.specs.Region.{Sizes, stack_base}
use Rattle.rv64_words_laws.specs.stretches.Core.{Core, written, put, arrived}
use Rattle.rv64_words_laws.specs.stretches.Runs.{WordAt, HasAt, AreComputing, effects, Runs, Leaves}

-- words that compute, one after the other
abbrev pub ComputingWordsRun : Type 0
ComputingWordsRun = (image : Image) (z : Sizes) (k : ℕ) (c : Core) (ws : List Word) → AreComputing ws → HasAt image k ws → Runs image z k c (length ws) (k + length ws) (effects ws c)

-- a load and a store of a word of the stack
abbrev pub StackLoadsRun : Type 0
StackLoadsRun = (image : Image) (z : Sizes) (k : ℕ) (c : Core) (rd rs1 : ℕ) (i : ℤ) (at : ℕ) → WordAt image false k (Ld rd rs1 i) → moved_by (c.registers rs1) i ≡ stack_base + 8 * at → at < z.stack → Runs image z k c 1 (k + 1) (written c rd (c.stack at))

abbrev pub StackStoresRun : Type 0
StackStoresRun = (image : Image) (z : Sizes) (k : ℕ) (c : Core) (rs1 rs2 : ℕ) (i : ℤ) (at : ℕ) → WordAt image false k (Sd rs1 rs2 i) → moved_by (c.registers rs1) i ≡ stack_base + 8 * at → at < z.stack → Runs image z k c 1 (k + 1) (put c at (c.registers rs2))

-- a jump by a guard's word, which is counted; it may lead anywhere
abbrev pub GuardJumpsRun : Type 0
GuardJumpsRun = (image : Image) (z : Sizes) (k : ℕ) (c : Core) (i : ℤ) (b : ℕ) → WordAt image true k (Jal 0 i) → moved_by (4 * k) i ≡ 4 * b → Leaves image z k c 1 (k + 1) b (arrived k c)
