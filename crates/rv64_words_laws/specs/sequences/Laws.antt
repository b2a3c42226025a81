-- What the sequences do, as laws of any image in which they stand.
use Rattle.std.specs.Prelude.{◌≡◌, ◌≢◌, ℕ, ◌+◌, ◌*◌, ◌^◌, ◌<◌, ◌≤◌, Bool, IsTrue, List}
use Rattle.rv64_words.specs.declared.image.Image.{Image}
use Rattle.rv64_words.specs.Region.{Sizes, stack_base, most_stack}
use Rattle.rv64_words_laws.specs.stretches.Core.{Core, written, put}
use Rattle.rv64_words_laws.specs.stretches.Runs.{HasAt, Runs}
use Rattle.rv64_words_laws.specs.sequences.Frames.{Reaches, addressed}
use Rattle.bril_tree.specs.declared.home.Home.{Home}
use Rattle.rv64_words_laws.specs.sequences.Moves.{Move, operand_words, operand_size, operand_register, result_words, result_size, result_register, fill_words, fill_size, copy_words, copy_size, save_words, save_size, restore_words, restore_size, home_word, is_temporary, Fetched, Filled, Saved, Restored, IsUsable, IsHomeInside, AreWordsApart, AreHomesApart, NoWordIsHome, AreUsable, AreInside}
use Rattle.rv64_words_laws.specs.sequences.Sequences.{constant_words, constant_size, load_from, store_over, load_size, store_size}

-- a register becomes a constant, and nothing else changes
abbrev pub ConstantsRun : Type 0
ConstantsRun = (image : Image) (z : Sizes) (k : ℕ) (c : Core) (r n : ℕ) → HasAt image k (constant_words r n) → r ≢ 0 → n < 2 ^ 64 → c.registers 0 ≡ 0 →
    Runs image z k c (constant_size n) (k + constant_size n) (written c r n)

-- a register becomes a word of a frame, and a word of a frame a register
abbrev pub FrameLoadsRun : Type 0
FrameLoadsRun = (image : Image) (z : Sizes) (k : ℕ) (c : Core) (base r b o : ℕ) → HasAt image k (load_from base r o) → base ≢ 6 → Reaches z c base b o →
    Runs image z k c (load_size o) (k + load_size o) (written (addressed c base o) r (c.stack (b + o)))

abbrev pub FrameStoresRun : Type 0
FrameStoresRun = (image : Image) (z : Sizes) (k : ℕ) (c : Core) (base r b o : ℕ) → HasAt image k (store_over base r o) → base ≢ 6 → r ≢ 6 → Reaches z c base b o →
    Runs image z k c (store_size o) (k + store_size o) (put (addressed c base o) (b + o) (c.registers r))

-- a register of an operation gets what a home has
abbrev pub OperandsRun : Type 0
OperandsRun = (image : Image) (z : Sizes) (k : ℕ) (c : Core) (b : ℕ) (any : Bool) (r : ℕ) (home : Home) → HasAt image k (operand_words any r home) → z.stack ≤ most_stack → c.registers 2 ≡ stack_base + 8 * b →
    IsTrue (is_temporary r) → IsUsable home → IsHomeInside z b home →
    (e : Core) × Fetched b (operand_register any r home) home c e × Runs image z k c (operand_size any home) (k + operand_size any home) e

-- a home gets the result of an operation, what a register has, and what another home has
abbrev pub ResultsRun : Type 0
ResultsRun = (image : Image) (z : Sizes) (k : ℕ) (c : Core) (b : ℕ) (any : Bool) (home : Home) → HasAt image k (result_words any home) → z.stack ≤ most_stack → c.registers 2 ≡ stack_base + 8 * b →
    IsUsable home → IsHomeInside z b home →
    (e : Core) × Filled b home (c.registers (result_register any home)) c e × Runs image z k c (result_size any home) (k + result_size any home) e

abbrev pub FillsRun : Type 0
FillsRun = (image : Image) (z : Sizes) (k : ℕ) (c : Core) (b r : ℕ) (home : Home) → HasAt image k (fill_words r home) → z.stack ≤ most_stack → c.registers 2 ≡ stack_base + 8 * b →
    r ≢ 6 → IsUsable home → IsHomeInside z b home →
    (e : Core) × Filled b home (c.registers r) c e × Runs image z k c (fill_size home) (k + fill_size home) e

abbrev pub CopiesRun : Type 0
CopiesRun = (image : Image) (z : Sizes) (k : ℕ) (c : Core) (b : ℕ) (dest from : Home) → HasAt image k (copy_words dest from) → z.stack ≤ most_stack → c.registers 2 ≡ stack_base + 8 * b →
    IsUsable dest → IsHomeInside z b dest → IsUsable from → IsHomeInside z b from →
    (e : Core) × Filled b dest (home_word c b from) c e × Runs image z k c (copy_size dest from) (k + copy_size dest from) e

-- what homes have comes into words of the frame, and no other words of the stack change
abbrev pub SavesRun : Type 0
SavesRun = (image : Image) (z : Sizes) (k : ℕ) (c : Core) (b : ℕ) (moves : List Move) → HasAt image k (save_words moves) → z.stack ≤ most_stack → c.registers 2 ≡ stack_base + 8 * b →
    AreWordsApart moves → NoWordIsHome moves → AreUsable moves → AreInside z b moves →
    (e : Core) × Saved b moves c e × Runs image z k c (save_size moves) (k + save_size moves) e

-- words of the frame come into homes, and no other homes change
abbrev pub RestoresRun : Type 0
RestoresRun = (image : Image) (z : Sizes) (k : ℕ) (c : Core) (b : ℕ) (moves : List Move) → HasAt image k (restore_words moves) → z.stack ≤ most_stack → c.registers 2 ≡ stack_base + 8 * b →
    AreHomesApart moves → NoWordIsHome moves → AreUsable moves → AreInside z b moves →
    (e : Core) × Restored b moves c e × Runs image z k c (restore_size moves) (k + restore_size moves) e
