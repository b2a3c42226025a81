-- Homes of values: the words that bring what a home has into a register or into a word of the frame, and back. A call keeps
-- registers so, a `speculate` keeps values, and a guard that fails takes them back. Register 5 is used between two words of the
-- frame. Operations take what is in a register from there, and put what goes into a register there.
use Rattle.std.specs.Prelude.{◌≡◌, ◌≢◌, ℕ, ◌+◌, ◌<◌, ◌==◌, ◌||◌, Bool, true, false, IsTrue, List, [], ◌∷◌, ◌++◌}
use Rattle.bril_tree.specs.declared.home.Home.{Home}
use Rattle.bril_tree.specs.declared.home.Home.TheVariants.{Reg, Frame}
use Rattle.bril_tree.specs.Home.{is_home_register}
use Rattle.bril_tree.specs.Membership.{In}
use Rattle.rv64_words.specs.declared.word.Word.{Word}
use Rattle.rv64_words.specs.Region.{Sizes}
use Rattle.rv64_words_laws.specs.stretches.Core.{Core, Keeps}
use Rattle.rv64_words_laws.specs.sequences.Sequences.{copied_word, load_words, store_words, load_size, store_size}

-- ---- a home and a register

-- register r becomes what the home has
abbrev pub fetch_words : ℕ → Home → List Word
fetch_words r (Reg s) = copied_word r s ∷ []
fetch_words r (Frame o) = load_words r o

abbrev pub fetch_size : Home → ℕ
fetch_size (Reg s) = 1
fetch_size (Frame o) = load_size o

-- the home gets what register r has
abbrev pub fill_words : ℕ → Home → List Word
fill_words r (Reg s) = copied_word s r ∷ []
fill_words r (Frame o) = store_words r o

abbrev pub fill_size : Home → ℕ
fill_size (Reg s) = 1
fill_size (Frame o) = store_size o

-- the register in which the words of an item find what a home has, or put what it gets: the home itself, or r where the home is
-- in the frame
abbrev pub register_for : ℕ → Home → ℕ
register_for r (Reg s) = s
register_for r (Frame o) = r

-- that register gets what the home has
abbrev pub source_words : ℕ → Home → List Word
source_words r (Reg s) = []
source_words r (Frame o) = load_words r o

abbrev pub source_size : Home → ℕ
source_size (Reg s) = 0
source_size (Frame o) = load_size o

-- the home gets what that register has
abbrev pub target_words : ℕ → Home → List Word
target_words r (Reg s) = []
target_words r (Frame o) = store_words r o

abbrev pub target_size : Home → ℕ
target_size (Reg s) = 0
target_size (Frame o) = store_size o

-- one home gets what another has
abbrev pub copy_words : (dest from : Home) → List Word
copy_words dest (Reg s) = fill_words s dest
copy_words dest (Frame o) = load_words (register_for 5 dest) o ++ target_words 5 dest

abbrev pub copy_size : (dest from : Home) → ℕ
copy_size dest (Reg s) = fill_size dest
copy_size dest (Frame o) = load_size o + target_size dest

-- ---- operands and results of operations

-- An operation finds an operand in any register, or in register r alone.
abbrev pub operand_register : Bool → ℕ → Home → ℕ
operand_register true r home = register_for r home
operand_register false r home = r

abbrev pub operand_words : Bool → ℕ → Home → List Word
operand_words true r home = source_words r home
operand_words false r home = fetch_words r home

abbrev pub operand_size : Bool → Home → ℕ
operand_size true home = source_size home
operand_size false home = fetch_size home

-- it puts its result into any register, or into register 5 alone
abbrev pub result_register : Bool → Home → ℕ
result_register any home = operand_register any 5 home

abbrev pub result_words : Bool → Home → List Word
result_words true home = target_words 5 home
result_words false home = fill_words 5 home

abbrev pub result_size : Bool → Home → ℕ
result_size true home = target_size home
result_size false home = fill_size home

-- ---- homes and words of the frame

-- a home, and the word of the frame to which or from which what it has is brought
pub record Move : Type 0 where
  pub home : Home
  pub word : ℕ

abbrev pub save_one : Home → ℕ → List Word
save_one (Reg r) o = store_words r o
save_one (Frame p) o = load_words 5 p ++ store_words 5 o

abbrev pub restore_one : Home → ℕ → List Word
restore_one (Reg r) o = load_words r o
restore_one (Frame p) o = load_words 5 o ++ store_words 5 p

abbrev pub save_one_size : Home → ℕ → ℕ
save_one_size (Reg r) o = store_size o
save_one_size (Frame p) o = load_size p + store_size o

abbrev pub restore_one_size : Home → ℕ → ℕ
restore_one_size (Reg r) o = load_size o
restore_one_size (Frame p) o = load_size o + store_size p

-- what homes have into words of the frame
abbrev pub save_words : List Move → List Word
save_words [] = []
save_words (m ∷ moves) = save_one m.home m.word ++ save_words moves

abbrev pub save_size : List Move → ℕ
save_size [] = 0
save_size (m ∷ moves) = save_one_size m.home m.word + save_size moves

-- words of the frame into homes
abbrev pub restore_words : List Move → List Word
restore_words [] = []
restore_words (m ∷ moves) = restore_one m.home m.word ++ restore_words moves

abbrev pub restore_size : List Move → ℕ
restore_size [] = 0
restore_size (m ∷ moves) = restore_one_size m.home m.word + restore_size moves

-- ---- what they do

-- what a home has, in the frame at word b of the stack
abbrev pub home_word : Core → ℕ → Home → ℕ
home_word c b (Reg r) = c.registers r
home_word c b (Frame o) = c.stack (b + o)

-- a register in which locations may be, or any word of the frame
abbrev pub IsUsable : Home → Type 0
IsUsable (Reg r) = IsTrue (is_home_register r)
IsUsable (Frame o) = Unit {0}

-- all but registers and the stack is as it was, and so are the registers of the way back, of the frame and of the frames that are
-- left
pub record KeepsRest (c e : Core) : Type 0 where
  pub zero_register : e.registers 0 ≡ c.registers 0
  pub link_register : e.registers 1 ≡ c.registers 1
  pub frame_register : e.registers 2 ≡ c.registers 2
  pub frames_left : e.registers 8 ≡ c.registers 8
  pub table : e.table ≡ c.table
  pub cells : e.cells ≡ c.cells
  pub blocks : e.blocks ≡ c.blocks
  pub next_free : e.next_free ≡ c.next_free
  pub printed : e.printed ≡ c.printed
  pub arrivals : e.arrivals ≡ c.arrivals

-- each word got what its home has, and no other word of the stack changed
pub record Saved (b : ℕ) (moves : List Move) (c e : Core) : Type 0 where
  pub rest : KeepsRest c e
  pub registers : (r : ℕ) → r ≢ 5 → r ≢ 6 → e.registers r ≡ c.registers r
  pub got : (m : Move) → In m moves → e.stack (b + m.word) ≡ home_word c b m.home
  pub others : (k : ℕ) → ((m : Move) → In m moves → k ≢ b + m.word) → e.stack k ≡ c.stack k

-- each home got its word, and nothing else did
pub record Restored (b : ℕ) (moves : List Move) (c e : Core) : Type 0 where
  pub rest : KeepsRest c e
  pub got : (m : Move) → In m moves → home_word e b m.home ≡ c.stack (b + m.word)
  pub others : (h : Home) → IsUsable h → ((m : Move) → In m moves → m.home ≢ h) → home_word e b h ≡ home_word c b h
  -- a register that is no home among them, and isn't used between
  pub registers : (r : ℕ) → r ≢ 5 → r ≢ 6 → ((m : Move) → In m moves → m.home ≢ Reg r) → e.registers r ≡ c.registers r
  -- a word of the stack that is no home among them
  pub stack : (k : ℕ) → ((m : Move) (o : ℕ) → In m moves → m.home ≡ Frame o → k ≢ b + o) → e.stack k ≡ c.stack k

-- the registers that take operands and results between homes: 5, 7, and 10 of environment calls and returns
abbrev pub is_temporary : ℕ → Bool
is_temporary r = (r == 5) || ((r == 7) || (r == 10))

-- a register has what a home has, and no other register but 6 changed
pub record Fetched (b r : ℕ) (home : Home) (c e : Core) : Type 0 where
  pub keeps : Keeps c e
  pub got : e.registers r ≡ home_word c b home
  pub others : (s : ℕ) → s ≢ r → s ≢ 6 → e.registers s ≡ c.registers s

-- one home got a word, and no other home and no other word of the stack changed
pub record Filled (b : ℕ) (home : Home) (w : ℕ) (c e : Core) : Type 0 where
  pub rest : KeepsRest c e
  pub got : home_word e b home ≡ w
  pub others : (h : Home) → IsUsable h → h ≢ home → home_word e b h ≡ home_word c b h
  pub stack : (k : ℕ) → ((o : ℕ) → home ≡ Frame o → k ≢ b + o) → e.stack k ≡ c.stack k

-- ---- when they do it

-- no two moves have one word, and no two have one home
abbrev pub AreWordsApart : List Move → Type 0
AreWordsApart [] = Unit {0}
AreWordsApart (m ∷ moves) = ((n : Move) → In n moves → n.word ≢ m.word) × AreWordsApart moves

abbrev pub AreHomesApart : List Move → Type 0
AreHomesApart [] = Unit {0}
AreHomesApart (m ∷ moves) = ((n : Move) → In n moves → n.home ≢ m.home) × AreHomesApart moves

-- no word of theirs is a home of theirs
abbrev pub NoWordIsHome : List Move → Type 0
NoWordIsHome moves = (m n : Move) → In m moves → In n moves → n.home ≢ Frame m.word

abbrev pub AreUsable : List Move → Type 0
AreUsable moves = (m : Move) → In m moves → IsUsable m.home

-- the words of the frame at word b that they use are in the stack
abbrev pub IsInside : Sizes → ℕ → Move → Type 0
IsInside z b m = (b + m.word < z.stack) × ((o : ℕ) → m.home ≡ Frame o → b + o < z.stack)

-- the word of the frame at word b that a home is, is in the stack
abbrev pub IsHomeInside : Sizes → ℕ → Home → Type 0
IsHomeInside z b home = (o : ℕ) → home ≡ Frame o → b + o < z.stack

abbrev pub AreInside : Sizes → ℕ → List Move → Type 0
AreInside z b moves = (m : Move) → In m moves → IsInside z b m
