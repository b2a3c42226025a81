-- How a call passes its arguments: each comes to where the called function has it as it begins, if it is live there.
--
-- First those are stored whose home is in the new frame, and those that go to a register from which a later argument comes. Then
-- registers are copied, in the order of the arguments. Last those come into registers that are in the caller's frame, and those that
-- waited in the new one.
use Rattle.std.specs.Prelude.{ℕ, suc, ◌+◌, ◌==◌, Bool, false, if◌then◌else◌, List, [], ◌∷◌, ◌++◌, Option, Some, None}
use Rattle.std.specs.List.{list_any}
use Rattle.bril_tree.specs.declared.home.Home.{Home}
use Rattle.bril_tree.specs.declared.home.Home.TheVariants.{Reg, Frame}
use Rattle.rv64_words.specs.declared.word.Word.{Word}
use Rattle.slot_code.specs.declared.slots.SlotFunction.{SlotFunction}
use Rattle.rv64_words_laws.specs.sequences.Moves.{Move, save_words, save_size, restore_words, restore_size}
use Rattle.rv64_words_laws.specs.sequences.Sequences.{copied_word}
use Rattle.rv64_emit_laws.specs.layout.Homes.{FunctionHomes, argument_word, variable_home}

-- ---- the way of an argument

pub data Way : Type 0 where
  -- it isn't passed
  nowhere : Way
  -- into its word of the new frame
  stored : Way
  -- to register r by its word of the new frame
  swapped : (r : ℕ) → Way
  -- from register s to register r
  copied : (r s : ℕ) → Way
  -- from word o of the caller's frame to register r
  loaded : (r o : ℕ) → Way

abbrev pub is_register : ℕ → Home → Bool
is_register r (Reg s) = r == s
is_register r (Frame o) = false

-- one of these arguments comes from this register
abbrev pub comes_from : FunctionHomes → ℕ → List ℕ → Bool
comes_from homes r args = list_any (λ a. is_register r (variable_home homes a)) args

-- by where it goes, where it comes from, and the arguments after it
abbrev pub way : FunctionHomes → Option Home → Home → List ℕ → Way
way homes None from later = nowhere
way homes (Some (Frame p)) from later = stored
way homes (Some (Reg r)) (Frame o) later = loaded r o
way homes (Some (Reg r)) (Reg s) later = if comes_from homes r later then swapped r else copied r s

-- ---- what it adds to the words of the others

abbrev pub with_store : Way → Move → List Move → List Move
with_store stored m moves = m ∷ moves
with_store (swapped r) m moves = m ∷ moves
with_store _ m moves = moves

abbrev pub with_copy : Way → List Word → List Word
with_copy (copied r s) words = if r == s then words else copied_word r s ∷ words
with_copy _ words = words

abbrev pub with_copy_size : Way → ℕ → ℕ
with_copy_size (copied r s) size = if r == s then size else suc size
with_copy_size _ size = size

abbrev pub with_load : Way → ℕ → List Move → List Move
with_load (swapped r) word moves = record { home = Reg r; word = word } ∷ moves
with_load (loaded r o) word moves = record { home = Reg r; word = o } ∷ moves
with_load _ word moves = moves

-- ---- all arguments, from argument k on, of a call of function `to`

module _ (homes : FunctionHomes) (g : SlotFunction) (to : ℕ) where
  abbrev pub way_at : (k a : ℕ) → List ℕ → Way
  way_at k a later = way homes (homes.given to k) (variable_home homes a) later

  abbrev pub pass_stores : ℕ → List ℕ → List Move
  pass_stores k [] = []
  pass_stores k (a ∷ args) = with_store (way_at k a args) (record { home = variable_home homes a; word = argument_word g k }) (pass_stores (suc k) args)

  abbrev pub pass_copies : ℕ → List ℕ → List Word
  pass_copies k [] = []
  pass_copies k (a ∷ args) = with_copy (way_at k a args) (pass_copies (suc k) args)

  abbrev pub pass_copies_size : ℕ → List ℕ → ℕ
  pass_copies_size k [] = 0
  pass_copies_size k (a ∷ args) = with_copy_size (way_at k a args) (pass_copies_size (suc k) args)

  abbrev pub pass_loads : ℕ → List ℕ → List Move
  pass_loads k [] = []
  pass_loads k (a ∷ args) = with_load (way_at k a args) (argument_word g k) (pass_loads (suc k) args)

  abbrev pub pass_words : List ℕ → List Word
  pass_words args = save_words (pass_stores 0 args) ++ (pass_copies 0 args ++ restore_words (pass_loads 0 args))

  abbrev pub pass_size : List ℕ → ℕ
  pass_size args = save_size (pass_stores 0 args) + (pass_copies_size 0 args + restore_size (pass_loads 0 args))
