-- The moves that the code has of a function's slots, and their words one way or the other.
use Rattle.std.specs.Prelude.{ℕ, ◌+◌, ◌^◌, ◌≤◌, List, length}
use Rattle.std.specs.List.{AllByRecursion}
use Rattle.bril_tree.specs.declared.home.Home.{Home}
use Rattle.slot_code.specs.declared.item.Slot.{Slot}
use Rattle.rv64_words.specs.declared.word.Word.{Word}
use Rattle.rv64_words_laws.specs.sequences.Moves.{Move, save_one, save_one_size, save_size, save_words, restore_one, restore_one_size, restore_size, restore_words}
use Rattle.rv64_emit_laws.specs.layout.Fits.{IsReached}
use Rattle.rv64_emit_laws.specs.layout.Homes.{moves_from}
use Rattle.rv64_emit.specs.declared.moves.Transfer.{Transfer}
use Rattle.rv64_emit.specs.declared.moves.Transfer.TheVariants.{Save, Restore}
use Rattle.rv64_emit.specs.declared.saves.SlotMoves.{SlotMoves}
use Rattle.rv64_emit.specs.Moved.{IsReady, is_moved}
use Rattle.rv64_emit.specs.Placed.{homes_in}

-- ---- one way or the other

-- the words that bring what a home has into a word of the frame, or back, and how many they are
abbrev pub one_words_by : Transfer → Home → ℕ → List Word
one_words_by Save home word = save_one home word
one_words_by Restore home word = restore_one home word

abbrev pub one_size_by : Transfer → Home → ℕ → ℕ
one_size_by Save home word = save_one_size home word
one_size_by Restore home word = restore_one_size home word

-- those of many moves
abbrev pub words_by : Transfer → List Move → List Word
words_by Save moves = save_words moves
words_by Restore moves = restore_words moves

abbrev pub size_by : Transfer → List Move → ℕ
size_by Save moves = save_size moves
size_by Restore moves = restore_size moves

-- ---- of a function's slots

-- those of these slots, which are numbered from k on
abbrev pub moves_of_slots : SlotMoves → ℕ → List Slot → List Move
moves_of_slots m k slots = moves_from (homes_in m.homes) m.first (is_moved (homes_in m.homes) m.func.now m.moved) k slots

abbrev pub all_moves : SlotMoves → List Move
all_moves m = moves_of_slots m 0 m.slots.now

-- Their words have encodings: each slot's home is within reach, and numbers of points and words are small enough.
pub record AreReady (m : SlotMoves) : Type 0 where
  pub reached : AllByRecursion (λ slot. IsReached ((homes_in m.homes).home slot)) m.slots.now
  pub meant : IsReady m.moved
  pub words : m.first + length m.slots.now ≤ 2 ^ 28
