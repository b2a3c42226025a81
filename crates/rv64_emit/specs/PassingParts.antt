-- The words by which a call passes its arguments, part by part.
use Rattle.std.specs.Prelude.{ℕ, ◌==◌, ◌^◌, ◌<◌, if◌then◌else◌, List, [], ◌∷◌}
use Rattle.bril_tree.specs.declared.home.Home.{Home}
use Rattle.bril_tree.specs.declared.home.Home.TheVariants.{Reg}
use Rattle.rv64_words.specs.declared.word.Word.{Word}
use Rattle.rv64_words_laws.specs.sequences.Moves.{save_one, save_one_size, save_size, save_words, restore_one, restore_one_size, restore_size, restore_words}
use Rattle.rv64_words_laws.specs.sequences.Sequences.{copied_word}
use Rattle.slot_code.specs.declared.slots.SlotFunction.{SlotFunction}
use Rattle.rv64_emit_laws.specs.layout.Homes.{FunctionHomes}
use Rattle.rv64_emit_laws.specs.layout.Passing as laws
use Rattle.rv64_emit.specs.declared.passing.Part.{Part}
use Rattle.rv64_emit.specs.declared.passing.Part.TheVariants.{Stores, Copies, Loads}
use Rattle.rv64_emit.specs.declared.passing.Way.{Way}
use Rattle.rv64_emit.specs.declared.passing.Way.TheVariants.{Nowhere, Stored, Swapped, Copied, Loaded}

abbrev pub way_as : Way → laws.Way
way_as Nowhere = laws.nowhere
way_as Stored = laws.stored
way_as (Swapped to) = laws.swapped to
way_as (Copied to from) = laws.copied to from
way_as (Loaded to word) = laws.loaded to word

-- its registers and its word have encodings
abbrev pub FitsWay : Way → Type 0
FitsWay Nowhere = Unit {0}
FitsWay Stored = Unit {0}
FitsWay (Swapped to) = to < 32
FitsWay (Copied to from) = (to < 32) × (from < 32)
FitsWay (Loaded to word) = (to < 32) × (word < 2 ^ 28)

-- ---- one argument, which is at a home and has a word of the new frame

abbrev pub one_words : Part → laws.Way → Home → ℕ → List Word
one_words Stores laws.stored from word = save_one from word
one_words Stores (laws.swapped to) from word = save_one from word
one_words Copies (laws.copied to own) from word = if to == own then [] else copied_word to own ∷ []
one_words Loads (laws.swapped to) from word = restore_one (Reg to) word
one_words Loads (laws.loaded to own) from word = restore_one (Reg to) own
one_words _ _ from word = []

abbrev pub one_size : Part → laws.Way → Home → ℕ → ℕ
one_size Stores laws.stored from word = save_one_size from word
one_size Stores (laws.swapped to) from word = save_one_size from word
one_size Copies (laws.copied to own) from word = if to == own then 0 else 1
one_size Loads (laws.swapped to) from word = restore_one_size (Reg to) word
one_size Loads (laws.loaded to own) from word = restore_one_size (Reg to) own
one_size _ _ from word = 0

-- ---- all of them, from argument k on, in a call of function `to`

abbrev pub part_words : Part → FunctionHomes → SlotFunction → (to k : ℕ) → List ℕ → List Word
part_words Stores homes g to k args = save_words (laws.pass_stores homes g to k args)
part_words Copies homes g to k args = laws.pass_copies homes g to k args
part_words Loads homes g to k args = restore_words (laws.pass_loads homes g to k args)

abbrev pub part_size : Part → FunctionHomes → SlotFunction → (to k : ℕ) → List ℕ → ℕ
part_size Stores homes g to k args = save_size (laws.pass_stores homes g to k args)
part_size Copies homes g to k args = laws.pass_copies_size homes g to k args
part_size Loads homes g to k args = restore_size (laws.pass_loads homes g to k args)
