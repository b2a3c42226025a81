-- The image of code over slots, by the homes of each function's slots: where its items begin, its words, its guards and its stack.
use Rattle.std.specs.Prelude.{◌≡◌, ℕ, zero, suc, ◌+◌, ◌-◌, ◌*◌, List, [], ◌∷◌, ◌++◌, length, map, Option, Some, None, slice_get}
use Rattle.bril_tree.specs.declared.limits.Limits.{Limits}
use Rattle.program_numbers.specs.ProgramNumbers.{greatest}
use Rattle.rv64_words.specs.declared.image.GuardAt.{GuardAt}
use Rattle.rv64_words.specs.declared.image.Image.{Image}
use Rattle.rv64_words.specs.declared.word.Word.{Word}
use Rattle.rv64_words.specs.declared.word.Word.TheVariants.{Lui, Jal}
use Rattle.rv64_words.specs.Encoding.{encoded}
use Rattle.rv64_words.specs.Mnemonics.{addi}
use Rattle.slot_code.specs.declared.item.SlotItem.{SlotItem}
use Rattle.slot_code.specs.declared.item.SlotItem.TheVariants.{Guard}
use Rattle.slot_code.specs.declared.slots.SlotFunction.{SlotFunction}
use Rattle.slot_code.specs.declared.slots.Slots.{Slots}
use Rattle.rv64_words_laws.specs.sequences.Moves.{Move, restore_size, restore_words}
use Rattle.rv64_words_laws.specs.sequences.Sequences.{high_part, low_part, fault_words, jump_offset}
use Rattle.rv64_emit_laws.specs.layout.Homes.{FunctionHomes, opening_moves}
use Rattle.rv64_emit_laws.specs.layout.Items.{item_size, item_words, guard_front_size, keep_way_size, keep_way_words, leave_size, leave_words}

-- the sum of what a function gives for the numbers below n
abbrev pub sum_below : (ℕ → ℕ) → ℕ → ℕ
sum_below counts zero = 0
sum_below counts (suc n) = sum_below counts n + counts n

-- the lists that a function gives for the numbers below n, one after another
abbrev pub joined : {X : Type 0} → (ℕ → List X) → ℕ → List X
joined lists zero = []
joined lists (suc n) = joined lists n ++ lists n

-- ---- where functions and items begin

abbrev pub size_or_none : FunctionHomes → SlotFunction → ℕ → Option SlotItem → ℕ
size_or_none homes g point None = 0
size_or_none homes g point (Some item) = item_size homes g point item

-- how many words the item at a point has, none at the function's end
abbrev pub size_at : FunctionHomes → SlotFunction → ℕ → ℕ
size_at homes g point = size_or_none homes g point (slice_get g.code point)

-- how many words of a function come before the item at a point: those that keep the way back, and those of the items before
abbrev pub words_before : FunctionHomes → SlotFunction → ℕ → ℕ
words_before homes g point = keep_way_size homes + sum_below (size_at homes g) point

-- how many words a function has, with those that leave it
abbrev pub function_size : FunctionHomes → SlotFunction → ℕ
function_size homes g = words_before homes g (length g.code) + leave_size homes

abbrev pub function_size_or_none : FunctionHomes → Option SlotFunction → ℕ
function_size_or_none homes None = 0
function_size_or_none homes (Some g) = function_size homes g

abbrev pub opening_or_none : FunctionHomes → Option SlotFunction → List Move
opening_or_none homes None = []
opening_or_none homes (Some g) = opening_moves homes g

-- by which the arguments of `main` come from its frame into registers, and how many words that takes
abbrev pub main_moves : (ℕ → FunctionHomes) → Slots → List Move
main_moves homes slots = opening_or_none (homes slots.main) (slice_get slots.funcs slots.main)

abbrev pub main_size : (ℕ → FunctionHomes) → Slots → ℕ
main_size homes slots = restore_size (main_moves homes slots)

-- the word at which the program ends, and that at which the first function begins
abbrev pub end_start : (ℕ → FunctionHomes) → Slots → ℕ
end_start homes slots = 3 + main_size homes slots

abbrev pub first_start : (ℕ → FunctionHomes) → Slots → ℕ
first_start homes slots = 6 + main_size homes slots

-- the word at which a function begins
abbrev pub start_at : (ℕ → FunctionHomes) → Slots → ℕ → ℕ
start_at homes slots f = first_start homes slots + sum_below (λ k. function_size_or_none (homes k) (slice_get slots.funcs k)) f

abbrev pub words_before_in : FunctionHomes → Option SlotFunction → ℕ → ℕ
words_before_in homes None point = 0
words_before_in homes (Some g) point = words_before homes g point

-- the word at which the item at a point begins, and at the function's end the words that leave it
abbrev pub entry_at : (ℕ → FunctionHomes) → Slots → ℕ → ℕ → ℕ
entry_at homes slots f point = start_at homes slots f + words_before_in (homes f) (slice_get slots.funcs f) point

-- ---- the words

-- The first words: register 8 has how many frames may be made beside that of `main`, its arguments come into registers, `main` is
-- called, and the program ends where it returns.
abbrev pub head_words : Limits → List Move → ℕ → List Word
head_words limits moves main =
    Lui 8 (high_part (limits.frames - 1)) ∷ addi 8 8 (low_part (limits.frames - 1)) ∷
    (restore_words moves ++ Jal 1 (jump_offset (2 + restore_size moves) main) ∷ fault_words 0)

module _ (homes : ℕ → FunctionHomes) (slots : Slots) (f : ℕ) (g : SlotFunction) where
  abbrev pub item_words_or_none : ℕ → Option SlotItem → List Word
  item_words_or_none point None = []
  item_words_or_none point (Some item) = item_words (homes f) (start_at homes slots) (entry_at homes slots f) g point (entry_at homes slots f point) item

  -- the words of the item at a point of function f
  abbrev pub item_words_at : ℕ → List Word
  item_words_at point = item_words_or_none point (slice_get g.code point)

  abbrev pub function_words : List Word
  function_words = keep_way_words (homes f) ++ (joined item_words_at (length g.code) ++ leave_words (homes f))

abbrev pub function_words_or_none : (ℕ → FunctionHomes) → Slots → ℕ → Option SlotFunction → List Word
function_words_or_none homes slots f None = []
function_words_or_none homes slots f (Some g) = function_words homes slots f g

abbrev pub function_words_at : (ℕ → FunctionHomes) → Slots → ℕ → List Word
function_words_at homes slots f = function_words_or_none homes slots f (slice_get slots.funcs f)

abbrev pub image_words : (ℕ → FunctionHomes) → Slots → Limits → List Word
image_words homes slots limits = head_words limits (main_moves homes slots) (start_at homes slots slots.main) ++ joined (function_words_at homes slots) (length slots.funcs)

-- ---- the guards

module _ (homes : ℕ → FunctionHomes) (slots : Slots) (f : ℕ) (g : SlotFunction) where
  -- the guard at a point, if there is one: its word is its last, the jump to its abort
  abbrev pub guard_or_none : ℕ → Option SlotItem → List GuardAt
  guard_or_none point (Some (Guard condition abort_to)) =
      record { word = entry_at homes slots f point + guard_front_size (homes f) g point condition abort_to; func = f; item = point } ∷ []
  guard_or_none point _ = []

  abbrev pub guard_at : ℕ → List GuardAt
  guard_at point = guard_or_none point (slice_get g.code point)

abbrev pub function_guards_or_none : (ℕ → FunctionHomes) → Slots → ℕ → Option SlotFunction → List GuardAt
function_guards_or_none homes slots f None = []
function_guards_or_none homes slots f (Some g) = joined (guard_at homes slots f g) (length g.code)

abbrev pub function_guards_at : (ℕ → FunctionHomes) → Slots → ℕ → List GuardAt
function_guards_at homes slots f = function_guards_or_none homes slots f (slice_get slots.funcs f)

-- the guards of all functions, in their order
abbrev pub image_guards : (ℕ → FunctionHomes) → Slots → List GuardAt
image_guards homes slots = joined (function_guards_at homes slots) (length slots.funcs)

-- ---- the image

-- the words of the largest frame
abbrev pub largest_frame : Slots → ℕ
largest_frame slots = greatest (map (λ g. g.words) slots.funcs)

-- It is the image of code over slots for runs under these limits.
pub record IsImageOf (homes : ℕ → FunctionHomes) (slots : Slots) (limits : Limits) (image : Image) : Type 0 where
  pub words : image.words ≡ map encoded (image_words homes slots limits)
  pub guards : image.guards ≡ image_guards homes slots
  pub stack : image.stack ≡ limits.frames * largest_frame slots
