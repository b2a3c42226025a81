-- The words of a frame, the homes of a function's slots, and the moves between them.
--
-- A frame is words of 64 bits from the address in register 2 on: word 0 is the way back, a pc in bytes, word 1 is
-- free, and word 2 + j is the own word of slot j. What is kept of the slots as they were at open speculation l, from 1, stands
-- in as many words after those of the speculation before it.
use Rattle.std.specs.Prelude.{◌≡◌, ℕ, suc, ◌+◌, ◌*◌, ◌==◌, ◌&&◌, Bool, true, false, not, nat_lt, if◌then◌else◌, List, [], ◌∷◌, length, Option, Some, None, slice_index}
use Rattle.bril_tree.specs.declared.home.Home.{Home}
use Rattle.bril_tree.specs.declared.home.Home.TheVariants.{Reg, Frame}
use Rattle.bril_tree.specs.FrameWords.{frame_head}
use Rattle.slot_code.specs.declared.item.Slot.{Slot}
use Rattle.slot_code.specs.declared.item.Slot.TheVariants.{Variable, Shadow}
use Rattle.slot_code.specs.declared.slots.SlotFunction.{SlotFunction}
use Rattle.slot_code.specs.Numbering.{slot_number}
use Rattle.rv64_words_laws.specs.sequences.Moves.{Move}

-- the word of the frame that is a slot's own
abbrev pub slot_word : SlotFunction → Slot → ℕ
slot_word g slot = frame_head + slot_number g.shadow_numbers slot

-- the first word of the slots as they were at open speculation `level`, from 1; level 0 is the slots as they are
abbrev pub level_word : SlotFunction → ℕ → ℕ
level_word g level = frame_head + length g.slots * level

-- how many speculations are open at a point of a function
abbrev pub depth_at : SlotFunction → ℕ → ℕ
depth_at g point = slice_index g.depths point

-- the `speculate` of the newest of them
abbrev pub newest_at : SlotFunction → ℕ → ℕ
newest_at g point = slice_index g.newest point

-- ---- homes

-- Of one function: where each slot is, whether the speculation of a `speculate`, by its point, keeps it, and whether it is live at a
-- point; where a function has its argument of a number, from 0, as it begins, if it is live there; whether this one is a leaf, which
-- calls no function, so that its way back stays in register 1; and whether items are marked, which then have a word each, also those
-- for which nothing is to be done, but for labels and `nop`.
pub record FunctionHomes : Type 0 where
  pub home : Slot → Home
  pub saved : ℕ → Slot → Bool
  pub live : ℕ → Slot → Bool
  pub given : (function argument : ℕ) → Option Home
  pub leaf : Bool
  pub marked : Bool

-- items are marked in all functions
abbrev pub AreMarked : (ℕ → FunctionHomes) → Type 0
AreMarked homes = (f : ℕ) → (homes f).marked ≡ true

abbrev pub variable_home : FunctionHomes → ℕ → Home
variable_home homes x = homes.home (Variable x)

-- where a function has an argument, by its own homes
abbrev pub given_home : FunctionHomes → ℕ → Option Home
given_home homes k = if homes.live 0 (Variable k) then Some (variable_home homes k) else None

-- word k of the slots of a frame that is made next, as a word of this frame
abbrev pub argument_word : SlotFunction → ℕ → ℕ
argument_word g k = g.words + (frame_head + k)

-- ---- moves

-- of slots that are numbered from i on, those that pass a test, each with the word of its number after a first one
abbrev pub moves_from : FunctionHomes → ℕ → (Slot → Bool) → ℕ → List Slot → List Move
moves_from homes first test i [] = []
moves_from homes first test i (slot ∷ slots) =
    if test slot then record { home = homes.home slot; word = first + i } ∷ moves_from homes first test (suc i) slots
    else moves_from homes first test (suc i) slots

-- of all slots of a function
abbrev pub moves_of : FunctionHomes → SlotFunction → ℕ → (Slot → Bool) → List Move
moves_of homes g first test = moves_from homes first test 0 g.slots

abbrev pub in_register : Home → Bool
in_register (Reg r) = true
in_register (Frame o) = false

-- the slot is this variable, if it is one
abbrev pub is_variable : Option ℕ → Slot → Bool
is_variable None slot = false
is_variable (Some x) (Variable y) = x == y
is_variable (Some x) (Shadow y) = false

abbrev pub is_argument : SlotFunction → Slot → Bool
is_argument g (Variable x) = nat_lt x g.args
is_argument g (Shadow x) = false

-- what the `speculate` at a point keeps: what its speculation keeps and is live there
abbrev pub is_kept : FunctionHomes → ℕ → Slot → Bool
is_kept homes point slot = homes.saved point slot && homes.live point slot

abbrev pub speculate_moves : FunctionHomes → SlotFunction → ℕ → List Move
speculate_moves homes g point = moves_of homes g (level_word g (suc (depth_at g point))) (is_kept homes point)

-- what a guard at a point takes back: what the newest speculation keeps and is live at the guard's label
abbrev pub is_taken_back : FunctionHomes → SlotFunction → ℕ → ℕ → Slot → Bool
is_taken_back homes g point label slot = homes.saved (newest_at g point) slot && homes.live label slot

abbrev pub guard_moves : FunctionHomes → SlotFunction → ℕ → ℕ → List Move
guard_moves homes g point label = moves_of homes g (level_word g (depth_at g point)) (is_taken_back homes g point label)

-- What the call at a point keeps of registers, each in its slot's own word: what is live after the call, but for the variable
-- that gets its result.
abbrev pub outlives : FunctionHomes → ℕ → Option ℕ → Slot → Bool
outlives homes point dest slot = in_register (homes.home slot) && (homes.live (suc point) slot && not (is_variable dest slot))

abbrev pub call_moves : FunctionHomes → SlotFunction → ℕ → Option ℕ → List Move
call_moves homes g point dest = moves_of homes g frame_head (outlives homes point dest)

-- the arguments that are in registers as a function begins: those of `main` come from its frame
abbrev pub is_loaded : FunctionHomes → SlotFunction → Slot → Bool
is_loaded homes g slot = in_register (homes.home slot) && (is_argument g slot && homes.live 0 slot)

abbrev pub opening_moves : FunctionHomes → SlotFunction → List Move
opening_moves homes g = moves_of homes g frame_head (is_loaded homes g)
