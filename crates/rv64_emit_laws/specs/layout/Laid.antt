-- What is known of an image of code over slots: which words are where, and that they are few. The homes are those of each
-- function's slots.
use Rattle.std.specs.Prelude.{◌≡◌, ℕ, suc, ◌+◌, ◌*◌, ◌<◌, ◌≤◌, true, Some, None, slice_get}
use Rattle.bril_tree.specs.declared.limits.Limits.{Limits}
use Rattle.bril_tree.specs.declared.program.Prog.{Prog}
use Rattle.bril_tree.specs.declared.home.Home.{Home}
use Rattle.bril_tree.specs.Accepted.{IsAccepted}
use Rattle.bril_tree.specs.Literals.{AreLiteralsInRange}
use Rattle.rv64_image_laws.specs.Home.{IsHomeWithin}
use Rattle.rv64_image_laws.specs.WordBounds.{IsWithin}
use Rattle.rv64_words.specs.declared.image.GuardAt.{GuardAt}
use Rattle.rv64_words.specs.declared.image.Image.{Image}
use Rattle.rv64_words_laws.specs.stretches.Runs.{HasAt, WordAt}
use Rattle.rv64_words_laws.specs.sequences.Moves.{IsUsable}
use Rattle.rv64_words_laws.specs.sequences.Sequences.{fault_words}
use Rattle.slot_code.specs.declared.item.Slot.{Slot}
use Rattle.slot_code.specs.declared.item.SlotItem.{SlotItem}
use Rattle.slot_code.specs.declared.item.SlotItem.TheVariants.{Guard}
use Rattle.slot_code.specs.declared.slots.SlotFunction.{SlotFunction}
use Rattle.slot_code.specs.declared.slots.Slots.{Slots}
use Rattle.slot_code.specs.Laws.{IsSlotOf}
use Rattle.slot_code.specs.Lowered.{IsLowered}
use Rattle.rv64_emit_laws.specs.layout.Homes.{FunctionHomes, in_register, slot_word}
use Rattle.rv64_emit_laws.specs.layout.Image.{start_at, entry_at, end_start, head_words, largest_frame, main_moves, IsImageOf}
use Rattle.rv64_emit_laws.specs.layout.Items.{item_size, item_words, guard_front, guard_front_size, abort_word, keep_way_size, keep_way_words, leave_words}
use Rattle.rv64_words.specs.Region.{most_words, most_stack}

-- ---- items

-- The words of an item are in the image, where functions and items begin so. The last word of a guard is a guard's word, and no
-- other word is one.
abbrev pub ItemAt : Image → FunctionHomes → (start entry : ℕ → ℕ) → SlotFunction → (point here : ℕ) → SlotItem → Type 0
ItemAt image homes start entry g point here (Guard condition abort_to) =
    HasAt image here (guard_front homes g point condition abort_to)
    × WordAt image true (here + guard_front_size homes g point condition abort_to) (abort_word homes start entry g point here condition abort_to)
ItemAt image homes start entry g point here item = HasAt image here (item_words homes start entry g point here item)

-- A guard is the item of its number in its function, and its word is that item's last.
pub record IsGuardAt (homes : ℕ → FunctionHomes) (slots : Slots) (guard : GuardAt) : Type 0 where
  pub function : SlotFunction
  pub condition : ℕ
  pub abort_to : ℕ
  pub is_function : slice_get slots.funcs guard.func ≡ Some function
  pub is_item : slice_get function.code guard.item ≡ Some (Guard condition abort_to)
  pub is_word : guard.word ≡ entry_at homes slots guard.func guard.item + guard_front_size (homes guard.func) function guard.item condition abort_to

-- ---- images

-- The image of code over slots, for runs under these limits: each part is at its place.
pub record IsLaid (homes : ℕ → FunctionHomes) (slots : Slots) (limits : Limits) (image : Image) : Type 0 where
  pub is : IsImageOf homes slots limits image
  -- the head, and the end of the program in it
  pub head : HasAt image 0 (head_words limits (main_moves homes slots) (start_at homes slots slots.main))
  pub ends : HasAt image (end_start homes slots) (fault_words 0)
  -- a function begins with the words that keep the way back; its items follow, and then the words that leave it
  pub begins : (f : ℕ) (g : SlotFunction) → slice_get slots.funcs f ≡ Some g → HasAt image (start_at homes slots f) (keep_way_words (homes f))
  pub first : (f : ℕ) (g : SlotFunction) → slice_get slots.funcs f ≡ Some g → entry_at homes slots f 0 ≡ start_at homes slots f + keep_way_size (homes f)
  pub items : (f : ℕ) (g : SlotFunction) (point : ℕ) (item : SlotItem) → slice_get slots.funcs f ≡ Some g → slice_get g.code point ≡ Some item →
      ItemAt image (homes f) (start_at homes slots) (entry_at homes slots f) g point (entry_at homes slots f point) item
  pub next : (f : ℕ) (g : SlotFunction) (point : ℕ) (item : SlotItem) → slice_get slots.funcs f ≡ Some g → slice_get g.code point ≡ Some item →
      entry_at homes slots f (suc point) ≡ entry_at homes slots f point + item_size (homes f) g point item
  pub leaves : (f : ℕ) (g : SlotFunction) (point : ℕ) → slice_get slots.funcs f ≡ Some g → slice_get g.code point ≡ None →
      HasAt image (entry_at homes slots f point) (leave_words (homes f))
  -- each guard of the image is one of the code, and no two guards have one word
  pub guards : (k : ℕ) (guard : GuardAt) → slice_get image.guards k ≡ Some guard → IsGuardAt homes slots guard
  pub apart : (a b : GuardAt) → IsGuardAt homes slots a → IsGuardAt homes slots b → a.word ≡ b.word → a ≡ b
  -- every place in it is one of at most 250,000 words, and the stack has room for the frames
  pub few_starts : (f : ℕ) → start_at homes slots f ≤ most_words
  pub few_entries : (f point : ℕ) → entry_at homes slots f point ≤ most_words
  pub frames : (f : ℕ) (g : SlotFunction) → slice_get slots.funcs f ≡ Some g → g.words ≤ largest_frame slots
  pub few_frames : limits.frames * largest_frame slots ≤ most_stack

-- ---- homes

-- Each slot of a function is in one of the registers in which locations may be, or in a word of the frame. A slot that is in a
-- register has an own word with a number below 256, and no two slots that are live at one point are in one register. Functions have
-- arguments in such registers too.
pub record AreHomes (g : SlotFunction) (homes : FunctionHomes) : Type 0 where
  pub within : (slot : Slot) → IsSlotOf g slot → IsHomeWithin g.words (homes.home slot)
  pub usable : (slot : Slot) → IsSlotOf g slot → IsUsable (homes.home slot)
  pub near : (slot : Slot) → IsSlotOf g slot → in_register (homes.home slot) ≡ true → slot_word g slot < 256
  pub apart : (point : ℕ) (x y : Slot) → IsSlotOf g x → IsSlotOf g y → homes.live point x ≡ true → homes.live point y ≡ true → in_register (homes.home x) ≡ true → homes.home x ≡ homes.home y → x ≡ y
  pub given : (function k : ℕ) (home : Home) → homes.given function k ≡ Some home → IsUsable home

abbrev pub HaveHomes : (ℕ → FunctionHomes) → Slots → Type 0
HaveHomes homes slots = (f : ℕ) (g : SlotFunction) → slice_get slots.funcs f ≡ Some g → AreHomes g (homes f)

-- The law: the image of an accepted program within the bounds is laid out so.
abbrev pub ImagesAreLaid : Type 0
ImagesAreLaid = (p : Prog) (homes : ℕ → FunctionHomes) (slots : Slots) (limits : Limits) (image : Image) → IsAccepted p → AreLiteralsInRange p → IsLowered p slots → IsWithin p limits →
    HaveHomes homes slots → IsImageOf homes slots limits image → IsLaid homes slots limits image
