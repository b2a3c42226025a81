-- When the machine is at the words of items exactly where the program is at the items, by the count that tells what the image does.
use Rattle.std.specs.Prelude.{◌≡◌, ℕ, ◌*◌, ◌<◌, ◌≤◌, List, Some, None, slice_get}
use Rattle.bril_tree.specs.declared.home.Home.{Home}
use Rattle.bril_tree.specs.declared.limits.Limits.{Limits}
use Rattle.bril_tree.specs.declared.program.Prog.{Prog}
use Rattle.bril_tree.specs.declared.value.Value.{Value}
use Rattle.bril_tree.specs.Operand.{Location}
use Rattle.bril_tree.specs.Run.{state_after}
use Rattle.rv64_image_laws.specs.Implements.{ImplementsRun, image_after}
use Rattle.rv64_image_laws.specs.Stands.{StandsAt}
use Rattle.rv64_emit_laws.specs.layout.Homes.{FunctionHomes}
use Rattle.rv64_emit_laws.specs.layout.Image.{entry_at}
use Rattle.rv64_emit_laws.specs.layout.Items.{item_size}
use Rattle.rv64_words.specs.declared.image.Image.{Image}
use Rattle.rv64_words.specs.State as rv64
use Rattle.slot_code.specs.declared.item.SlotItem.{SlotItem}
use Rattle.slot_code.specs.declared.slots.SlotFunction.{SlotFunction}
use Rattle.slot_code.specs.declared.slots.Slots.{Slots}

-- The machine runs, and is before the first word of the item at this point of this function: the item has words.
pub record IsEntered (homes : ℕ → FunctionHomes) (slots : Slots) (t : rv64.State) (f point : ℕ) : Type 0 where
  pub function : SlotFunction
  pub item : SlotItem
  pub is_function : slice_get slots.funcs f ≡ Some function
  pub is_item : slice_get function.code point ≡ Some item
  pub has_words : 1 ≤ item_size (homes f) function point item
  pub running : t.stopped ≡ None
  pub at_entry : t.pc ≡ 4 * entry_at homes slots f point

-- The item at this point of this function has words.
pub record IsFullItem (homes : ℕ → FunctionHomes) (slots : Slots) (f point : ℕ) : Type 0 where
  pub function : SlotFunction
  pub item : SlotItem
  pub is_function : slice_get slots.funcs f ≡ Some function
  pub is_item : slice_get function.code point ≡ Some item
  pub has_words : 1 ≤ item_size (homes f) function point item

-- One count tells what the image does, and where the machine is at items.
pub record MeetsItems (locations : ℕ → Location → Home) (homes : ℕ → FunctionHomes) (slots : Slots) (image : Image) (p : Prog) (limits : Limits) (args : List Value) : Type 0 where
  pub run : ImplementsRun locations image p limits args
  -- where the program is at an item with words, the machine is then before the first one
  pub there : (n f point : ℕ) → StandsAt (state_after p limits args n) f point → IsFullItem homes slots f point → IsEntered homes slots (image_after image limits args (run.count n)) f point
  -- a later one is met after more words
  pub rising : (n m f i g j : ℕ) → n < m → StandsAt (state_after p limits args n) f i → IsFullItem homes slots f i → StandsAt (state_after p limits args m) g j → IsFullItem homes slots g j → run.count n < run.count m
  -- and the machine is before the first word of an item at no other moment
  pub only : (m f point : ℕ) → IsEntered homes slots (image_after image limits args m) f point → (n : ℕ) × (run.count n ≡ m) × StandsAt (state_after p limits args n) f point
