-- A program, its code over slots and its image, with arguments for a run: what all proofs here are about.
use Rattle.std.proofs.Common.{◌≡◌, ℕ, suc, ◌+◌, List, Some}
use Rattle.std.specs.Prelude.{slice_get}
use Rattle.bril_tree.specs.declared.limits.Limits.{Limits}
use Rattle.bril_tree.specs.declared.program.Prog.{Prog}
use Rattle.bril_tree.specs.declared.value.Value.{Value}
use Rattle.bril_tree.specs.Accepted.{IsAccepted}
use Rattle.program_numbers.specs.Cost.{IsCost}
use Rattle.bril_tree.specs.Literals.{AreLiteralsInRange}
use Rattle.bril_tree.specs.Run.{FitMain}
use Rattle.rv64_emit_laws.specs.layout.Homes.{FunctionHomes}
use Rattle.rv64_emit_laws.specs.layout.Image.{entry_at, largest_frame, start_at}
use Rattle.rv64_emit_laws.specs.layout.Items.{item_size}
use Rattle.rv64_emit_laws.specs.layout.Laid.{IsLaid, ItemAt}
use Rattle.rv64_words.specs.declared.image.Image.{Image}
use Rattle.rv64_words.specs.Region.{Sizes, sizes_of}
use Rattle.slot_code.specs.declared.item.SlotItem.{SlotItem}
use Rattle.slot_code.specs.declared.slots.SlotFunction.{SlotFunction}
use Rattle.slot_code.specs.declared.slots.Slots.{Slots}
use Rattle.slot_code.specs.Lowered.{IsLowered}
use Rattle.rv64_emit_laws.specs.Homes.{AllHomesServe}

pub record Setting : Type 0 where
  pub p : Prog
  pub homes : ℕ → FunctionHomes
  pub slots : Slots
  pub image : Image
  pub limits : Limits
  pub args : List Value
  pub cost : ℕ
  pub accepted : IsAccepted p
  pub literals : AreLiteralsInRange p
  pub lowered : IsLowered p slots
  pub serve : AllHomesServe homes p slots
  pub laid : IsLaid homes slots limits image
  pub fit : FitMain p args
  pub is_cost : IsCost p cost

-- the machine's memory
abbrev pub sizes : Setting → Sizes
sizes S = sizes_of S.image S.limits.cells

-- where the words of an item are, and where a function begins
abbrev pub entry_of : Setting → ℕ → ℕ → ℕ
entry_of S f point = entry_at S.homes S.slots f point

abbrev pub start_of : Setting → ℕ → ℕ
start_of S f = start_at S.homes S.slots f

-- an item has these words, and the next one begins behind them
module _ (S : Setting) (f : ℕ) (g : SlotFunction) (point : ℕ) (item : SlotItem) (there : slice_get S.slots.funcs f ≡ Some g) (here : slice_get g.code point ≡ Some item) where
  pub its_words : ItemAt S.image (S.homes f) (start_of S) (entry_of S f) g point (entry_of S f point) item
  its_words = S.laid.items f g point item there here

  pub next_entry : entry_of S f (suc point) ≡ entry_of S f point + item_size (S.homes f) g point item
  next_entry = S.laid.next f g point item there here

-- the words of the largest frame
abbrev pub widest : Setting → ℕ
widest S = largest_frame S.slots
