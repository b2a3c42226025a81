-- Where the locations of a program are while its image runs, and when homes serve.
use Rattle.std.specs.Prelude.{◌≡◌, ◌↔◌, ℕ, Bool, true, List, Option, Some, None, slice_get}
use Rattle.bril_tree.specs.declared.home.Home.{Home}
use Rattle.bril_tree.specs.declared.numbered.Instr.{Instr}
use Rattle.bril_tree.specs.declared.numbered_function.Func.{Func}
use Rattle.bril_tree.specs.declared.program.Prog.{Prog}
use Rattle.bril_tree.specs.Live.{IsLive}
use Rattle.bril_tree.specs.Operand.{Location}
use Rattle.placement_laws.specs.Homes.{IsHomeOf, IsSlotIn, slot_of}
use Rattle.placement_laws.specs.Placed.{IsPlaced}
use Rattle.placement_laws.specs.Saved.{HasAllSaved}
use Rattle.rv64_emit_laws.specs.layout.Homes.{FunctionHomes, given_home, in_register}
use Rattle.slot_code.specs.declared.item.SlotItem.TheVariants.{Call}
use Rattle.slot_code.specs.declared.slots.SlotFunction.{SlotFunction}
use Rattle.slot_code.specs.declared.slots.Slots.{Slots}

-- a location is at the home of its slot, the speculation of a site keeps it where it keeps that, and it is said to be live at a
-- point where that is
abbrev pub home_at : FunctionHomes → Location → Home
home_at homes location = homes.home (slot_of location)

abbrev pub saved_at : FunctionHomes → ℕ → Location → Bool
saved_at homes site location = homes.saved site (slot_of location)

abbrev pub live_at : FunctionHomes → ℕ → Location → Bool
live_at homes point location = homes.live point (slot_of location)

-- so in each function of a program
abbrev pub homes_of : (ℕ → FunctionHomes) → ℕ → Location → Home
homes_of homes f location = home_at (homes f) location

-- The homes serve a function of so many arguments: no home is lost that is needed, all is kept that a guard may have to give
-- back, each location is in its own word of the frame or in a register, it is told what is live, no two locations that are live at
-- one point, reachable or not, are in one register, and a leaf calls nothing.
pub record HomesServe (code : List Instr) (args : ℕ) (g : SlotFunction) (homes : FunctionHomes) : Type 0 where
  pub placed : IsPlaced code args (home_at homes) (saved_at homes)
  pub saved : HasAllSaved code (saved_at homes)
  pub own : (x : Location) → IsSlotIn g x → IsHomeOf g x (home_at homes x)
  pub live : (point : ℕ) (x : Location) → (live_at homes point x ≡ true) ↔ IsLive code x point
  pub registers : (point : ℕ) (x y : Location) → IsLive code x point → IsLive code y point → in_register (home_at homes x) ≡ true → home_at homes x ≡ home_at homes y → x ≡ y
  pub leaf : homes.leaf ≡ true → (point : ℕ) (dest : Option ℕ) (function : ℕ) (args : List ℕ) → slice_get g.code point ≡ Some (Call dest function args) → ⊥

-- They serve each function of a program, and tell where each has its arguments as it begins.
pub record AllHomesServe (homes : ℕ → FunctionHomes) (p : Prog) (slots : Slots) : Type 0 where
  pub each : (k : ℕ) (f : Func) (g : SlotFunction) → slice_get p.funcs k ≡ Some f → slice_get slots.funcs k ≡ Some g → HomesServe f.code f.args g (homes k)
  pub given : (f function k : ℕ) → (homes f).given function k ≡ given_home (homes function) k
  pub absent : (f function k : ℕ) → slice_get slots.funcs function ≡ None → (homes f).given function k ≡ None
