-- What placement promises of a program.
use Rattle.std.specs.Prelude.{◌≡◌, ◌↔◌, ℕ, ◌-◌, ◌^◌, ◌<◌, ◌≤◌, Bool, IsTrue, List, Some, length, slice_get}
use Rattle.bril_tree.specs.declared.numbered.Instr.{Instr}
use Rattle.bril_tree.specs.declared.numbered_function.Func.{Func}
use Rattle.bril_tree.specs.declared.program.Prog.{Prog}
use Rattle.bril_tree.specs.Accepted.{IsAccepted}
use Rattle.bril_tree.specs.FrameWords.{location_count}
use Rattle.bril_tree.specs.Operand.{Location}
use Rattle.flow_graph.specs.Graph.{IsGraphOf}
use Rattle.flow_graph.specs.Location.{number_of}
use Rattle.live_sets.specs.declared.live.Live.{Live}
use Rattle.live_sets.specs.Liveness.{TellsLive}
use Rattle.placement_laws.specs.Homes.{IsHomeOf, IsInRegister, IsSlotIn}
use Rattle.placement_laws.specs.Placed.{IsPlaced, LiveApart}
use Rattle.placement_laws.specs.Saved.{IsSaved, TellsSaved}
use Rattle.slot_code.specs.declared.slots.SlotFunction.{SlotFunction}
use Rattle.slot_code.specs.declared.slots.Slots.{Slots}
use Rattle.slot_code.specs.Lowered.{IsLoweredFunction}
use Rattle.shadow_place.specs.declared.analyses.Analyses.{Analyses}
use Rattle.shadow_place.specs.declared.placed.FunctionHomes.{FunctionHomes}
use Rattle.shadow_place.specs.declared.placed.Placed.{Placed}
use Rattle.shadow_place.specs.Registers.{home_registers}
use Rattle.shadow_place.specs.Tables.{home_in, home_of, is_marked_if, is_saved_in, is_saved_of}

-- the table is that of the function
abbrev pub TellsLiveIn : Func → Live → Type 0
TellsLiveIn f live = TellsLive f.code live

-- A function of an accepted program, and its code over slots.
pub record IsAcceptedLowered (f : Func) (g : SlotFunction) : Type 0 where
  pub prog : Prog
  pub number : ℕ
  pub accepted : IsAccepted prog
  pub there : slice_get prog.funcs number ≡ Some f
  pub lowered : IsLoweredFunction f g

-- Its graph, its code over slots, and what is live in it are those of a function of an accepted program.
pub record AreAnalyses (a : Analyses) : Type 0 where
  pub graph : IsGraphOf a.func.now.code a.graph.now
  pub lowered : IsAcceptedLowered a.func.now a.lowered.now
  pub few : length a.func.now.code < 2 ^ 32 - 1
  pub live : TellsLive a.func.now.code a.live.now

-- ---- one function

-- the rows, one for each point or none at all, mark exactly the locations that the speculations of `speculate` items save
abbrev pub AreSavedRows : List Instr → List (List Bool) → Type 0
AreSavedRows code rows = (site : ℕ) (x : Location) → IsTrue (is_marked_if (slice_get rows site) (number_of x)) ↔ IsSaved code site x

-- The homes and what is saved are a placement of the function.
pub record IsPlacement (f : Func) (g : SlotFunction) (homes : FunctionHomes) : Type 0 where
  pub apart : IsPlaced f.code f.args (home_of homes) (is_saved_of homes)
  pub live : LiveApart f.code (home_of homes)
  pub saved : TellsSaved f.code (is_saved_of homes)
  pub own : (x : Location) → IsSlotIn g x → IsHomeOf g x (home_of homes x)
  pub registers : location_count f ≤ home_registers → (x : Location) → IsSlotIn g x → IsInRegister (home_of homes x)

-- ---- a program

-- No home is lost that is needed: two locations share one only where no item assigns one of them while the other is live, or
-- is live at the label of a guard and not saved, and where no point needs both.
abbrev pub HomesAreApart : Prog → Placed → Type 0
HomesAreApart p placed = (k : ℕ) (f : Func) → slice_get p.funcs k ≡ Some f → IsPlaced f.code f.args (home_in placed k) (is_saved_in placed k)

-- no two locations of a function that are live at one of its points, reachable or not, have one home
abbrev pub LiveAreApart : Prog → Placed → Type 0
LiveAreApart p placed = (k : ℕ) (f : Func) → slice_get p.funcs k ≡ Some f → LiveApart f.code (home_in placed k)

-- exactly those locations have a shadow word of a speculation that it saves
abbrev pub TellsAllSaved : Prog → Placed → Type 0
TellsAllSaved p placed = (k : ℕ) (f : Func) → slice_get p.funcs k ≡ Some f → TellsSaved f.code (is_saved_in placed k)

-- each location of a function is in its own word of the frame, or in a register that is free for homes
abbrev pub HomesAreOwn : Slots → Placed → Type 0
HomesAreOwn slots placed = (k : ℕ) (g : SlotFunction) (x : Location) → slice_get slots.funcs k ≡ Some g → IsSlotIn g x → IsHomeOf g x (home_in placed k x)

-- a function that has no more locations than there are such registers has all of them in registers
abbrev pub FewAreInRegisters : Prog → Slots → Placed → Type 0
FewAreInRegisters p slots placed = (k : ℕ) (f : Func) (g : SlotFunction) (x : Location) → slice_get p.funcs k ≡ Some f → slice_get slots.funcs k ≡ Some g → location_count f ≤ home_registers → IsSlotIn g x → IsInRegister (home_in placed k x)
