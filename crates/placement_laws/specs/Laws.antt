-- Laws of homes, and of what is saved, in the functions of accepted programs.
use Rattle.std.specs.Prelude.{◌≡◌, ◌↔◌, ℕ, Bool, List, Some, slice_get}
use Rattle.std.specs.List.{Contains}
use Rattle.bril_tree.specs.declared.home.Home.{Home}
use Rattle.bril_tree.specs.declared.numbered.Instr.{Instr}
use Rattle.bril_tree.specs.declared.numbered_function.Func.{Func}
use Rattle.bril_tree.specs.declared.program.Prog.{Prog}
use Rattle.bril_tree.specs.Accepted.{IsAccepted}
use Rattle.bril_tree.specs.Assigned.{assigns_at}
use Rattle.bril_tree.specs.Live.{IsLive}
use Rattle.bril_tree.specs.Operand.{Location}
use Rattle.graph_search.specs.declared.graph.Arc.{Arc}
use Rattle.graph_search.specs.Path.{IsReached, other_than}
use Rattle.slot_code.specs.declared.slots.SlotFunction.{SlotFunction}
use Rattle.slot_code.specs.Lowered.{IsLoweredFunction}
use Rattle.placement_laws.specs.Homes.{HaveOwnHomes, IsSlotIn}
use Rattle.placement_laws.specs.Open.{LeadsOut, site_left}
use Rattle.placement_laws.specs.Placed.{IsPlaced, LiveApart}
use Rattle.placement_laws.specs.Saved.{IsSaved}
use Rattle.placement_laws.specs.Search.{AreGuards, AreOpenArcs}
use Rattle.placement_laws.specs.Spans.{AreSeparate, AreSpans, Span}

-- homes that only locations share whose spans don't meet, which is so of homes of which no two are one
abbrev pub SeparateHomesAreApart : Type 0
SeparateHomesAreApart = (p : Prog) (k : ℕ) (f : Func) (g : SlotFunction) → IsAccepted p → slice_get p.funcs k ≡ Some f → IsLoweredFunction f g →
    (homes : Location → Home) (spans : Location → Span) → AreSpans f.code f.args spans → AreSeparate (IsSlotIn g) spans homes → LiveApart f.code homes

-- homes that only locations share whose spans don't meet
abbrev pub SeparateHomesArePlaced : Type 0
SeparateHomesArePlaced = (p : Prog) (k : ℕ) (f : Func) (g : SlotFunction) → IsAccepted p → slice_get p.funcs k ≡ Some f → IsLoweredFunction f g →
    (homes : Location → Home) (saved : ℕ → Location → Bool) (spans : Location → Span) → AreSpans f.code f.args spans → AreSeparate (IsSlotIn g) spans homes → IsPlaced f.code f.args homes saved

-- homes of which no two are one
abbrev pub DifferentHomesArePlaced : Type 0
DifferentHomesArePlaced = (p : Prog) (k : ℕ) (f : Func) (g : SlotFunction) → IsAccepted p → slice_get p.funcs k ≡ Some f → IsLoweredFunction f g →
    (homes : Location → Home) (saved : ℕ → Location → Bool) → HaveOwnHomes g homes → IsPlaced f.code f.args homes saved

-- some item assigns the location from which a walk, on which the site stays open, leads to a guard of that site where it is live
pub record IsAssignedInside (code : List Instr) (site : ℕ) (x : Location) : Type 0 where
  pub level : ℕ
  pub label : ℕ
  pub point : ℕ
  pub leads : LeadsOut code level label point
  pub left : site_left code level leads.way leads.out ≡ site
  pub assigns : Contains (assigns_at (slice_get code point)) x
  pub live : IsLive code x label

-- exactly those locations are saved
abbrev pub SavedAreAssignedInside : Type 0
SavedAreAssignedInside = (p : Prog) (k : ℕ) (f : Func) → IsAccepted p → slice_get p.funcs k ≡ Some f →
    (site : ℕ) (x : Location) → IsSaved f.code site x ↔ IsAssignedInside f.code site x

-- a search back from the guards of a label finds exactly the points from which such walks lead to them
abbrev pub ReachedLeadOut : Type 0
ReachedLeadOut = (code : List Instr) (level label barred : ℕ) (arcs : List Arc) (guards : List ℕ) → AreOpenArcs code level arcs → AreGuards code level label guards →
    (point : ℕ) → IsReached arcs guards (other_than barred) point ↔ LeadsOut code level label point
