-- Spans of points, by numbers.
use Rattle.std.specs.Prelude.{◌≡◌, ◌≢◌, ◌⊎◌, ℕ, ◌<◌, ◌≤◌, IsTrue, List, Option, Some, length, map, slice_get, slice_index}
use Rattle.std.specs.List.{Contains}
use Rattle.bril_tree.specs.declared.edge.Edge.{Edge}
use Rattle.bril_tree.specs.declared.numbered.Instr.{Instr}
use Rattle.bril_tree.specs.Assigned.{assigns_at}
use Rattle.bril_tree.specs.Home.{is_home_register}
use Rattle.bril_tree.specs.Operand.{Location}
use Rattle.flow_graph.specs.Location.{number_of}
use Rattle.live_sets.specs.declared.live.Live.{Live}
use Rattle.live_sets.specs.Liveness.{is_live}
use Rattle.placement_laws.specs.Homes.{number_in}
use Rattle.slot_code.specs.declared.item.Slot.{Slot}
use Rattle.slot_code.specs.declared.slots.SlotFunction.{SlotFunction}
use Rattle.slot_code.specs.Flow.{slot_location}
use Rattle.shadow_place.specs.declared.spans.Span.{Span}

-- the span has the point
abbrev pub IsInside : Span → ℕ → Type 0
IsInside span point = (span.first ≤ point) × (point ≤ span.last)

-- the span of this number has the point, where there is one
abbrev pub IsCovered : List Span → ℕ → ℕ → Type 0
IsCovered spans number point = (span : Span) → slice_get spans number ≡ Some span → IsInside span point

-- The spans grew, and have now the points of numbers that meet a condition.
pub record Widens (P : ℕ → ℕ → Type 0) (old new : List Span) : Type 0 where
  pub long : length new ≡ length old
  pub kept : (number point : ℕ) → IsCovered old number point → IsCovered new number point
  pub all : (number point : ℕ) → P number point → IsCovered new number point

-- the site is open at the point
abbrev pub IsSiteAt : List (Option (List ℕ)) → ℕ → ℕ → ℕ → Type 0
IsSiteAt sites at site point = (point ≡ at) × ((opened : List ℕ) × (slice_get sites at ≡ Some (Some opened)) × Contains opened site)

-- each site has the points before an end where it is open
abbrev pub HaveSites : List (Option (List ℕ)) → ℕ → List Span → Type 0
HaveSites sites end spans = (at site point : ℕ) → at < end → IsSiteAt sites at site point → IsCovered spans site point

-- the slot's location, by the numbers of locations, is live at the point
abbrev pub IsLiveSlot : Live → List ℕ → ℕ → ℕ → Type 0
IsLiveSlot live numbers point slot = (x : Location) × (slice_get numbers slot ≡ Some (number_of x)) × IsTrue (is_live live x point)

-- the slot's location is live at a site before an end, whose span has the point
abbrev pub IsOpenSlot : Live → List ℕ → List Span → ℕ → ℕ → ℕ → Type 0
IsOpenSlot live numbers sites end slot point = (site : ℕ) × (span : Span) × (site < end) × (slice_get sites site ≡ Some span) × IsInside span point × IsLiveSlot live numbers site slot

-- the numbers of these slots' locations
abbrev pub numbers_of : List Slot → List ℕ
numbers_of slots = map (λ slot. number_of (slot_location slot)) slots

-- the slot of a location that the item of an edge assigns, at the edge's end
abbrev pub IsAssignedBy : List Instr → SlotFunction → Edge → ℕ → ℕ → Type 0
IsAssignedBy code g edge slot point = (point ≡ edge.to) × ((x : Location) × Contains (assigns_at (slice_get code edge.from)) x × (slot ≡ number_in g x))

-- The spans have all points at which a slot needs a home, for those that have a span: where it is live, behind items that assign
-- it, at the start if it is an argument, and wherever a site is open at which it is live.
pub record HaveNeeds (code : List Instr) (args : ℕ) (g : SlotFunction) (live : Live) (numbers : List ℕ) (edges : List Edge) (sites : List (Option (List ℕ))) (spans : List Span) : Type 0 where
  pub alive : (slot point : ℕ) → IsLiveSlot live numbers point slot → IsCovered spans slot point
  pub assigned : (edge : Edge) (slot point : ℕ) → Contains edges edge → IsAssignedBy code g edge slot point → IsCovered spans slot point
  pub arguments : (slot : ℕ) → slot < args → IsCovered spans slot 0
  pub kept : (at site point slot : ℕ) → at < length sites → site < length sites → IsSiteAt sites at site point → IsLiveSlot live numbers site slot → IsCovered spans slot point

-- ---- registers

-- no point is in both
abbrev pub AreApart : Span → Span → Type 0
AreApart a b = (a.last < b.first) ⊎ (b.last < a.first)

-- the other slots below an end that have the register are apart from the slot
abbrev pub IsFreeBelow : List ℕ → List Span → ℕ → ℕ → ℕ → Type 0
IsFreeBelow registers spans slot register end = (k : ℕ) (a b : Span) → k < end → k ≢ slot → slice_index registers k ≡ register → slice_get spans k ≡ Some a → slice_get spans slot ≡ Some b → AreApart a b

-- a slot may have the register: it is none, or a home register that is free
abbrev pub MayHave : List ℕ → List Span → ℕ → ℕ → Type 0
MayHave registers spans slot register = (register ≡ 0) ⊎ (IsTrue (is_home_register register) × IsFreeBelow registers spans slot register (length registers))

-- slots that share a register are apart, and each register is a home
pub record AreShared (registers : List ℕ) (spans : List Span) : Type 0 where
  pub long : length registers ≡ length spans
  pub homes : (slot : ℕ) → slice_index registers slot ≢ 0 → IsTrue (is_home_register (slice_index registers slot))
  pub apart : (j k : ℕ) (a b : Span) → j ≢ k → slice_index registers j ≢ 0 → slice_index registers j ≡ slice_index registers k → slice_get spans j ≡ Some a → slice_get spans k ≡ Some b → AreApart a b
