-- The labels at which locations are live, as a list of pairs; and the first points that assign a location, in an array by the heads
-- of blocks.
use Rattle.std.specs.Prelude.{◌≡◌, ◌↔◌, ℕ, ◌<◌, List, [], ◌∷◌, ◌++◌, length, map, slice_index, slice_set}
use Rattle.std.specs.List.{Contains}
use Rattle.bril_tree.specs.declared.numbered.Instr.{Instr}
use Rattle.bril_tree.specs.Operand.{Location}
use Rattle.flow_graph.specs.Location.{number_of}
use Rattle.flow_graph.specs.declared.reads.Access.{Access}
use Rattle.ssa_search.specs.placing.Blocks.{IsLiveLabel}

-- the location of the number is live at the reached label
pub record IsLiveNumber (code : List Instr) (k x : ℕ) : Type 0 where
  pub location : Location
  pub number : number_of location ≡ x
  pub live : IsLiveLabel code location k

-- a label and a location that is live there, by its label: the location's number stands in the place of the item
abbrev pub found_at : ℕ → ℕ → Access
found_at x k = record { item = x; location = k }

-- the labels at which one location is live were added
pub record AddsFound (code : List Instr) (x : ℕ) (old new : List Access) : Type 0 where
  pub labels : List ℕ
  pub grew : new ≡ old ++ map (found_at x) labels
  pub exact : (k : ℕ) → Contains labels k ↔ IsLiveNumber code k x

-- the pairs of the locations with numbers below a bound
pub record AreFoundBefore (code : List Instr) (bound : ℕ) (found : List Access) : Type 0 where
  pub there : (k x : ℕ) → x < bound → IsLiveNumber code k x → Contains found (found_at x k)
  pub only : (access : Access) → Contains found access → IsLiveNumber code access.location access.item × (access.item < bound)

-- ---- an array that is written at the heads of some points

abbrev pub with_values : (ℕ → ℕ) → List ℕ → List ℕ → List ℕ → List ℕ
with_values value heads [] first = first
with_values value heads (point ∷ points) first = with_values value heads points (slice_set first (slice_index heads point) (value point))

-- it has nothing below any point
abbrev pub IsBlank : List ℕ → Type 0
IsBlank first = (i : ℕ) → i < length first → slice_index first i ≡ 4294967295
