-- The `get`s that are wanted in a function, as they are kept: in one list by their labels, and where each label's begin.
use Rattle.std.specs.Prelude.{◌≡◌, ℕ, suc, ◌+◌, ◌*◌, ◌^◌, ◌<◌, ◌==◌, List, [], ◌∷◌, length, Option, Some, None, slice_get, slice_index, slice_range, if◌then◌else◌}
use Rattle.std.specs.List.{All, Contains}
use Rattle.bril_tree.specs.declared.numbered_function.Func.{Func}
use Rattle.bril_tree.specs.Operand.{Location}
use Rattle.flow_graph.specs.Location.{number_of}
use Rattle.ssa_search.specs.declared.renaming.now.WantedGet.{WantedGet}
use Rattle.ssa_search.specs.renaming.Gets.{AreGetsOf}
use Rattle.ssa_laws.specs.reaching_definitions.Told.{AreWanted}

-- the `get`s, and for each point where those behind it begin in the list
pub record WantsView : Type 0 where
  pub starts : List ℕ
  pub list : List WantedGet

-- the `get`s behind a point
abbrev pub row_of : WantsView → ℕ → List WantedGet
row_of v k = slice_range v.list (slice_index v.starts k) (slice_index v.starts (suc k))

-- the definition of the first of these `get`s that is one of the location of a number
abbrev pub definition_in : List WantedGet → ℕ → Option ℕ
definition_in [] location = None
definition_in (get ∷ gets) location = if get.location == location then Some get.definition else definition_in gets location

-- the number of the `get` of a location behind a label, as the tables of a function take it
abbrev pub gets_of : WantsView → ℕ → Location → Option ℕ
gets_of v k a = definition_in (row_of v k) (number_of a)

-- They are the `get`s that are wanted in the function: one for each location that is live at a reached label.
pub record AreWantsOf (F : Func) (v : WantsView) : Type 0 where
  pub wanted : AreWanted F.code F.args (gets_of v)
  -- a start for each item, and the end
  pub points : length v.starts ≡ length F.code + 1
  pub rows : (k : ℕ) → AreGetsOf (gets_of v k) (row_of v k)
  -- definitions are numbered in the order of the list, behind those of arguments and items
  pub numbered : (t : ℕ) (get : WantedGet) → slice_get v.list t ≡ Some get → get.definition ≡ F.args + length F.code + t
  pub few : F.args + length F.code + length v.list < 2 ^ 32
  -- each is behind some label, and only these are
  pub placed : (t : ℕ) (get : WantedGet) → slice_get v.list t ≡ Some get → (k : ℕ) × Contains (row_of v k) get
  pub listed : (k : ℕ) (get : WantedGet) → Contains (row_of v k) get → (t : ℕ) × (slice_get v.list t ≡ Some get)
  pub locations : All (λ get. get.location < 2 * length F.vars) v.list
