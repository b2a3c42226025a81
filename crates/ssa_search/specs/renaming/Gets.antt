-- The `get`s behind a label, as a list.
use Rattle.std.specs.Prelude.{◌≡◌, ℕ, List, [], ◌∷◌, Option, Some, slice_set}
use Rattle.std.specs.List.{Contains}
use Rattle.bril_tree.specs.Operand.{Location}
use Rattle.flow_graph.specs.Location.{number_of}
use Rattle.ssa_search.specs.declared.renaming.now.WantedGet.{WantedGet}

-- the list has exactly these definitions, each with the number of its location
pub record AreGetsOf (got : Location → Option ℕ) (gets : List WantedGet) : Type 0 where
  pub there : (a : Location) (y : ℕ) → got a ≡ Some y → Contains gets (record { location = number_of a; definition = y })
  pub only : (get : WantedGet) → Contains gets get → (a : Location) × (get.location ≡ number_of a) × (got a ≡ Some get.definition)

-- the array behind them
abbrev pub with_gets : List WantedGet → List ℕ → List ℕ
with_gets [] now = now
with_gets (get ∷ gets) now = with_gets gets (slice_set now get.location get.definition)
