-- Accesses of locations by items, as a list.
use Rattle.std.specs.Prelude.{ℕ, List, map}
use Rattle.std.specs.List.{Contains}
use Rattle.flow_graph.specs.declared.reads.Access.{Access}

-- the numbers of the locations, access by access
abbrev pub locations_of : List Access → List ℕ
locations_of list = map (λ access. access.location) list

-- the item accesses the location of the number
abbrev pub Accesses : List Access → (location item : ℕ) → Type 0
Accesses list location item = Contains list (record { item = item; location = location })

-- accesses, and a bound of the numbers of their locations
pub record AccessesView : Type 0 where
  pub locations : ℕ
  pub list : List Access
