-- Paths of a graph whose arcs may have labels.
use Rattle.std.specs.Prelude.{◌≡◌, ◌==◌, ℕ, ◌<◌, List, [], ◌∷◌, Bool, true, not, Option, Some, None}
use Rattle.std.specs.List.{Contains}
use Rattle.graph_search.specs.declared.graph.Arc.{Arc}

-- nodes, numbered from 0, and the arcs between them
pub record GraphView : Type 0 where
  pub nodes : ℕ
  pub arcs : List Arc

-- both ends of an arc are nodes
abbrev pub IsBetween : ℕ → Arc → Type 0
IsBetween nodes arc = (arc.from < nodes) × (arc.to < nodes)

-- whether it is another label than this one, or none
abbrev pub is_other : ℕ → Option ℕ → Bool
is_other label None = true
is_other label (Some other) = not (other == label)

-- the gate that is shut to the arcs with this label
abbrev pub other_than : ℕ → Arc → Bool
other_than label arc = is_other label arc.label

-- an arc that the gate opens goes from a node to another
pub record Leads (arcs : List Arc) (gate : Arc → Bool) (from to : ℕ) : Type 0 where
  pub arc : Arc
  pub there : Contains arcs arc
  pub leaves : arc.from ≡ from
  pub enters : arc.to ≡ to
  pub passes : gate arc ≡ true

-- the nodes, the newest first, are a path from a seed that goes on to the node
abbrev pub IsPath : List Arc → List ℕ → (Arc → Bool) → ℕ → List ℕ → Type 0
IsPath arcs seeds gate node [] = Contains seeds node
IsPath arcs seeds gate node (newest ∷ path) = Leads arcs gate newest node × IsPath arcs seeds gate newest path

-- a path leads from a seed to the node, over arcs that the gate opens
pub record IsReached (arcs : List Arc) (seeds : List ℕ) (gate : Arc → Bool) (node : ℕ) : Type 0 where
  pub path : List ℕ
  pub is : IsPath arcs seeds gate node path
