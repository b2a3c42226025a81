-- The flow graph of a function.
use Rattle.std.specs.Prelude.{◌≡◌, ℕ, suc, ◌+◌, ◌<◌, List, [], ◌∷◌, ◌++◌, ◌==◌, filter, length, map, Option, Some, None, slice_get}
use Rattle.std.proofs.Props.{props}
use Rattle.bril_tree.specs.declared.numbered.Instr.{Instr}
use Rattle.bril_tree.specs.Edge.{branches_at}
use Rattle.bril_tree.specs.Leaving.{edge_of}
use Rattle.bril_tree.specs.Sites.{AreFirstSites, SitesFail}
use Rattle.bril_tree.specs.Walk.{IsReached}
use Rattle.bril_tree.specs.declared.edge.Edge.{Edge}

-- the edges of a point, where walks lead to it with these open sites
abbrev pub edges_at : List Instr → ℕ → Option (List ℕ) → List Edge
edges_at code point None = []
edges_at code point (Some sites) = map (edge_of sites) (branches_at code point)

-- the edges of points from one on, in order
abbrev pub edges_from : List Instr → ℕ → List (Option (List ℕ)) → List Edge
edges_from code point [] = []
edges_from code point (sites ∷ rest) = edges_at code point sites ++ edges_from code (suc point) rest

-- the edges that go to a point, in their order
abbrev pub edges_to : ℕ → List Edge → List Edge
edges_to point edges = filter (λ e. e.to == point) edges

-- for each of so many points the edges that go to it
pub record ArePreds (many : ℕ) (edges : List Edge) (preds : List (List Edge)) : Type 0 where
  pub points : length preds ≡ many
  pub at : (point : ℕ) → point < many → slice_get preds point ≡ Some (edges_to point edges)

pub ArePreds-prop : (many : ℕ) (edges : List Edge) (preds : List (List Edge)) → IsProp (ArePreds many edges preds)
ArePreds-prop many edges preds = hlevel props

-- What a graph tells: for each point the open sites of the first walk to it, the newest first, or None where no walk
-- leads there; and the edges of the points to which walks lead.
pub record GraphView : Type 0 where
  pub sites : List (Option (List ℕ))
  pub edges : List Edge

-- It is the graph of these items.
pub record IsGraphOf (code : List Instr) (graph : GraphView) : Type 0 where
  pub points : length graph.sites ≡ length code + 1
  pub reached : (point : ℕ) (sites : List ℕ) → slice_get graph.sites point ≡ Some (Some sites) → AreFirstSites code point sites
  pub unreached : (point : ℕ) → slice_get graph.sites point ≡ Some None → ¬ IsReached code point
  pub edges : graph.edges ≡ edges_from code 0 graph.sites

-- the least point at which the open sites fail
pub record IsLeastFailing (code : List Instr) (point : ℕ) : Type 0 where
  pub fails : SitesFail code point
  pub least : (earlier : ℕ) → earlier < point → ¬ SitesFail code earlier
