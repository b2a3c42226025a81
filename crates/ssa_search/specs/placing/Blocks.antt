-- The blocks of a function as a graph, from a label back to the label of a block from which an edge to it leaves, and over which
-- of its arcs the search for a location goes.
use Rattle.std.specs.Prelude.{◌≡◌, zero, ◌↔◌, ℕ, suc, Bool, true, nat_lt, List, [], ◌∷◌, Option, Some, None, slice_get, slice_index}
use Rattle.std.specs.List.{Contains}
use Rattle.bril_tree.specs.declared.numbered.Instr.{Instr}
use Rattle.bril_tree.specs.declared.edge.Edge.{Edge}
use Rattle.bril_tree.specs.Edge.{Branch}
use Rattle.bril_tree.specs.Leaving.{Leaves}
use Rattle.bril_tree.specs.Live.{IsLive}
use Rattle.bril_tree.specs.Operand.{Location, reads_of}
use Rattle.bril_tree.specs.Walk.{IsReached}
use Rattle.graph_search.specs.declared.graph.Arc.{Arc}
use Rattle.ssa_laws.specs.reaching_definitions.Told.{LeadToLabels}
use Rattle.ssa_search.specs.placing.Wanted.{is_label, head_of, Unassigned}

-- a point that is before the first one that assigns the location
abbrev pub passes_to : ℕ → Option ℕ → Bool
passes_to first None = true
passes_to first (Some point) = nat_lt point first

-- the block of the arc's end doesn't assign the location before the point where the edge leaves, nor there
abbrev pub opens_at : List ℕ → Arc → Bool
opens_at first arc = passes_to (slice_index first arc.to) arc.label

-- the head of the point before this one
abbrev pub head_before : List Instr → ℕ → ℕ
head_before code zero = 0
head_before code (suc i) = head_of code i

-- the arc of an edge that leaves at a point
abbrev pub block_arc : List Instr → ℕ → ℕ → Arc
block_arc code k p = record { from = k; to = head_of code p; label = Some p }

-- an edge leaves at the point, from a block with a label, to the label
pub record Enters (code : List Instr) (k p : ℕ) : Type 0 where
  pub reached : IsReached code p
  pub label : is_label (slice_get code k) ≡ true
  pub from_label : is_label (slice_get code (head_of code p)) ≡ true
  pub branch : Branch
  pub leaves : Leaves code p branch
  pub to : branch.to ≡ k

pub record AreBlockArcs (code : List Instr) (arcs : List Arc) : Type 0 where
  pub there : (k p : ℕ) → Enters code k p → Contains arcs (block_arc code k p)
  pub only : (arc : Arc) → Contains arcs arc → (k : ℕ) × (p : ℕ) × Enters code k p × (arc ≡ block_arc code k p)

-- one arc, where both tests hold
abbrev pub arc_between : Bool → Bool → Arc → List Arc
arc_between true true arc = arc ∷ []
arc_between _ _ arc = []

-- the arc of an edge, where it goes from a block with a label to a label
abbrev pub edge_arcs : List Instr → Edge → List Arc
edge_arcs code edge = arc_between (is_label (slice_get code edge.to)) (is_label (slice_get code (head_of code edge.leave))) (block_arc code edge.to edge.leave)

-- the label's block reads the location before it assigns it
pub record IsExposed (code : List Instr) (a : Location) (h : ℕ) : Type 0 where
  pub label : is_label (slice_get code h) ≡ true
  pub point : ℕ
  pub item : Instr
  pub head : h ≡ head_of code point
  pub reached : IsReached code point
  pub at : slice_get code point ≡ Some item
  pub reads : Contains (reads_of item) a
  pub unassigned : Unassigned code a h point

-- the labels of these blocks
abbrev pub AreSeeds : List Instr → Location → List ℕ → Type 0
AreSeeds code a seeds = (h : ℕ) → Contains seeds h ↔ IsExposed code a h

-- the first points that assign it
abbrev pub AreFirsts : List Instr → Location → List ℕ → Type 0
AreFirsts code a first = (p : ℕ) → IsReached code p → (nat_lt p (slice_index first (head_of code p)) ≡ true) ↔ Unassigned code a (head_of code p) (suc p)

-- the label is reached, and the location is live there
pub record IsLiveLabel (code : List Instr) (a : Location) (k : ℕ) : Type 0 where
  pub label : is_label (slice_get code k) ≡ true
  pub reached : IsReached code k
  pub live : IsLive code a k

-- Where the arcs are those of blocks, and the seeds and the first points those of the location, what is found is exactly the
-- reached labels where it is live.
abbrev pub FindsLiveLabels : List Arc → List ℕ → List ℕ → List ℕ → Type 0
FindsLiveLabels arcs seeds first found = (code : List Instr) (a : Location) → LeadToLabels code → AreBlockArcs code arcs → AreSeeds code a seeds → AreFirsts code a first → (k : ℕ) → Contains found k ↔ IsLiveLabel code a k
