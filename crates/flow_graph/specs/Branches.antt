-- The branches from a point, as they are kept.
use Rattle.std.specs.Prelude.{◌≡◌, ℕ, suc, ◌+◌, ◌<◌, Bool, true, false, nat_lt, List, [], ◌∷◌, length, map, Option, Some, None, slice_get, All}
use Rattle.bril_tree.specs.declared.numbered.Instr.{Instr}
use Rattle.bril_tree.specs.declared.numbered.Instr.TheVariants.{Label, Const, Act}
use Rattle.bril_tree.specs.declared.operation.Op.{Op}
use Rattle.bril_tree.specs.declared.operation.Op.TheVariants as op
use Rattle.bril_tree.specs.Edge as edge
use Rattle.bril_tree.specs.Edge.{branches_at, item_branches}
use Rattle.bril_tree.specs.declared.edge.Edge.{Edge}
use Rattle.flow_graph.specs.declared.branches.Branch.{Branch}
use Rattle.bril_tree.specs.Leaving.{edge_of}
use Rattle.flow_graph.specs.declared.branches.Branches.{Branches}
use Rattle.flow_graph.specs.declared.branches.Branches.TheVariants.{Nowhere, Single, Either}

abbrev pub branch_of : Branch → edge.Branch
branch_of branch = record { from = branch.from; to = branch.to; aborts = branch.aborts }

-- in the order of edges: the next point before a label, and of two labels the first one first
abbrev pub branches_of : Branches → List edge.Branch
branches_of Nowhere = []
branches_of (Single branch) = branch_of branch ∷ []
branches_of (Either first second) = branch_of first ∷ branch_of second ∷ []

-- in the order of a search for first walks: the one to the lesser point first
abbrev pub lesser_first : Bool → Branch → Branch → List Branch
lesser_first true first second = second ∷ first ∷ []
lesser_first false first second = first ∷ second ∷ []

abbrev pub visiting : Branches → List Branch
visiting Nowhere = []
visiting (Single branch) = branch ∷ []
visiting (Either first second) = lesser_first (nat_lt second.to first.to) first second

-- how many labels an operation goes to
abbrev pub label_count : Op → ℕ
label_count op.Jmp = 1
label_count op.Br = 2
label_count op.Guard = 1
label_count _ = 0

-- the item goes to as many labels as its operation does, each of them one of so many
abbrev pub HasLabels : ℕ → Instr → Type 0
HasLabels many (Label l) = Unit {0}
HasLabels many (Const dest ty value) = Unit {0}
HasLabels many (Act dest ty operation args funcs labels) = (label_count operation ≡ length labels) × All (λ l. l < many) labels

-- the branches from each of the items that begin at a point, and from the end
abbrev pub branches_from_on : List Instr → ℕ → List Instr → List (List edge.Branch)
branches_from_on code point [] = [] ∷ []
branches_from_on code point (item ∷ items) = item_branches code point item ∷ branches_from_on code (suc point) items

-- The rows are the branches from each point.
pub record AreBranchRows (code : List Instr) (rows : List Branches) : Type 0 where
  pub points : length rows ≡ length code + 1
  pub at : (point : ℕ) (row : Branches) → slice_get rows point ≡ Some row → branches_of row ≡ branches_at code point

-- the edges of these branches, where walks lead to their point with these open sites
abbrev pub edges_on : List edge.Branch → Option (List ℕ) → List Edge
edges_on branches None = []
edges_on branches (Some sites) = map (edge_of sites) branches
