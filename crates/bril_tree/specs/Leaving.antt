-- Where edges leave: the abort of a guard from the `speculate` whose speculation it ends, each other edge from its
-- own item.
use Rattle.std.specs.Prelude.{◌≡◌, ◌⊎◌, ℕ, Bool, true, false, List, [], ◌∷◌}
use Rattle.std.specs.List.{Contains}
use Rattle.bril_tree.specs.declared.edge.Edge.{Edge}
use Rattle.bril_tree.specs.declared.numbered.Instr.{Instr}
use Rattle.bril_tree.specs.Edge.{Branch, branches_at}
use Rattle.bril_tree.specs.Sites.{sites_of}
use Rattle.bril_tree.specs.Walk.{IsWalk, end_of}

-- an abort leaves from the newest open site, every other branch from its own item
abbrev pub leave_of : Bool → ℕ → List ℕ → ℕ
leave_of true from [] = from
leave_of true from (newest ∷ older) = newest
leave_of false from sites = from

-- the edge of a branch, where these sites are open
abbrev pub edge_of : List ℕ → Branch → Edge
edge_of sites branch = record { from = branch.from; leave = leave_of branch.aborts branch.from sites; to = branch.to }

-- An edge of the function: a walk leads to its item, and its open sites say where it leaves.
pub record IsEdge (code : List Instr) (edge : Edge) : Type 0 where
  pub walk : List Branch
  pub is : IsWalk code walk
  pub branch : Branch
  pub at : Contains (branches_at code (end_of walk)) branch
  pub are : edge ≡ edge_of (sites_of code walk) branch

-- Some walk leads to the guard whose abort the branch is, and the point is the newest site that is open there.
pub record AbortsFrom (code : List Instr) (point : ℕ) (branch : Branch) : Type 0 where
  pub aborts : branch.aborts ≡ true
  pub walk : List Branch
  pub is : IsWalk code walk
  pub at : Contains (branches_at code (end_of walk)) branch
  pub older : List ℕ
  pub sites : sites_of code walk ≡ point ∷ older

-- The branch leaves from the point: it goes on from the item there, or it is an abort that ends the speculation there.
-- No abort leaves from a guard, and a guard that no walk leads to has none.
abbrev pub Leaves : List Instr → ℕ → Branch → Type 0
Leaves code point branch = (Contains (branches_at code point) branch × (branch.aborts ≡ false)) ⊎ AbortsFrom code point branch
