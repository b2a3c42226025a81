-- Walks of a function: each begins at its first item, and each branch of it goes on from where the one before led.
use Rattle.std.specs.Prelude.{◌≡◌, ℕ, ◌<◌, ◌⊎◌, true, false, List, [], ◌∷◌}
use Rattle.std.specs.List.{Contains}
use Rattle.bril_tree.specs.declared.numbered.Instr.{Instr}
use Rattle.bril_tree.specs.Edge.{Branch, branches_at}

-- the point to which a list of branches, the newest first, leads from the first item
abbrev pub end_of : List Branch → ℕ
end_of [] = 0
end_of (branch ∷ walk) = branch.to

-- the branches, the newest first, are a walk
abbrev pub IsWalk : List Instr → List Branch → Type 0
IsWalk code [] = Unit {0}
IsWalk code (branch ∷ walk) = Contains (branches_at code (end_of walk)) branch × IsWalk code walk

-- some walk leads to the point
pub record IsReached (code : List Instr) (point : ℕ) : Type 0 where
  pub walk : List Branch
  pub is : IsWalk code walk
  pub ends : end_of walk ≡ point

-- of two branches from one point, the one to the lesser point, and to the same point the one that is no abort
abbrev pub Sooner : Branch → Branch → Type 0
Sooner v w = (v.to < w.to) ⊎ ((v.to ≡ w.to) × (v.aborts ≡ false) × (w.aborts ≡ true))

-- the first of two walks is shorter or, where they are as long as each other, goes to lesser points where they
-- first differ
abbrev pub Earlier : List Branch → List Branch → Type 0
Earlier v [] = ⊥
Earlier [] (f ∷ w) = Unit {0}
Earlier (e ∷ v) (f ∷ w) = Earlier v w ⊎ ((v ≡ w) × Sooner e f)

-- the walk is the first of those that lead to the point
pub record IsFirstWalk (code : List Instr) (point : ℕ) (walk : List Branch) : Type 0 where
  pub is : IsWalk code walk
  pub ends : end_of walk ≡ point
  pub first : (other : List Branch) → IsWalk code other → end_of other ≡ point → (walk ≡ other) ⊎ Earlier walk other
