-- What is made of a function.
use Rattle.std.specs.Prelude.{◌≡◌, ℕ, ◌+◌, ◌<◌, List, [], length, slice_get}
use Rattle.std.specs.List.{All, sum_by}
use Rattle.bril_tree.specs.declared.function_tree.FuncTree.{FuncTree}
use Rattle.bril_tree.specs.declared.numbered_function.Func.{Func}
use Rattle.bril_tree.specs.Step.{point_of}
use Rattle.pass_edit_laws.specs.plan.Spliced.{spliced}
use Rattle.side_laws.specs.Paired.{ArePairs, Pair}
use Rattle.side_laws.specs.Sided.{AreExits, SideExit, exits_before, sided_items}

-- the guard of a pair and its labels are in the function
pub record IsInside (F : Func) (p : Pair) : Type 0 where
  pub guard : p.guard < length F.code
  pub bail : p.bail < length F.labels
  pub point : point_of p.bail F.code < length F.code
  pub other : p.other < length F.labels

abbrev pub IsExitInside : Func → SideExit → Type 0
IsExitInside F w = IsInside F w.pair

-- so are all pairs of the function
abbrev pub HasPairsInside : Func → Type 0
HasPairsInside F = (pairs : List Pair) → ArePairs F.code pairs → All (IsInside F) pairs

-- the guard of an exit is one of so many items
abbrev pub HasGuardBelow : ℕ → SideExit → Type 0
HasGuardBelow n w = w.pair.guard < n

-- The function of a tree, with the side exits of its pairs.
pub record IsSidedBy (F : Func) (tree made : FuncTree) : Type 0 where
  pub pairs : List Pair
  pub exits : List SideExit
  pub are_pairs : ArePairs F.code pairs
  pub are_exits : AreExits F.labels 1 pairs exits
  pub is : made ≡ record tree { code = spliced (exits_before (slice_get tree.code) F.labels F.code exits) (λ i. []) 0 (sided_items exits 0 tree.code) }

-- how many items side exits of these pairs have
abbrev pub added_by : List Pair → ℕ
added_by pairs = sum_by (λ p. length p.kept + 2) pairs
