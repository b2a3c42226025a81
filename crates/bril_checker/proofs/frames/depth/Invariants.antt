use Rattle.std.proofs.Common.{◌≡◌, ℕ, ◌<◌, ◌≤◌, List, length, Some}
use Rattle.std.specs.Prelude.{slice_get}
use Rattle.bril_tree.specs.Edge.{Branch}
use Rattle.bril_tree.specs.Sites.{sites_of}
use Rattle.bril_tree.specs.Walk.{IsWalk}
use Rattle.bril_checker.proofs.frames.depth.Given as goal

-- some walk has so many open sites, and the points so far have no more
abbrev pub invariant-loop-point : goal.invariant-loop-point
invariant-loop-point l =
    ((walk : List Branch) × IsWalk l.func.code walk × (length (sites_of l.func.code walk) ≡ l.depth))
    × ((k : ℕ) (sites : List ℕ) → k < l.point → slice_get l.graph.sites k ≡ Some (Some sites) → length sites ≤ l.depth)
