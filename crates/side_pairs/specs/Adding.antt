-- The pairs of a run, and of the runs from a point on, behind those that were found before.
use Rattle.std.specs.Prelude.{◌≡◌, ◌⊎◌, ℕ, suc, List, ◌++◌}
use Rattle.bril_tree.specs.declared.numbered.Instr.{Instr}
use Rattle.bril_tree.specs.Step.{point_of}
use Rattle.side_laws.specs.Paired as paired
use Rattle.side_laws.specs.Paired.{IsRun, Pair, PairsOf}
use Rattle.side_pairs.specs.declared.run.Run.{Run}
use Rattle.side_pairs.specs.declared.step.Spot.{Spot}

-- the pairs of the run are added
pub record Adds (code : List Instr) (r : paired.Run) (before after : List Pair) : Type 0 where
  pub here : List Pair
  pub of : PairsOf code r here
  pub are : after ≡ before ++ here

-- the run that begins at the point, and its pairs, which are added
pub record AddsRun (code : List Instr) (k : ℕ) (before after : List Pair) : Type 0 where
  pub run : paired.Run
  pub begins : run.start ≡ k
  pub is : IsRun code run
  pub adds : Adds code run before after

-- the pairs of the run that begins at the point are added; nothing where none does
abbrev pub AddsAt : List Instr → ℕ → List Pair → List Pair → Type 0
AddsAt code k before after = AddsRun code k before after ⊎ (((r : paired.Run) → r.start ≡ k → IsRun code r → ⊥) × (after ≡ before))

-- where pairing begins in a run
pub record IsFirstSpot (code : List Instr) (r : Run) (spot : Spot) : Type 0 where
  pub item : spot.item ≡ suc r.start
  pub room : spot.room ≡ r.size
  pub left : spot.walker.left ≡ 1023
  pub point : spot.walker.point ≡ suc (point_of r.bail code)
