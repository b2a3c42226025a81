-- One step of pairing, as the program has it.
use Rattle.std.specs.Prelude.{◌≡◌, ℕ, zero, suc, ◌+◌, ◌-◌, ◌<◌, List, [], ◌∷◌, ◌++◌}
use Rattle.bril_tree.specs.declared.numbered.Instr.{Instr}
use Rattle.side_laws.specs.Paired.{BeginsWith, Pair, Pairing, PairsFrom, Going, goes}
use Rattle.side_pairs.specs.declared.step.Spot.{Spot}
use Rattle.side_pairs.specs.declared.step.Step.{Step}
use Rattle.side_pairs.specs.declared.step.Step.TheVariants.{Ends, Passes, Keeps, Pairs}
use Rattle.side_pairs.specs.Walks.{walker_of}

-- the pairs from there on
abbrev pub FromSpot : List Instr → ℕ → Spot → List ℕ → List Pair → Type 0
FromSpot code bail spot kept pairs = PairsFrom code bail spot.room spot.item (walker_of spot.walker) kept pairs

-- the pairs by what the step does
abbrev pub FromStep : List Instr → ℕ → Spot → List ℕ → List Pair → Step → Type 0
FromStep code bail spot kept pairs Ends = pairs ≡ []
FromStep code bail spot kept pairs (Passes next) = FromSpot code bail next kept pairs
FromStep code bail spot kept pairs (Keeps next) = FromSpot code bail next (kept ++ spot.item ∷ []) pairs
FromStep code bail spot kept pairs (Pairs guard other next) = BeginsWith (record { guard = guard; bail = bail; kept = kept; other = other }) (FromSpot code bail next kept) pairs

-- the same run, further on
pub record IsFurther (spot next : Spot) : Type 0 where
  pub less : next.room < spot.room
  pub end : next.item + next.room ≡ spot.item + spot.room

abbrev pub IsBefore : Spot → Step → Type 0
IsBefore spot Ends = Unit {0}
IsBefore spot (Passes next) = IsFurther spot next
IsBefore spot (Keeps next) = IsFurther spot next
IsBefore spot (Pairs guard other next) = IsFurther spot next

-- pairing goes on one item further, or two
abbrev pub skipped : List Instr → ℕ → ℕ → Pairing
skipped code bail zero i w kept pairs = ⊥
skipped code bail (suc room) i w kept pairs = PairsFrom code bail room i w kept pairs

-- the pairs where the walk stands at a point, and so many items may still be met behind it
abbrev pub IsStanding : List Instr → ℕ → Spot → ℕ → ℕ → List ℕ → List Pair → Type 0
IsStanding code bail spot left point kept pairs =
    (g : Going code spot.item point) × goes code bail (PairsFrom code bail (spot.room - 1)) (skipped code bail (spot.room - 1)) left kept pairs g
