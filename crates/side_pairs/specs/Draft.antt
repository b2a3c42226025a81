-- The pairs that were found, by the list of kept items.
use Rattle.std.specs.Prelude.{ℕ, List, drop, take}
use Rattle.side_laws.specs.Paired.{Pair}
use Rattle.side_pairs.specs.declared.draft.Found.{Found}

-- the kept items of all runs, and the pairs
pub record DraftView : Type 0 where
  pub kept : List ℕ
  pub pairs : List Pair

-- a pair, by the kept items
abbrev pub found_pair : List ℕ → Found → Pair
found_pair kept f = record { guard = f.guard; bail = f.bail; kept = take f.count (drop f.first kept); other = f.other }
