-- The labels of side exits.
use Rattle.std.specs.Prelude.{ℕ, suc, List, [], ◌∷◌, ◌++◌, codes}
use Rattle.std.specs.Fmt.{decimal}
use Rattle.pass_edit_laws.specs.labels.Fresh.{IsFresh}
use Rattle.side_laws.specs.Paired.{Pair}
use Rattle.side_laws.specs.Sided.{SideExit}

-- the name of the label of exit J, before any `_`
abbrev pub side_name : ℕ → List ℕ
side_name J = codes "side" ++ decimal J

-- these are the names of exit J and those behind it
abbrev pub AreExitNames : List (List ℕ) → ℕ → List (List ℕ) → Type 0
AreExitNames taken J [] = Unit {0}
AreExitNames taken J (name ∷ names) = IsFresh taken (side_name J) name × AreExitNames taken (suc J) names

-- pairs, each with the name of its label
abbrev pub exits_with : List Pair → List (List ℕ) → List SideExit
exits_with [] names = []
exits_with (p ∷ pairs) [] = []
exits_with (p ∷ pairs) (name ∷ names) = record { pair = p; name = name } ∷ exits_with pairs names
