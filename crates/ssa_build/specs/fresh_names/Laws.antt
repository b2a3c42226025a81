-- Names of definitions differ, and don't grow.
use Rattle.std.specs.Prelude.{◌≡◌, ℕ, ◌<◌, ◌≤◌, List}
use Rattle.bril_tree.specs.Numbered.{named}
use Rattle.ssa_build.specs.fresh_names.Names.{definition_name, front_of, made_name}

-- Where no two arguments have one name, and there are enough `_` in front for each, no two definitions have one.
abbrev pub NamesDiffer : Type 0
NamesDiffer = (names : List (List ℕ)) (args front : ℕ) (variable : ℕ → ℕ) → ((x y : ℕ) → x < args → y < args → named names x ≡ named names y → x ≡ y) → ((x : ℕ) → x < args → front_of (named names x) ≤ front)
    → (y z : ℕ) → definition_name names args front variable y ≡ definition_name names args front variable z → y ≡ z

-- A name that is made of a made name is that which is made of the first one.
abbrev pub NamesStayShort : Type 0
NamesStayShort = (front : ℕ) (name : List ℕ) (y z : ℕ) → made_name front (made_name front name y) z ≡ made_name front name z
