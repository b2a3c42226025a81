-- Names that are new in a function.
use Rattle.std.specs.Prelude.{◌≡◌, ℕ, zero, suc, ◌<◌, List, [], ◌∷◌, Option, Some, None, slice_get}
use Rattle.bril_tree.specs.declared.numbered_function.Func.{Func}
use Rattle.bril_tree.specs.declared.program.Prog.{Prog}
use Rattle.bril_tree.specs.Membership.{In}

-- with so many `_` in front
abbrev pub underscored : ℕ → List ℕ → List ℕ
underscored zero base = base
underscored (suc n) base = 95 ∷ underscored n base

-- None of those that are taken, with as few `_` in front as it takes.
pub record IsFresh (taken : List (List ℕ)) (base name : List ℕ) : Type 0 where
  pub marks : ℕ
  pub is : name ≡ underscored marks base
  pub new : In name taken → ⊥
  pub least : (n : ℕ) → n < marks → In (underscored n base) taken

-- it doesn't begin with `_`
abbrev pub IsUnmarked : List ℕ → Type 0
IsUnmarked [] = ⊥
IsUnmarked (c ∷ cs) = c ≡ 95 → ⊥

abbrev pub labels_here : Option Func → List (List ℕ)
labels_here None = []
labels_here (Some f) = f.labels

-- the names of a function's labels
abbrev pub labels_in : Prog → ℕ → List (List ℕ)
labels_in P f = labels_here (slice_get P.funcs f)
