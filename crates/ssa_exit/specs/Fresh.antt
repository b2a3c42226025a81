-- Names for the shadows of variables: a stem with which no variable's name begins, a point, and the variable's own name.
use Rattle.std.specs.Prelude.{◌≡◌, ℕ, ◌<◌, nat_eq, List, ◌∷◌, ◌++◌, length, count_by}
use Rattle.std.specs.List.{Contains, starts_with}
use Rattle.bril_tree.specs.declared.numbered.VarInfo.{VarInfo}
use Rattle.bril_tree.specs.Numbered.{named, variable_names}

-- No name of a variable is one of these, and no two of them are one.
pub record AreFresh (names : List (List ℕ)) (fresh : ℕ → List ℕ) : Type 0 where
  pub new : (x : ℕ) → x < length names → ¬ Contains names (fresh x)
  pub differ : (x y : ℕ) → x < length names → y < length names → fresh x ≡ fresh y → x ≡ y

-- how many variables have names that begin with the stem
abbrev pub count_beginning : List ℕ → List VarInfo → ℕ
count_beginning stem vars = count_by (λ v. starts_with nat_eq v.name stem) vars

-- the name for the shadow of a variable
abbrev pub shadow_name : List ℕ → List ℕ → List ℕ
shadow_name stem name = stem ++ 46 ∷ name

-- those of all variables by their numbers
abbrev pub shadow_names : List ℕ → List VarInfo → ℕ → List ℕ
shadow_names stem vars x = shadow_name stem (named (variable_names vars) x)
