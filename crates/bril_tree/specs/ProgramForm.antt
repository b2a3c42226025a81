-- The form of a numbered program.
use Rattle.std.specs.Prelude.{ℕ, ◌≡◌, ◌≢◌, true, List, [], ◌∷◌, length, Some, nat_lt, slice_get}
use Rattle.std.specs.List.{flat_map, list_all, AllPairs}
use Rattle.std.specs.Option.{option_map}
use Rattle.std.proofs.Props.{props}
use Rattle.bril_tree.specs.declared.numbered_function.Func.{Func}
use Rattle.bril_tree.specs.FunctionForm.{callees_of}

-- the bytes of `main`
abbrev pub main_name : List ℕ
main_name = 109 ∷ 97 ∷ 105 ∷ 110 ∷ []

-- What a numbered program keeps: each function that an item names is there, names differ, and one
-- function is `main`.
pub record IsProgramForm (funcs : List Func) (main : ℕ) : Type 0 where
  pub called : list_all (λ f. list_all (λ g. nat_lt g (length funcs)) (flat_map callees_of f.code)) funcs ≡ true
  pub differ : AllPairs (λ f g. f.name ≢ g.name) funcs
  pub main_is : option_map (λ f. f.name) (slice_get funcs main) ≡ Some main_name

pub IsProgramForm-prop : (funcs : List Func) (main : ℕ) → IsProp (IsProgramForm funcs main)
IsProgramForm-prop funcs main = hlevel props
