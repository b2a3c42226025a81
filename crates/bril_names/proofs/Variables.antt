-- Variables of a numbered function: its arguments stand in the tree, and the others appear there.
use Rattle.std.proofs.Common.{◌≡◌, ℕ, zero, suc, ◌+◌, ◌<◌, ◌≤◌, List, [], ◌∷◌, ◌++◌, length, map, take, get_or, Option, Some, None, refl, sym, ap, ◌∙◌, arith, true≢false}
use Rattle.std.specs.Prelude.{IsSome, slice_get}
use Rattle.std.specs.List.{filter_map, cons_option}
use Rattle.std.proofs.lemmas.List.{take_more, append-nil}
use Rattle.std.proofs.lemmas.List.Elements.{filter_map-append}
use Rattle.bril_tree.specs.declared.function_tree.Dest.{Dest}
use Rattle.bril_tree.specs.declared.numbered.VarInfo.{VarInfo}
use Rattle.bril_tree.specs.declared.types.Ty.{Ty}
use Rattle.bril_tree.specs.Numbered.{variable_names, typed_name, argument_tree}

-- each of the first so many variables has a type
abbrev pub AreTyped : ℕ → List VarInfo → Type 0
AreTyped args vars = (x : ℕ) (v : VarInfo) → x < args → slice_get vars x ≡ Some v → IsSome v.ty

AreTyped-rest : (args : ℕ) (v : VarInfo) (vars : List VarInfo) → AreTyped (suc args) (v ∷ vars) → AreTyped args vars
AreTyped-rest args v vars typed x w within here = typed (suc x) w (omega arith) here

-- ---- an argument in the tree

record IsArgument (v : VarInfo) : Type 0 where
  ty : Ty
  has_type : v.ty ≡ Some ty
  stands : argument_tree v ≡ Some (typed_name v.name ty)

is_argument : (v : VarInfo) → IsSome v.ty → IsArgument v
is_argument v typed = by v.name v.ty typed
  where
    by : (name : List ℕ) (ty : Option Ty) → IsSome ty → IsArgument (record { name = name; ty = ty })
    by name None typed = absurd (true≢false (sym typed))
    by name (Some ty) typed = record { ty = ty; has_type = refl; stands = refl }

-- the arguments in the tree of a function's first variables
abbrev pub arguments_of : ℕ → List VarInfo → List Dest
arguments_of args vars = filter_map argument_tree (take args vars)

record FirstArgument (v : VarInfo) (args : ℕ) (vars : List VarInfo) : Type 0 where
  ty : Ty
  has_type : v.ty ≡ Some ty
  stands : arguments_of (suc args) (v ∷ vars) ≡ typed_name v.name ty ∷ arguments_of args vars

first_argument : (v : VarInfo) (args : ℕ) (vars : List VarInfo) → AreTyped (suc args) (v ∷ vars) → FirstArgument v args vars
first_argument v args vars typed =
    let one = is_argument v (typed 0 v (omega arith) refl) in
    record { ty = one.ty; has_type = one.has_type; stands = ap (λ o. cons_option o (arguments_of args vars)) one.stands }

-- one variable more that has a type, and one that has none
module _ (vars : List VarInfo) (i : ℕ) (v : VarInfo) (within : i < length vars) (is : v ≡ get_or vars i v) (args : List Dest) (before : args ≡ arguments_of i vars) where
  one_more : arguments_of (i + 1) vars ≡ args ++ cons_option (argument_tree v) []
  one_more =
      ap (filter_map argument_tree) (take_more vars i v within) ∙ filter_map-append argument_tree (take i vars) (get_or vars i v ∷ [])
      ∙ (λ k. sym before k ++ cons_option (argument_tree (sym is k)) [])

  pub argument_taken : (ty : Ty) → v.ty ≡ Some ty → args ++ typed_name v.name ty ∷ [] ≡ arguments_of (i + 1) vars
  argument_taken ty has = sym (one_more ∙ ap (λ t. args ++ cons_option (argument_tree (record { name = v.name; ty = t })) []) has)

  pub argument_left_out : v.ty ≡ None → args ≡ arguments_of (i + 1) vars
  argument_left_out has = sym (one_more ∙ ap (λ t. args ++ cons_option (argument_tree (record { name = v.name; ty = t })) []) has ∙ append-nil args)

pub argument_names_taken : (args : ℕ) (vars : List VarInfo) → AreTyped args vars → map (λ (a : Dest). a.name) (arguments_of args vars) ≡ take args (variable_names vars)
argument_names_taken zero vars typed = refl
argument_names_taken (suc args) [] typed = refl
argument_names_taken (suc args) (v ∷ vars) typed =
    let one = first_argument v args vars typed in
    ap (map (λ (a : Dest). a.name)) one.stands ∙ ap (λ names. v.name ∷ names) (argument_names_taken args vars (AreTyped-rest args v vars typed))

-- ---- the arguments in the tree determine the first variables

pub record SameArguments (n m : ℕ) (vs ws : List VarInfo) : Type 0 where
  pub count : n ≡ m
  pub variables : take n vs ≡ take m ws

same_variable : (v w : VarInfo) (s t : Ty) → v.ty ≡ Some s → w.ty ≡ Some t → typed_name v.name s ≡ typed_name w.name t → v ≡ w
same_variable v w s t has_s has_t same =
    let name : v.name ≡ w.name = ap (λ (d : Dest). d.name) same in
    let ty : v.ty ≡ w.ty = has_s ∙ ap (λ (d : Dest). Some d.ty) same ∙ sym has_t in
    λ i. record { name = name i; ty = ty i }

pub same_arguments : (n m : ℕ) (vs ws : List VarInfo) → n ≤ length vs → m ≤ length ws → AreTyped n vs → AreTyped m ws → arguments_of n vs ≡ arguments_of m ws → SameArguments n m vs ws
same_arguments zero zero vs ws few few' typed typed' same = record { count = refl; variables = refl }
same_arguments zero (suc m) vs [] few few' typed typed' same = absurd (omega arith)
same_arguments zero (suc m) vs (w ∷ ws) few few' typed typed' same =
    let two = first_argument w m ws typed' in
    let e : [] ≡ typed_name w.name two.ty ∷ arguments_of m ws = same ∙ two.stands in
    absurd cc
same_arguments (suc n) m [] ws few few' typed typed' same = absurd (omega arith)
same_arguments (suc n) zero (v ∷ vs) ws few few' typed typed' same =
    let one = first_argument v n vs typed in
    let e : typed_name v.name one.ty ∷ arguments_of n vs ≡ [] = sym one.stands ∙ same in
    absurd cc
same_arguments (suc n) (suc m) (v ∷ vs) [] few few' typed typed' same = absurd (omega arith)
same_arguments (suc n) (suc m) (v ∷ vs) (w ∷ ws) few few' typed typed' same =
    let one = first_argument v n vs typed in
    let two = first_argument w m ws typed' in
    let e : typed_name v.name one.ty ∷ arguments_of n vs ≡ typed_name w.name two.ty ∷ arguments_of m ws = sym one.stands ∙ same ∙ two.stands in
    let head : typed_name v.name one.ty ≡ typed_name w.name two.ty = cc in
    let tail : arguments_of n vs ≡ arguments_of m ws = cc in
    let variable = same_variable v w one.ty two.ty one.has_type two.has_type head in
    let rest = same_arguments n m vs ws (omega arith) (omega arith) (AreTyped-rest n v vs typed) (AreTyped-rest m w ws typed') tail in
    record { count = ap suc rest.count; variables = λ i. variable i ∷ rest.variables i }

-- ---- variables with the same names and types are the same

pub same_variables : (vs ws : List VarInfo) → variable_names vs ≡ variable_names ws
    → ((x : ℕ) (v w : VarInfo) → slice_get vs x ≡ Some v → slice_get ws x ≡ Some w → v.ty ≡ w.ty) → vs ≡ ws
same_variables [] [] names types = refl
same_variables [] (w ∷ ws) names types = absurd cc
same_variables (v ∷ vs) [] names types = absurd cc
same_variables (v ∷ vs) (w ∷ ws) names types =
    let name : v.name ≡ w.name = cc in
    let tail : variable_names vs ≡ variable_names ws = cc in
    let ty : v.ty ≡ w.ty = types 0 v w refl refl in
    let rest = same_variables vs ws tail (λ x u t h k. types (suc x) u t h k) in
    λ i. record { name = name i; ty = ty i } ∷ rest i
