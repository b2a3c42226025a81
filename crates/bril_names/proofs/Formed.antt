-- A function whose items are numbered has the form that every function keeps, and stands for its tree.
use Rattle.std.proofs.Common.{◌≡◌, ◌≢◌, ℕ, zero, suc, ◌<◌, ◌≤◌, List, [], ◌∷◌, ◌++◌, length, map, take, Some, None, refl, sym, ap, ◌∙◌, subst, arith}
use Rattle.std.specs.Prelude.{IsSome, slice_get, option_and_then}
use Rattle.std.specs.List.{AllPairs, filter_map, cons_option, flat_map, range_with_len}
use Rattle.std.proofs.lemmas.List.{append-nil, length-map, length-append}
use Rattle.std.proofs.lemmas.Option.{slice_get_past}
use Rattle.bril_tree.specs.declared.function_tree.Dest.{Dest}
use Rattle.bril_tree.specs.declared.function_tree.Item.{Item}
use Rattle.bril_tree.specs.declared.numbered.Instr.{Instr}
use Rattle.bril_tree.specs.declared.numbered.VarInfo.{VarInfo}
use Rattle.bril_tree.specs.declared.types.Ty.{Ty}
use Rattle.bril_tree.specs.FunctionForm.{IsFunctionForm, known_after, variables_of, label_at, first_of_two, first_type}
use Rattle.bril_tree.specs.Numbered.{variable_names, argument_tree, item_tree}
use Rattle.bril_names.specs.Faults.{Differ, labels_of}
use Rattle.bril_names.specs.Numbering.{argument_variable, type_of_variable, IsNumbering}
use Rattle.bril_names.proofs.Items.{labels_of_code, all_named}
use Rattle.bril_names.proofs.Steps.{names_of_arguments}
use Rattle.bril_names.proofs.Naming.{AreBelow-tested, AreBelow-range, same_numbers, named_apart}

-- an argument has its type
record HasType (vars : List VarInfo) (x : ℕ) : Type 0 where
  ty : Ty
  is : type_of_variable vars x ≡ Some ty

argument_typed : (args : List Dest) (x : ℕ) → x < length args → HasType (map argument_variable args) x
argument_typed [] x within = absurd (omega arith)
argument_typed (a ∷ args) zero within = record { ty = a.ty; is = refl }
argument_typed (a ∷ args) (suc x) within = let rest = argument_typed args x (omega arith) in record { ty = rest.ty; is = rest.is }

-- the first variables are the arguments, where these have their names and types
first_arguments : (args : List Dest) (vars : List VarInfo) (added : List (List ℕ)) → variable_names vars ≡ map (λ (a : Dest). a.name) args ++ added
    → ((x : ℕ) → x < length args → type_of_variable vars x ≡ type_of_variable (map argument_variable args) x) → filter_map argument_tree (take (length args) vars) ≡ args
first_arguments [] vars added names types = refl
first_arguments (a ∷ args) [] added names types = absurd cc
first_arguments (a ∷ args) (v ∷ vars) added names types =
    let name : v.name ≡ a.name = cc in
    let tail : variable_names vars ≡ map (λ (d : Dest). d.name) args ++ added = cc in
    let ty : v.ty ≡ Some a.ty = types 0 (omega arith) in
    let one : argument_tree v ≡ Some a = λ i. argument_tree (record { name = name i; ty = ty i }) in
    let rest = first_arguments args vars added tail (λ x within. types (suc x) (omega arith)) in
    λ i. cons_option (one i) (rest i)

module _ (functions labels : List (List ℕ)) (args : List Dest) (vars : List VarInfo) (items : List Item) (code : List Instr)
    (numbering : IsNumbering functions labels (map argument_variable args) vars items code)
    (args_differ : Differ (map (λ (a : Dest). a.name) args)) (labels_differ : Differ labels) (are : labels ≡ labels_of items) where
  -- how many arguments there are
  count : length (map argument_variable args) ≡ length args
  count = length-map args argument_variable

  names : variable_names vars ≡ map (λ (a : Dest). a.name) args ++ numbering.enters.added
  names = numbering.enters.grows ∙ ap (λ ns. ns ++ numbering.enters.added) (names_of_arguments args)

  few_args : length args ≤ length vars
  few_args =
      let all = length-map vars (λ (v : VarInfo). v.name) in
      let some = length-map args (λ (a : Dest). a.name) in
      let sum = ap length names ∙ length-append (map (λ (a : Dest). a.name) args) numbering.enters.added in
      omega arith

  -- the type of a variable that is there
  type_here : (x : ℕ) (v : VarInfo) → slice_get vars x ≡ Some v → v.ty ≡ first_of_two (type_of_variable (map argument_variable args) x) (first_type x code)
  type_here x v here = sym (ap (λ o. option_and_then (λ (w : VarInfo). w.ty) o) here) ∙ numbering.enters.types x

  args_typed : (x : ℕ) (v : VarInfo) → x < length args → slice_get vars x ≡ Some v → IsSome v.ty
  args_typed x v within here =
      let has = argument_typed args x within in
      subst IsSome (sym (type_here x v here ∙ ap (λ ty. first_of_two ty (first_type x code)) has.is)) refl

  types : (x : ℕ) (v : VarInfo) → length args ≤ x → slice_get vars x ≡ Some v → v.ty ≡ first_type x code
  types x v past here =
      let none : type_of_variable (map argument_variable args) x ≡ None =
      ap (λ o. option_and_then (λ (w : VarInfo). w.ty) o) (slice_get_past (map argument_variable args) x (subst (λ n. n ≤ x) (sym count) past)) in
      type_here x v here ∙ ap (λ ty. first_of_two ty (first_type x code)) none

  vars_differ : AllPairs (λ v w. v.name ≢ w.name) vars
  vars_differ = named_apart (λ (v : VarInfo). v.name) vars (numbering.enters.differ (subst Differ (sym (names_of_arguments args)) args_differ))

  pub items_are : items ≡ map (item_tree functions (variable_names vars) labels) code
  items_are = numbering.trees [] ∙ ap (λ ns. map (item_tree functions ns labels) code) (append-nil (variable_names vars))

  placed : flat_map label_at code ≡ range_with_len 0 (length labels)
  placed =
      same_numbers labels labels_differ (flat_map label_at code) (range_with_len 0 (length labels))
      (AreBelow-tested (length labels) (flat_map label_at code) numbering.placed) (AreBelow-range (length labels) 0 (length labels) (omega arith))
      (sym (labels_of_code functions (variable_names vars) labels code) ∙ ap labels_of (sym items_are) ∙ sym are
      ∙ sym (all_named functions (variable_names vars) labels))

  pub formed : IsFunctionForm (length args) vars labels code
  formed = record {
    few_args = few_args;
    appear = subst (λ n. known_after n (flat_map variables_of code) ≡ Some (length vars)) count numbering.enters.appear;
    args_typed = args_typed;
    types = types;
    vars_differ = vars_differ;
    placed = placed;
    targets = numbering.targets;
    labels_differ = labels_differ;
    typed = numbering.typed;
  }

  pub arguments_are : args ≡ filter_map argument_tree (take (length args) vars)
  arguments_are =
      sym (first_arguments args vars numbering.enters.added names
      (λ x within.
      let has = argument_typed args x within in
      numbering.enters.types x ∙ ap (λ ty. first_of_two ty (first_type x code)) has.is ∙ sym has.is))
