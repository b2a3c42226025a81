-- Each sound tree without imports has a numbered program.
use Rattle.std.proofs.Common.{◌≡◌, ℕ, zero, suc, ◌+◌, ◌-◌, ◌<◌, true, List, [], ◌∷◌, ◌++◌, length, map, take, Some, nat_lt, refl, sym, ap, ◌∙◌, subst, arith}
use Rattle.std.specs.Prelude.{slice_get, IsSome}
use Rattle.std.specs.List.{All, flat_map, filter_map, list_all, range_with_len}
use Rattle.std.proofs.lemmas.Bool.{and_from}
use Rattle.std.proofs.lemmas.List.{length-map, length-append}
use Rattle.std.proofs.lemmas.List.Elements.{All-head, All-tail, All-contains_itself}
use Rattle.std.proofs.lemmas.Option.{same_Some, slice_get-map, slice_get-get_or}
use Rattle.bril_tree.specs.declared.function_tree.Dest.{Dest}
use Rattle.bril_tree.specs.declared.function_tree.FuncTree.{FuncTree}
use Rattle.bril_tree.specs.declared.numbered.Instr.{Instr}
use Rattle.bril_tree.specs.declared.numbered.VarInfo.{VarInfo}
use Rattle.bril_tree.specs.declared.numbered_function.Func.{Func}
use Rattle.bril_tree.specs.declared.program.Prog.{Prog}
use Rattle.bril_tree.specs.declared.tree.Tree.{Tree}
use Rattle.bril_tree.specs.FunctionForm.{IsFunctionForm, variables_of, label_at, targets_of, callees_of, first_type, known_after}
use Rattle.bril_tree.specs.Numbered.{Numbered, variable_names, item_tree, argument_tree, function_tree, names_of_functions}
use Rattle.bril_tree.specs.ProgramForm.{IsProgramForm, main_name}
use Rattle.bril_names.specs.Faults.{Differ, AreAmong, IsSound, labels_of, argument_names, function_names}
use Rattle.bril_names.specs.Range.{AreBelow}
use Rattle.bril_names.proofs.Appearance.{known_after-below}
use Rattle.bril_names.proofs.Faultless.{IsSoundTree}
use Rattle.bril_names.proofs.Functions.{AreAllCalled}
use Rattle.bril_names.proofs.Items.{names_of, names_of_code, labels_of_code, all_named}
use Rattle.bril_names.proofs.Numbers.{Appears, appears, MakesAll, make_all}
use Rattle.bril_names.proofs.Naming.{same_numbers, named_apart, test_of_AreBelow, AreBelow-range, AreAmong-named}
use Rattle.bril_names.proofs.Sound.{names_kept}

-- ---- variables with their types

abbrev argument_variables : List Dest → List VarInfo
argument_variables [] = []
argument_variables (d ∷ args) = record { name = d.name; ty = Some d.ty } ∷ argument_variables args

-- variables from a number on, each with the type of its first destination
abbrev typed_from : List Instr → ℕ → List (List ℕ) → List VarInfo
typed_from code x [] = []
typed_from code x (name ∷ names) = record { name = name; ty = first_type x code } ∷ typed_from code (x + 1) names

names_typed : (code : List Instr) (x : ℕ) (names : List (List ℕ)) → variable_names (typed_from code x names) ≡ names
names_typed code x [] = refl
names_typed code x (name ∷ names) = ap (λ rest. name ∷ rest) (names_typed code (x + 1) names)

names_of_variables : (args : List Dest) (rest : List VarInfo) → variable_names (argument_variables args ++ rest) ≡ map (λ (d : Dest). d.name) args ++ variable_names rest
names_of_variables [] rest = refl
names_of_variables (d ∷ args) rest = ap (λ names. d.name ∷ names) (names_of_variables args rest)

arguments_kept : (args : List Dest) (rest : List VarInfo) → filter_map argument_tree (take (length args) (argument_variables args ++ rest)) ≡ args
arguments_kept [] rest = refl
arguments_kept (d ∷ args) rest = ap (λ more. d ∷ more) (arguments_kept args rest)

arguments_typed : (args : List Dest) (rest : List VarInfo) (x : ℕ) (v : VarInfo) → x < length args → slice_get (argument_variables args ++ rest) x ≡ Some v → IsSome v.ty
arguments_typed [] rest x v below here = absurd (omega arith)
arguments_typed (d ∷ args) rest zero v below here = subst (λ (w : VarInfo). IsSome w.ty) (same_Some (record { name = d.name; ty = Some d.ty }) v here) refl
arguments_typed (d ∷ args) rest (suc x) v below here = arguments_typed args rest x v (omega arith) here

behind_arguments : (args : List Dest) (rest : List VarInfo) (x y : ℕ) (v : VarInfo) → x ≡ length args + y → slice_get (argument_variables args ++ rest) x ≡ Some v → slice_get rest y ≡ Some v
behind_arguments [] rest x y v is here = let e : x ≡ y = omega arith in subst (λ k. slice_get rest k ≡ Some v) e here
behind_arguments (d ∷ args) rest zero y v is here = absurd (omega arith)
behind_arguments (d ∷ args) rest (suc x) y v is here = behind_arguments args rest x y v (omega arith) here

types_from : (code : List Instr) (k : ℕ) (names : List (List ℕ)) (y : ℕ) (v : VarInfo) → slice_get (typed_from code k names) y ≡ Some v → v.ty ≡ first_type (k + y) code
types_from code k [] y v here = absurd cc
types_from code k (name ∷ names) zero v here =
    let e : k ≡ k + 0 = omega arith in
    ap (λ (w : VarInfo). w.ty) (sym (same_Some (record { name = name; ty = first_type k code }) v here)) ∙ ap (λ x. first_type x code) e
types_from code k (name ∷ names) (suc y) v here =
    let e : (k + 1) + y ≡ k + suc y = omega arith in
    types_from code (k + 1) names y v here ∙ ap (λ x. first_type x code) e

-- ---- a function

module _ (fs : List (List ℕ)) (t : FuncTree) (sound : IsSound fs t) where
  seen : Appears (argument_names t) (flat_map names_of t.code)
  seen = appears (argument_names t) (flat_map names_of t.code) sound.arguments

  abbrev all_names : List (List ℕ)
  all_names = argument_names t ++ seen.new

  numbers_in : AreBelow (length all_names) seen.numbers
  numbers_in = known_after-below (length (argument_names t)) seen.numbers (length all_names) seen.appear

  items : MakesAll fs all_names (labels_of t.code) t.code
  items =
      make_all fs all_names (labels_of t.code) t.code (subst (AreAmong all_names) seen.name (AreAmong-named all_names seen.numbers numbers_in)) sound.known (All-contains_itself (labels_of t.code))

  abbrev variables : List VarInfo
  variables = argument_variables t.args ++ typed_from items.code (length t.args) seen.new

  variables_named : variable_names variables ≡ all_names
  variables_named =
      names_of_variables t.args (typed_from items.code (length t.args) seen.new) ∙ ap (λ names. argument_names t ++ names) (names_typed items.code (length t.args) seen.new)

  variables_count : length variables ≡ length all_names
  variables_count = sym (length-map variables (λ (v : VarInfo). v.name)) ∙ ap length variables_named

  numbers_same : flat_map variables_of items.code ≡ seen.numbers
  numbers_same =
      same_numbers all_names seen.differ (flat_map variables_of items.code) seen.numbers items.in_range.variables numbers_in
      (names_of_code fs all_names (labels_of t.code) items.code items.in_range.typed ∙ ap (flat_map names_of) items.tree ∙ sym seen.name)

  formed : IsFunctionForm (length t.args) variables (labels_of t.code) items.code
  formed = record {
    few_args = let a = length-append (argument_names t) seen.new in let b = length-map t.args (λ (d : Dest). d.name) in let c = variables_count in omega arith;
    appear = ap (known_after (length t.args)) numbers_same ∙ ap (λ n. known_after n seen.numbers) (sym (length-map t.args (λ (d : Dest). d.name))) ∙ seen.appear ∙ ap Some (sym variables_count);
    args_typed = λ x v below here. arguments_typed t.args (typed_from items.code (length t.args) seen.new) x v below here;
    types = λ x v from here.
        let is : x ≡ length t.args + (x - length t.args) = omega arith in
        types_from items.code (length t.args) seen.new (x - length t.args) v (behind_arguments t.args (typed_from items.code (length t.args) seen.new) x (x - length t.args) v is here)
        ∙ ap (λ k. first_type k items.code) (sym is);
    vars_differ = named_apart (λ (v : VarInfo). v.name) variables (subst Differ (sym variables_named) seen.differ);
    placed =
        same_numbers (labels_of t.code) sound.labels (flat_map label_at items.code) (range_with_len 0 (length (labels_of t.code))) items.in_range.places (AreBelow-range (length (labels_of t.code)) 0 (length (labels_of t.code)) (omega arith))
        (sym (labels_of_code fs all_names (labels_of t.code) items.code) ∙ ap labels_of items.tree ∙ sym (all_named fs all_names (labels_of t.code)));
    targets = test_of_AreBelow (length (labels_of t.code)) (flat_map targets_of items.code) items.in_range.targets;
    labels_differ = sound.labels;
    typed = items.in_range.typed;
  }

  made_function : Func
  made_function = record { name = t.name; args = length t.args; vars = variables; labels = labels_of t.code; ret = t.ret; code = items.code; formed = formed }

  made_called : list_all (λ g. nat_lt g (length fs)) (flat_map callees_of made_function.code) ≡ true
  unfolding made_function
  made_called = test_of_AreBelow (length fs) (flat_map callees_of items.code) items.in_range.callees

  made_tree : function_tree fs made_function ≡ t
  unfolding made_function
  made_tree =
      let args = arguments_kept t.args (typed_from items.code (length t.args) seen.new) in
      let code = ap (λ names. map (item_tree fs names (labels_of t.code)) items.code) variables_named ∙ items.tree in
      λ i. record { name = t.name; args = args i; ret = t.ret; code = code i }

-- ---- a program

record MakesFunctions (fs : List (List ℕ)) (trees : List FuncTree) : Type 0 where
  funcs : List Func
  called : AreAllCalled (length fs) funcs
  tree : map (function_tree fs) funcs ≡ trees

make_functions : (fs : List (List ℕ)) (trees : List FuncTree) → All (IsSound fs) trees → MakesFunctions fs trees
make_functions fs [] sound = record { funcs = []; called = refl; tree = refl }
make_functions fs (t ∷ trees) sound =
    let one = All-head (IsSound fs) t trees sound in
    let rest = make_functions fs trees (All-tail (IsSound fs) t trees sound) in
    let all = λ (h : Func). list_all (λ g. nat_lt g (length fs)) (flat_map callees_of h.code) in
    record {
      funcs = made_function fs t one ∷ rest.funcs;
      called = and_from (all (made_function fs t one)) (list_all all rest.funcs) (made_called fs t one) rest.called;
      tree = λ i. made_tree fs t one i ∷ rest.tree i;
    }

pub record HasProgram (tree : Tree) : Type 0 where
  pub program : Prog
  pub numbered : Numbered tree program

module _ (tree : Tree) (sound : IsSoundTree tree) where
  made : MakesFunctions (function_names tree) tree.funcs
  made = make_functions (function_names tree) tree.funcs sound.sound

  made_names : names_of_functions made.funcs ≡ function_names tree
  made_names = sym (names_kept (function_names tree) made.funcs) ∙ ap (map (λ (t : FuncTree). t.name)) made.tree

  made_form : IsProgramForm made.funcs sound.main.0
  made_form = record {
    called = subst (λ n. AreAllCalled n made.funcs) (sym (ap length made_names) ∙ length-map made.funcs (λ (f : Func). f.name)) made.called;
    differ = named_apart (λ (f : Func). f.name) made.funcs (subst Differ (sym made_names) sound.differ);
    main_is =
        sym (slice_get-map (λ (f : Func). f.name) made.funcs sound.main.0) ∙ ap (λ names. slice_get names sound.main.0) made_names
        ∙ slice_get-get_or (function_names tree) sound.main.0 main_name sound.main.1 ∙ ap Some sound.main.2;
  }

  -- a sound tree without imports has a numbered program
  pub make_program : tree.imports ≡ [] → HasProgram tree
  make_program alone = record {
    program = record { funcs = made.funcs; main = sound.main.0; formed = made_form };
    numbered = record { alone = alone; functions = sym made.tree ∙ ap (λ names. map (function_tree names) made.funcs) (sym made_names) };
  }
