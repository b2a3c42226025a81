-- The numbered demo program: it is the numbering of the demo's tree, and accepted.
use Rattle.std.proofs.Common.{◌≡◌, ◌≢◌, ◌∙◌, ◌⊎◌, inl, inr, refl, sym, ap, ap₂, subst, true, false, ◌&&◌, ℕ, zero, suc, ◌+◌, ◌*◌, ◌<◌, ◌≤◌, ◌^◌, List, [], ◌∷◌, ◌++◌, length, map, get_or, nat_eq, nat_lt, eq-eqb, Option, Some, None, arith, rules}
use Rattle.std.specs.Prelude.{slice_get, codes, All, IsTrue}
use Rattle.std.specs.Fmt.{decimal}
use Rattle.std.specs.List.{AllPairs, flat_map, list_all, range_with_len}
use Rattle.std.specs.Option.{option_map}
use Rattle.std.proofs.lemmas.Bool.{and_from, cases_lt}
use Rattle.std.proofs.lemmas.Fmt.{decimal_injective}
use Rattle.std.proofs.lemmas.List.{length-append}
use Rattle.std.proofs.lemmas.List.Elements.{All-append, All-cons, All-map, All-nil}
use Rattle.std.proofs.lemmas.List.FromFn.{get_or-map-range_with_len, length-map-range_with_len}
use Rattle.std.proofs.lemmas.List.Quantifiers.{all_pairs_push}
use Rattle.std.proofs.lemmas.Option.{get_or_from_slice_get, slice_get-map}
use Rattle.bril_tree.specs.declared.function_tree.FuncTree.{FuncTree}
use Rattle.bril_tree.specs.declared.function_tree.Item.{Item}
use Rattle.bril_tree.specs.declared.numbered.Instr.{Instr}
use Rattle.bril_tree.specs.declared.numbered_function.Func.{Func}
use Rattle.bril_tree.specs.declared.numbered.VarInfo.{VarInfo}
use Rattle.bril_tree.specs.declared.program.Prog.{Prog}
use Rattle.bril_tree.specs.declared.types.Ty.{Ty}
use Rattle.bril_tree.specs.Accepted.{AreWalksAccepted, IsAccepted, IsAcceptedFunction, IsPlainType}
use Rattle.bril_tree.specs.Assigned.{assigns_at}
use Rattle.bril_tree.specs.Edge.{Branch, branches_from, onward}
use Rattle.bril_tree.specs.Membership.{In}
use Rattle.bril_tree.specs.Operand.{Location, Variable, Shadow, reads_of}
use Rattle.bril_tree.specs.Run.{main_types, types_of}
use Rattle.bril_tree.specs.Shape.{is_shaped}
use Rattle.bril_tree.specs.Typing.{both_typed, call_fits, is_call_shaped, is_call_typed, print_fault, return_type, same_type, type_fault, variable_type, wrong_unless}
use Rattle.bril_tree.specs.FunctionForm.{callees_of}
use Rattle.bril_tree.specs.Numbered.{Numbered, function_tree, item_tree, named, names_of_functions, variable_names}
use Rattle.bril_tree.specs.ProgramForm.{IsProgramForm, main_name}
use Rattle.bril_demo.specs.Demo.{call, calling, constant, print, demo_function, demo_main, demo_tree, function_name, result_name}
use Rattle.bril_demo.proofs.Main.{Stands, First, Call, Print, all_items, head_of, call_item, call_items, calls, int, main_code, main_form, main_variables, print_item, result, stands}
use Rattle.bril_demo.proofs.Quiet.{is_quiet, quiet_accepted}
use Rattle.bril_demo.proofs.Numbered.{function_accepted, numbered_function, numbered_tree}

module _ (n : ℕ) (small : n < 2 ^ 64) where
  pub numbered_main : Func
  numbered_main = record { name = main_name; args = 0; vars = main_variables n; labels = []; ret = None; code = main_code n; formed = main_form n small }

  -- ---- its functions

  others : List Func
  others = map (numbered_function n) (range_with_len 0 n)

  pub functions : List Func
  functions = others ++ numbered_main ∷ []

  at_from : (k m j : ℕ) (rest : List Func) → j < m → slice_get (map (numbered_function n) (range_with_len k m) ++ rest) j ≡ Some (numbered_function n (k + j))
  at_from k zero j rest less = absurd (omega arith)
  at_from k (suc m) zero rest less = let e : k ≡ k + 0 = omega arith in ap (λ (i : ℕ). Some (numbered_function n i)) e
  at_from k (suc m) (suc j) rest less = let e : (k + 1) + j ≡ k + suc j = omega arith in at_from (k + 1) m j rest (omega arith) ∙ ap (λ (i : ℕ). Some (numbered_function n i)) e

  last_from : (k m : ℕ) (f : Func) → slice_get (map (numbered_function n) (range_with_len k m) ++ f ∷ []) m ≡ Some f
  last_from k zero f = refl
  last_from k (suc m) f = last_from (k + 1) m f

  pub function_at : (j : ℕ) → j < n → slice_get functions j ≡ Some (numbered_function n j)
  unfolding functions others
  function_at j less = let e : 0 + j ≡ j = omega arith in at_from 0 n j (numbered_main ∷ []) less ∙ ap (λ (i : ℕ). Some (numbered_function n i)) e

  pub main_at : slice_get functions n ≡ Some numbered_main
  unfolding functions others
  main_at = last_from 0 n numbered_main

  function_count : length functions ≡ n + 1
  unfolding functions others
  function_count = let a = length-append others (numbered_main ∷ []) in let b = length-map-range_with_len (numbered_function n) 0 n in omega arith

  names : List (List ℕ)
  names = names_of_functions functions

  name_at : (j : ℕ) → j < n → named names j ≡ function_name j
  unfolding names numbered_function
  name_at j less =
      let here : slice_get (map (λ (f : Func). f.name) functions) j ≡ Some (function_name j) = slice_get-map (λ (f : Func). f.name) functions j ∙ ap (option_map (λ (f : Func). f.name)) (function_at j less) in
      get_or_from_slice_get (map (λ (f : Func). f.name) functions) j (function_name j) [] here

  -- ---- its form

  apart_from_main : (j : ℕ) → function_name j ≢ main_name
  apart_from_main j e = let f : head_of (function_name j) ≡ head_of main_name = ap head_of e in absurd (let g : nat_eq 102 109 ≡ true = eq-eqb 102 109 f in cc)

  others_apart : AllPairs (λ (f g : Func). f.name ≢ g.name) others
  unfolding others numbered_function
  others_apart i j d less within same =
      let long = length-map-range_with_len (numbered_function n) 0 n in
      let first : get_or others i d ≡ numbered_function n i = get_or-map-range_with_len (numbered_function n) 0 n i i d (omega arith) (omega arith) in
      let second : get_or others j d ≡ numbered_function n j = get_or-map-range_with_len (numbered_function n) 0 n j j d (omega arith) (omega arith) in
      let apart : function_name i ≡ function_name j = sym (ap (λ (f : Func). f.name) first) ∙ same ∙ ap (λ (f : Func). f.name) second in
      let digits : decimal i ≡ decimal j = cc in
      let e = decimal_injective i j (omega arith) (omega arith) digits in omega arith

  apart_pushed : (k : ℕ) (d : Func) → k < length others → (get_or others k d).name ≢ main_name
  unfolding others numbered_function
  apart_pushed k d within e =
      let long = length-map-range_with_len (numbered_function n) 0 n in
      let is : get_or others k d ≡ numbered_function n k = get_or-map-range_with_len (numbered_function n) 0 n k k d (omega arith) (omega arith) in
      apart_from_main k (sym (ap (λ (f : Func). f.name) is) ∙ e)

  called_from : (k m bound : ℕ) → k + m ≤ bound → list_all (λ g. nat_lt g bound) (flat_map callees_of (calls k m)) ≡ true
  called_from k zero bound within = refl
  called_from k (suc m) bound within = and_from (nat_lt k bound) (list_all (λ g. nat_lt g bound) (flat_map callees_of (calls (k + 1) m))) (let t : nat_lt k bound ≡ true = search rules in t) (called_from (k + 1) m bound (omega arith))

  all_called : (bound : ℕ) (js : List ℕ) → n ≤ bound → list_all (λ (f : Func). list_all (λ g. nat_lt g bound) (flat_map callees_of f.code)) (map (numbered_function n) js ++ numbered_main ∷ []) ≡ true
  unfolding numbered_function numbered_main
  all_called bound [] within = and_from (list_all (λ g. nat_lt g bound) (flat_map callees_of (main_code n))) true (called_from 0 n bound (omega arith)) refl
  all_called bound (j ∷ js) within = all_called bound js within

  form : IsProgramForm functions n
  unfolding functions others numbered_main
  form = record {
    called = all_called (length functions) (range_with_len 0 n) (let c = function_count in omega arith);
    differ = all_pairs_push (λ (f g : Func). f.name ≢ g.name) others numbered_main others_apart apart_pushed;
    main_is = ap (option_map (λ (f : Func). f.name)) main_at;
  }

  pub program : Prog
  program = record { funcs = functions; main = n; formed = form }

  -- ---- it is the numbering of the tree

  results_at : (k m j : ℕ) → j < m → slice_get (map (λ (v : VarInfo). v.name) (map result (range_with_len k m))) j ≡ Some (result_name (k + j))
  results_at k zero j less = absurd (omega arith)
  results_at k (suc m) zero less = let e : k ≡ k + 0 = omega arith in ap (λ (i : ℕ). Some (result_name i)) e
  results_at k (suc m) (suc j) less = let e : (k + 1) + j ≡ k + suc j = omega arith in results_at (k + 1) m j (omega arith) ∙ ap (λ (i : ℕ). Some (result_name i)) e

  result_named : (j : ℕ) → j < n → named (variable_names (main_variables n)) (suc j) ≡ result_name j
  result_named j less =
      let e : 0 + j ≡ j = omega arith in
      get_or_from_slice_get (map (λ (v : VarInfo). v.name) (map result (range_with_len 0 n))) j (result_name j) [] (results_at 0 n j less ∙ ap (λ (i : ℕ). Some (result_name i)) e)

  items_tree : Instr → Item
  items_tree = item_tree names (variable_names (main_variables n)) []

  calls_tree : (k m : ℕ) → k + m ≤ n → map (item_tree names (variable_names (main_variables n)) []) (calls k m) ≡ flat_map calling (range_with_len k m)
  calls_tree k zero within = refl
  calls_tree k (suc m) within =
      ap₂ (λ (x y : List Item). x ++ y) (both (result_named k (omega arith)) (name_at k (omega arith))) (calls_tree (k + 1) m (omega arith))
    where
      both : named (variable_names (main_variables n)) (suc k) ≡ result_name k → named names k ≡ function_name k → map (item_tree names (variable_names (main_variables n)) []) (call_items k) ≡ calling k
      both r f = ap₂ (λ (x y : List ℕ). call x y (codes "n") ∷ print x ∷ []) r f

  main_tree : function_tree names numbered_main ≡ demo_main n
  unfolding numbered_main
  main_tree = ap (λ (items : List Item). record { name = main_name; args = []; ret = None; code = constant (codes "n") 40 ∷ items }) (calls_tree 0 n (omega arith))

  trees : (js : List ℕ) → map (function_tree names) (map (numbered_function n) js ++ numbered_main ∷ []) ≡ map (demo_function n) js ++ demo_main n ∷ []
  trees [] = ap (λ (f : FuncTree). f ∷ []) main_tree
  trees (j ∷ js) = ap₂ (λ (f : FuncTree) (fs : List FuncTree). f ∷ fs) (numbered_tree names n j) (trees js)

  pub numbered : Numbered (demo_tree n) program
  unfolding program names functions others
  numbered = record { alone = refl; functions = sym (trees (range_with_len 0 n)) }

  -- ---- it is accepted

  int_at : (x : ℕ) → x < n + 1 → variable_type (main_variables n) x ≡ int
  int_at zero less = refl
  int_at (suc j) less = types_at 0 n j (omega arith)
    where
      types_at : (k m j : ℕ) → j < m → variable_type (map result (range_with_len k m)) j ≡ int
      types_at k zero j less = absurd (omega arith)
      types_at k (suc m) zero less = refl
      types_at k (suc m) (suc j) less = types_at (k + 1) m j (omega arith)

  quiet : (i : ℕ) (item : Instr) → slice_get (main_code n) i ≡ Some item → is_quiet item ≡ true
  quiet i item at = by (stands n i item at)
    where
      by : Stands n i item → is_quiet item ≡ true
      by (First is item_is) = ap is_quiet item_is
      by (Call j less is item_is) = ap is_quiet item_is
      by (Print j less is item_is) = ap is_quiet item_is

  -- the first item assigns variable 0, and the call of function j variable j + 1
  Must : ℕ → Location → Type 0
  Must i (Variable x) = (1 ≤ i) × (2 * x ≤ i)
  Must i (Shadow x) = ⊥

  must_next : (i : ℕ) (item : Instr) → Stands n i item → (a : Location) → Must (suc i) a → In a (assigns_at (Some item)) ⊎ Must i a
  unfolding Must
  must_next i item s (Shadow x) must = absurd must
  must_next i item (First is item_is) (Variable x) must =
      let zero_is : x ≡ 0 = omega arith in
      inl (subst (λ (y : Instr). In (Variable x) (assigns_at (Some y))) (sym item_is) (inl (ap Variable zero_is)))
  must_next i item (Call j less is item_is) (Variable x) must = by (cases_lt (2 * x) (suc i))
    where
      by : (2 * x < suc i) ⊎ (suc i ≤ 2 * x) → In (Variable x) (assigns_at (Some item)) ⊎ ((1 ≤ i) × (2 * x ≤ i))
      by (inl before) = inr (omega arith, omega arith)
      by (inr here) =
          let m = must.1 in
          let same : x ≡ suc j = omega arith in
          inl (subst (λ (y : Instr). In (Variable x) (assigns_at (Some y))) (sym item_is) (inl (ap Variable same)))
  must_next i item (Print j less is item_is) (Variable x) must = let m = must.1 in inr (omega arith, omega arith)

  onward_alone : (i : ℕ) (item : Instr) → Stands n i item → (w : Branch) → In w (branches_from (main_code n) i (Some item)) → w ≡ onward i
  onward_alone i item (First is item_is) w among = one (subst (λ (y : Instr). In w (branches_from (main_code n) i (Some y))) item_is among)
    where
      one : In w (onward i ∷ []) → w ≡ onward i
      one (inl e) = e
      one (inr none) = absurd none
  onward_alone i item (Call j less is item_is) w among = one (subst (λ (y : Instr). In w (branches_from (main_code n) i (Some y))) item_is among)
    where
      one : In w (onward i ∷ []) → w ≡ onward i
      one (inl e) = e
      one (inr none) = absurd none
  onward_alone i item (Print j less is item_is) w among = one (subst (λ (y : Instr). In w (branches_from (main_code n) i (Some y))) item_is among)
    where
      one : In w (onward i ∷ []) → w ≡ onward i
      one (inl e) = e
      one (inr none) = absurd none

  next : (i : ℕ) (w : Branch) (o : Option Instr) → slice_get (main_code n) i ≡ o → In w (branches_from (main_code n) i o) → (a : Location) → Must w.to a → In a (assigns_at o) ⊎ Must i a
  next i w None at among a must = absurd among
  next i w (Some item) at among a must =
      let s = stands n i item at in
      must_next i item s a (subst (λ (v : Branch). Must v.to a) (onward_alone i item s w among) must)

  start : (a : Location) → Must 0 a → In a (map Variable (range_with_len 0 0))
  unfolding Must
  start (Variable x) must = absurd (let m = must.0 in omega arith)
  start (Shadow x) must = absurd must

  read_there : (point : ℕ) (item : Instr) (a : Location) → slice_get (main_code n) point ≡ Some item → In a (reads_of item) → Must point a
  unfolding Must
  read_there point item a at among = by (stands n point item at)
    where
      one : (x : ℕ) → In a (Variable x ∷ []) → a ≡ Variable x
      one x (inl e) = e
      one x (inr none) = absurd none

      by : Stands n point item → Must point a
      by (First is item_is) = absurd (subst (λ (y : Instr). In a (reads_of y)) item_is among)
      by (Call j less is item_is) = subst (Must point) (sym (one 0 (subst (λ (y : Instr). In a (reads_of y)) item_is among))) (omega arith, omega arith)
      by (Print j less is item_is) = subst (Must point) (sym (one (suc j) (subst (λ (y : Instr). In a (reads_of y)) item_is among))) (omega arith, omega arith)

  main_walks : AreWalksAccepted (main_code n) 0 false
  main_walks = quiet_accepted (main_code n) quiet 0 false Must (record { start = start; next = λ i w among a must. next i w (slice_get (main_code n) i) refl among a must }) read_there (λ returns reached. let f : false ≡ true = returns in cc)

  call_shaped : (j : ℕ) → j < n → is_call_shaped program numbered_main (call_item j) ≡ true
  unfolding program numbered_function
  call_shaped j less = ap (λ (o : Option Func). call_fits program numbered_main o (Some (suc j)) (0 ∷ [])) (function_at j less)

  call_typed : (j : ℕ) → j < n → type_fault program numbered_main (call_item j) ≡ None
  unfolding program numbered_function numbered_main
  call_typed j less = ap₂ (λ (t : Option Ty) (o : Option Func). wrong_unless (both_typed same_type int t && is_call_typed o (main_variables n) (0 ∷ []) int)) (int_at (suc j) (omega arith)) (function_at j less)

  print_typed : (j : ℕ) → j < n → type_fault program numbered_main (print_item j) ≡ None
  unfolding numbered_main
  print_typed j less = ap (λ (t : Option Ty). print_fault (t ∷ [])) (int_at (suc j) (omega arith))

  main_accepted : IsAcceptedFunction program numbered_main
  unfolding numbered_main
  main_accepted = record {
    shaped = all_items (λ item. IsTrue (is_shaped false item)) n refl (λ j less. refl) (λ j less. refl);
    calls = all_items (λ item. IsTrue (is_call_shaped program numbered_main item)) n refl call_shaped (λ j less. refl);
    typed = all_items (λ item. type_fault program numbered_main item ≡ None) n refl call_typed print_typed;
    sites = main_walks.sites;
    alone = main_walks.alone;
    returns = λ some. absurd (let f : false ≡ true = some in cc);
    assigned = main_walks.assigned;
  }

  pub accepted : IsAccepted program
  unfolding program functions others numbered_main
  accepted = record {
    main = record {
      returns_nothing = ap return_type main_at;
      takes_plain = subst (All IsPlainType) (sym (ap types_of main_at)) (All-nil IsPlainType);
    };
    functions = All-append (IsAcceptedFunction program) others (numbered_main ∷ [])
        (All-map (IsAcceptedFunction program) (numbered_function n) (range_with_len 0 n) (each (range_with_len 0 n)))
        (All-cons (IsAcceptedFunction program) numbered_main [] main_accepted (All-nil (IsAcceptedFunction program)));
  }
    where
      each : (js : List ℕ) → All (λ j. IsAcceptedFunction program (numbered_function n j)) js
      each [] = All-nil (λ j. IsAcceptedFunction program (numbered_function n j))
      each (j ∷ js) = All-cons (λ j. IsAcceptedFunction program (numbered_function n j)) j js (function_accepted program n j) (each js)

  pub main_types_none : main_types program ≡ []
  unfolding program numbered_main
  main_types_none = ap types_of main_at
