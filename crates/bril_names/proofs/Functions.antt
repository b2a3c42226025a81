-- The tree of a numbered function determines it, and so does that of a program.
use Rattle.std.proofs.Common.{◌≡◌, ◌⊎◌, ℕ, zero, suc, ◌<◌, ◌≤◌, true, List, [], ◌∷◌, length, map, take, get_or, Option, Some, nat_lt, refl, sym, ap, ◌∙◌, subst, arith, inl, inr}
use Rattle.std.specs.Prelude.{slice_get}
use Rattle.std.specs.List.{flat_map, list_all}
use Rattle.std.proofs.lemmas.Bool.{and_parts, cases_lt}
use Rattle.std.proofs.lemmas.List.{length-map, get_or-take, take-map}
use Rattle.std.proofs.lemmas.Option.{slice_get-map, slice_get_within, get_or_from_slice_get}
use Rattle.bril_tree.specs.declared.function_tree.FuncTree.{FuncTree}
use Rattle.bril_tree.specs.declared.numbered.Instr.{Instr}
use Rattle.bril_tree.specs.declared.numbered.VarInfo.{VarInfo}
use Rattle.bril_tree.specs.declared.numbered_function.Func.{Func}
use Rattle.bril_tree.specs.declared.program.Prog.{Prog}
use Rattle.bril_tree.specs.declared.types.Ty.{Ty}
use Rattle.bril_tree.specs.FunctionForm.{known_after, IsFunctionForm, IsFunctionForm-prop, variables_of, callees_of, targets_of, first_type}
use Rattle.bril_tree.specs.Numbered.{named, variable_names, names_of_functions, item_tree, function_tree}
use Rattle.bril_tree.specs.ProgramForm.{IsProgramForm, IsProgramForm-prop, main_name}
use Rattle.bril_names.specs.Faults.{Differ, labels_of}
use Rattle.bril_names.specs.Range.{AreBelow, AreInRange}
use Rattle.bril_names.proofs.Appearance.{AgreeBelow, one_appearance, known_after-below}
use Rattle.bril_names.proofs.Items.{same_code, names_of, names_of_code, labels_of_tree}
use Rattle.bril_names.proofs.Naming.{AreBelow-tested, AreBelow-range, Differ-named, one_number}
use Rattle.bril_names.proofs.Variables.{SameArguments, same_arguments, same_variables}

-- ---- equal fields

record Fields : Type 0 where
  name : List ℕ
  args : ℕ
  vars : List VarInfo
  labels : List (List ℕ)
  ret : Option Ty
  code : List Instr

abbrev fields_of : Func → Fields
fields_of f = record { name = f.name; args = f.args; vars = f.vars; labels = f.labels; ret = f.ret; code = f.code }

abbrev IsFormed : Fields → Type 0
IsFormed f = IsFunctionForm f.args f.vars f.labels f.code

abbrev with_form : (f : Fields) → IsFormed f → Func
with_form f formed = record { name = f.name; args = f.args; vars = f.vars; labels = f.labels; ret = f.ret; code = f.code; formed = formed }

Func-equal : (f g : Func) → fields_of f ≡ fields_of g → f ≡ g
Func-equal f g e =
    subst (λ fields. (formed : IsFormed fields) → f ≡ with_form fields formed) e
    (λ formed. ap (with_form (fields_of f)) (IsFunctionForm-prop f.args f.vars f.labels f.code f.formed formed)) g.formed

abbrev program_of : (parts : List Func × ℕ) → IsProgramForm parts.0 parts.1 → Prog
program_of parts formed = record { funcs = parts.0; main = parts.1; formed = formed }

pub Prog-equal : (p q : Prog) → p.funcs ≡ q.funcs → p.main ≡ q.main → p ≡ q
Prog-equal p q funcs main =
    let e : ◌≡◌ {A = List Func × ℕ} (p.funcs, p.main) (q.funcs, q.main) = λ i. (funcs i, main i) in
    subst (λ (parts : List Func × ℕ). (formed : IsProgramForm parts.0 parts.1) → p ≡ program_of parts formed) e
    (λ formed. ap (program_of (p.funcs, p.main)) (IsProgramForm-prop p.funcs p.main p.formed formed)) q.formed

-- ---- one function

-- the functions that its items name are among so many
abbrev pub AreCalled : ℕ → Func → Type 0
AreCalled count f = AreBelow count (flat_map callees_of f.code)

-- the number of a function's variables, as of their names
names_count : (f : Func) → length (variable_names f.vars) ≡ length f.vars
names_count f = length-map f.vars (λ (v : VarInfo). v.name)

pub Differ-variables : (f : Func) → Differ (variable_names f.vars)
Differ-variables f = Differ-named (λ (v : VarInfo). v.name) f.vars f.formed.vars_differ

pub items_in_range : (count : ℕ) (f : Func) → AreCalled count f → AreInRange count (length f.vars) (length f.labels) f.code
items_in_range count f called = record {
  variables = known_after-below f.args (flat_map variables_of f.code) (length f.vars) f.formed.appear;
  callees = called;
  targets = AreBelow-tested (length f.labels) (flat_map targets_of f.code) f.formed.targets;
  places = subst (AreBelow (length f.labels)) (sym f.formed.placed) (AreBelow-range (length f.labels) 0 (length f.labels) (omega arith));
  typed = f.formed.typed;
}

pub in_range : (count : ℕ) (f : Func) → AreCalled count f → AreInRange count (length (variable_names f.vars)) (length f.labels) f.code
in_range count f called = subst (λ n. AreInRange count n (length f.labels) f.code) (sym (names_count f)) (items_in_range count f called)

module _ (fs : List (List ℕ)) (differ : Differ fs) (f g : Func) (called_f : AreCalled (length fs) f) (called_g : AreCalled (length fs) g)
    (same : function_tree fs f ≡ function_tree fs g) where
  code_trees : map (item_tree fs (variable_names f.vars) f.labels) f.code ≡ map (item_tree fs (variable_names g.vars) g.labels) g.code
  code_trees = ap (λ (t : FuncTree). t.code) same

  labels_same : f.labels ≡ g.labels
  labels_same =
      sym (labels_of_tree fs (variable_names f.vars) f.labels f.code f.formed.placed) ∙ ap labels_of code_trees ∙ labels_of_tree fs (variable_names g.vars) g.labels g.code g.formed.placed

  args_same : SameArguments f.args g.args f.vars g.vars
  args_same =
      same_arguments f.args g.args f.vars g.vars f.formed.few_args g.formed.few_args f.formed.args_typed g.formed.args_typed (ap (λ (t : FuncTree). t.args) same)

  names_same : variable_names f.vars ≡ variable_names g.vars
  names_same =
      one_appearance (variable_names f.vars) (variable_names g.vars) (Differ-variables f) (Differ-variables g)
      f.args (flat_map variables_of f.code) (flat_map variables_of g.code)
      (names_of_code fs (variable_names f.vars) f.labels f.code f.formed.typed ∙ ap (flat_map names_of) code_trees ∙ sym (names_of_code fs (variable_names g.vars) g.labels g.code g.formed.typed))
      (f.formed.appear ∙ ap Some (sym (names_count f)))
      (ap (λ n. known_after n (flat_map variables_of g.code)) args_same.count ∙ g.formed.appear ∙ ap Some (sym (names_count g)))
      agree
    where
      agree : AgreeBelow (variable_names f.vars) (variable_names g.vars) f.args
      agree x below =
          let x_below : x < g.args = let e = args_same.count in omega arith in
          let e : map (λ (v : VarInfo). v.name) (take f.args f.vars) ≡ map (λ (v : VarInfo). v.name) (take g.args g.vars) = ap (map (λ (v : VarInfo). v.name)) args_same.variables in
          sym (get_or-take f.args (variable_names f.vars) x [] below)
          ∙ ap (λ names. named names x) (take-map (λ (v : VarInfo). v.name) f.args f.vars ∙ e ∙ sym (take-map (λ (v : VarInfo). v.name) g.args g.vars))
          ∙ get_or-take g.args (variable_names g.vars) x [] x_below

  code_same : f.code ≡ g.code
  code_same =
      same_code fs (variable_names f.vars) f.labels differ (Differ-variables f) f.formed.labels_differ f.code g.code
      (in_range (length fs) f called_f)
      (subst (λ ls. AreInRange (length fs) (length (variable_names f.vars)) (length ls) g.code) (sym labels_same)
      (subst (λ V. AreInRange (length fs) (length V) (length g.labels) g.code) (sym names_same) (in_range (length fs) g called_g)))
      (code_trees ∙ (λ i. map (item_tree fs (sym names_same i) (sym labels_same i)) g.code))

  -- a variable's type follows from its place
  types_same : (x : ℕ) (v w : VarInfo) → slice_get f.vars x ≡ Some v → slice_get g.vars x ≡ Some w → v.ty ≡ w.ty
  types_same x v w here there = by (cases_lt x f.args)
    where
      by : (x < f.args) ⊎ (f.args ≤ x) → v.ty ≡ w.ty
      by (inl below) =
          let x_below : x < g.args = let e = args_same.count in omega arith in
          let e : v ≡ w = sym (get_or_from_slice_get f.vars x v v here) ∙ sym (get_or-take f.args f.vars x v below)
          ∙ ap (λ vars. get_or vars x v) args_same.variables ∙ get_or-take g.args g.vars x v x_below ∙ get_or_from_slice_get g.vars x w v there in
          ap (λ (u : VarInfo). u.ty) e
      by (inr from) =
          f.formed.types x v from here ∙ ap (first_type x) code_same ∙ sym (g.formed.types x w (let e = args_same.count in omega arith) there)

  vars_same : f.vars ≡ g.vars
  vars_same = same_variables f.vars g.vars names_same types_same

  pub same_function : f ≡ g
  same_function =
      let name : f.name ≡ g.name = ap (λ (t : FuncTree). t.name) same in
      let ret : f.ret ≡ g.ret = ap (λ (t : FuncTree). t.ret) same in
      Func-equal f g (λ i. record { name = name i; args = args_same.count i; vars = vars_same i; labels = labels_same i; ret = ret i; code = code_same i })

-- ---- the functions of a program

abbrev pub AreAllCalled : ℕ → List Func → Type 0
AreAllCalled count funcs = list_all (λ (f : Func). list_all (λ g. nat_lt g count) (flat_map callees_of f.code)) funcs ≡ true

called_at : (count : ℕ) (funcs : List Func) (at : ℕ) (f : Func) → at < length funcs → f ≡ get_or funcs at f → AreAllCalled count funcs → AreCalled count f
called_at count [] at f within is called = absurd (omega arith)
called_at count (g ∷ funcs) zero f within is called =
    let all = λ (h : Func). list_all (λ g. nat_lt g count) (flat_map callees_of h.code) in
    subst (AreCalled count) (sym is) (AreBelow-tested count (flat_map callees_of g.code) (and_parts (all g) (list_all all funcs) called).0)
called_at count (g ∷ funcs) (suc at) f within is called =
    let all = λ (h : Func). list_all (λ g. nat_lt g count) (flat_map callees_of h.code) in
    called_at count funcs at f (omega arith) is (and_parts (all g) (list_all all funcs) called).1

-- each function of a program is in range
pub program_in_range : (p : Prog) (at : ℕ) (f : Func) → at < length p.funcs → f ≡ get_or p.funcs at f → AreInRange (length p.funcs) (length f.vars) (length f.labels) f.code
program_in_range p at f within is = items_in_range (length p.funcs) f (called_at (length p.funcs) p.funcs at f within is p.formed.called)

pub same_functions : (fs : List (List ℕ)) → Differ fs → (xs ys : List Func) → AreAllCalled (length fs) xs → AreAllCalled (length fs) ys
    → map (function_tree fs) xs ≡ map (function_tree fs) ys → xs ≡ ys
same_functions fs differ [] [] called called' same = refl
same_functions fs differ [] (g ∷ ys) called called' same = absurd cc
same_functions fs differ (f ∷ xs) [] called called' same = absurd cc
same_functions fs differ (f ∷ xs) (g ∷ ys) called called' same =
    let head : function_tree fs f ≡ function_tree fs g = cc in
    let tail : map (function_tree fs) xs ≡ map (function_tree fs) ys = cc in
    let all = λ (h : Func). list_all (λ g. nat_lt g (length fs)) (flat_map callees_of h.code) in
    let c = and_parts (all f) (list_all all xs) called in
    let c' = and_parts (all g) (list_all all ys) called' in
    let one = same_function fs differ f g (AreBelow-tested (length fs) (flat_map callees_of f.code) c.0) (AreBelow-tested (length fs) (flat_map callees_of g.code) c'.0) head in
    let rest = same_functions fs differ xs ys c.1 c'.1 tail in
    λ i. one i ∷ rest i

-- the number of `main` in a list of names
pub record IsMain (names : List (List ℕ)) (main : ℕ) : Type 0 where
  pub within : main < length names
  pub is_named : named names main ≡ main_name

pub is_main : (p : Prog) → IsMain (names_of_functions p.funcs) p.main
is_main p =
    let here = slice_get-map (λ (f : Func). f.name) p.funcs p.main ∙ p.formed.main_is in
    record {
      within = slice_get_within (names_of_functions p.funcs) p.main main_name here;
      is_named = get_or_from_slice_get (names_of_functions p.funcs) p.main main_name [] here;
    }

pub Differ-functions : (p : Prog) → Differ (names_of_functions p.funcs)
Differ-functions p = Differ-named (λ (f : Func). f.name) p.funcs p.formed.differ

pub all_called : (p : Prog) → AreAllCalled (length (names_of_functions p.funcs)) p.funcs
all_called p = subst (λ n. AreAllCalled n p.funcs) (sym (length-map p.funcs (λ (f : Func). f.name))) p.formed.called

-- Programs of which each is numbered from the same functions are one.
pub same_program : (p q : Prog) → names_of_functions p.funcs ≡ names_of_functions q.funcs
    → map (function_tree (names_of_functions p.funcs)) p.funcs ≡ map (function_tree (names_of_functions q.funcs)) q.funcs → p ≡ q
same_program p q names same =
    let called : AreAllCalled (length (names_of_functions p.funcs)) q.funcs = subst (λ ns. AreAllCalled (length ns) q.funcs) (sym names) (all_called q) in
    let funcs = same_functions (names_of_functions p.funcs) (Differ-functions p) p.funcs q.funcs (all_called p) called (same ∙ (λ i. map (function_tree (sym names i)) q.funcs)) in
    let mine = is_main p in
    let theirs : IsMain (names_of_functions p.funcs) q.main = subst (λ ns. IsMain ns q.main) (sym names) (is_main q) in
    Prog-equal p q funcs
    (one_number (names_of_functions p.funcs) (Differ-functions p) p.main q.main mine.within theirs.within (mine.is_named ∙ sym theirs.is_named))
