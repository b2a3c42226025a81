-- What stands at a point of a program, with its function and its names.
use Rattle.std.proofs.Common.{◌≡◌, ℕ, ◌<◌, List, length, Option, Some, None, refl, sym, ap, subst, ◌∙◌, arith}
use Rattle.std.specs.Prelude.{slice_get}
use Rattle.std.specs.List.{flat_map}
use Rattle.std.specs.Option.{option_map}
use Rattle.std.proofs.lemmas.List.{length-map}
use Rattle.std.proofs.lemmas.Option.{get_or_from_slice_get, slice_get_within, same_Some}
use Rattle.bril_tree.specs.declared.function_tree.Item.TheVariants as item
use Rattle.bril_tree.specs.declared.numbered.Instr.{Instr}
use Rattle.bril_tree.specs.declared.numbered.Instr.TheVariants.{Label, Const, Act}
use Rattle.bril_tree.specs.declared.numbered_function.Func.{Func}
use Rattle.bril_tree.specs.declared.program.Prog.{Prog}
use Rattle.bril_tree.specs.FunctionForm.{callees_of}
use Rattle.bril_tree.specs.Numbered.{named, variable_names, item_tree, names_of_functions, names_in, point_tree, tree_at}
use Rattle.bril_tree.specs.Step.{items_of, code_of, item_at, point_of}
use Rattle.bril_tree.proofs.LabelPoints.{label-point, label-at_point}
use Rattle.bril_tree.proofs.Trees.{found_at, nothing_at}
use Rattle.bril_names.specs.Faults.{Differ}
use Rattle.bril_names.specs.Range.{AreBelow, IsInRange, AreInRange}
use Rattle.bril_names.proofs.Functions.{program_in_range, in_range, Differ-variables}
use Rattle.pass_edit_laws.specs.names.Named.{SameName}
use Rattle.bril_names.proofs.Items.{AreInRange-at}
use Rattle.bril_names.proofs.Naming.{one_number}

pub record Found (X : Prog) (f i : ℕ) (a : Instr) : Type 0 where
  pub function : Func
  pub there : slice_get X.funcs f ≡ Some function
  pub range : IsInRange (length (names_of_functions X.funcs)) (length (names_in (slice_get X.funcs f))) (length function.labels) a
  pub tree : tree_at X f i ≡ Some (item_tree (names_of_functions X.funcs) (names_in (slice_get X.funcs f)) function.labels a)

code_range : (X : Prog) (f : ℕ) (F : Func) → slice_get X.funcs f ≡ Some F → AreInRange (length (names_of_functions X.funcs)) (length (variable_names F.vars)) (length F.labels) F.code
code_range X f F there =
    let within = slice_get_within X.funcs f F there in
    let is = sym (get_or_from_slice_get X.funcs f F F there) in
    let called = (program_in_range X f F within is).callees in
    in_range (length (names_of_functions X.funcs)) F (subst (λ n. AreBelow n (flat_map callees_of F.code)) (sym (length-map X.funcs (λ (g : Func). g.name))) called)

pub found : (X : Prog) (f i : ℕ) (a : Instr) → item_at X f i ≡ Some a → Found X f i a
found X f i a at =
    let h = found_at X f i a at in
    let fs = names_of_functions X.funcs in
    let F = h.function in
    let here : IsInRange (length fs) (length (variable_names F.vars)) (length F.labels) a =
    AreInRange-at (length fs) (length (variable_names F.vars)) (length F.labels) F.code i a (slice_get_within F.code i a h.here) (sym (get_or_from_slice_get F.code i a a h.here)) (code_range X f F h.there) in
    record {
      function = F;
      there = h.there;
      range = subst (λ o. IsInRange (length fs) (length (names_in o)) (length F.labels) a) (sym h.there) here;
      tree = subst (λ o. tree_at X f i ≡ Some (item_tree fs (names_in o) F.labels a)) (sym h.there) h.tree;
    }

-- the same where the functions have the names of another program's
pub record FoundUnder (fs : List (List ℕ)) (X : Prog) (f i : ℕ) (labels : List (List ℕ)) (a : Instr) : Type 0 where
  pub range : IsInRange (length fs) (length (names_in (slice_get X.funcs f))) (length labels) a
  pub tree : tree_at X f i ≡ Some (item_tree fs (names_in (slice_get X.funcs f)) labels a)

pub found_under : (fs : List (List ℕ)) (X : Prog) → fs ≡ names_of_functions X.funcs → (f i : ℕ) (a : Instr) (h : Found X f i a) → FoundUnder fs X f i h.function.labels a
found_under fs X same f i a h = record {
  range = subst (λ ns. IsInRange (length ns) (length (names_in (slice_get X.funcs f))) (length h.function.labels) a) (sym same) h.range;
  tree = subst (λ ns. tree_at X f i ≡ Some (item_tree ns (names_in (slice_get X.funcs f)) h.function.labels a)) (sym same) h.tree;
}

pub Differ-in : (o : Option Func) → Differ (names_in o)
Differ-in None = λ i j d l within same. absurd (omega arith)
Differ-in (Some F) = Differ-variables F

-- ---- labels

pub label_found : (X : Prog) (f : ℕ) (F : Func) (l : ℕ) → slice_get X.funcs f ≡ Some F → l < length F.labels → tree_at X f (point_of l (code_of X f)) ≡ Some (item.Label (named F.labels l))
label_found X f F l there less =
    let fs = names_of_functions X.funcs in
    subst (λ o. point_tree fs o (point_of l (items_of o)) ≡ Some (item.Label (named F.labels l))) (sym there)
    (ap (option_map (item_tree fs (variable_names F.vars) F.labels)) (label-point l (length F.labels) F.code F.formed.placed less))

-- a label stands at one point alone
record LabelThere (X : Prog) (f i : ℕ) (name : List ℕ) : Type 0 where
  function : Func
  there : slice_get X.funcs f ≡ Some function
  number : ℕ
  at : slice_get function.code i ≡ Some (Label number)
  within : number < length function.labels
  is : named function.labels number ≡ name

label_there : (X : Prog) (f i : ℕ) (name : List ℕ) → tree_at X f i ≡ Some (item.Label name) → LabelThere X f i name
label_there X f i name at = by (item_at X f i) refl
  where
    by_item : (a : Instr) → item_at X f i ≡ Some a → (h : Found X f i a) → item_tree (names_of_functions X.funcs) (names_in (slice_get X.funcs f)) h.function.labels a ≡ item.Label name → LabelThere X f i name
    by_item (Label l) here h e = record {
      function = h.function;
      there = h.there;
      number = l;
      at = ap (λ o. slice_get (items_of o) i) (sym h.there) ∙ here;
      within = h.range.places.0;
      is = (let n : named h.function.labels l ≡ name = cc in n);
    }
    by_item (Const d ty v) here h e = absurd cc
    by_item (Act d ty o args fns ls) here h e = absurd cc

    by : (o : Option Instr) → item_at X f i ≡ o → LabelThere X f i name
    by None here = absurd (let h = sym (nothing_at X f i here) ∙ at in cc)
    by (Some a) here = let h = found X f i a here in by_item a here h (same_Some _ _ (sym h.tree ∙ at))

pub label_once : (X : Prog) (f i j : ℕ) (name : List ℕ) → tree_at X f i ≡ Some (item.Label name) → tree_at X f j ≡ Some (item.Label name) → i ≡ j
label_once X f i j name at bt =
    let a = label_there X f i name at in
    let b = label_there X f j name bt in
    let same : a.function ≡ b.function = same_Some _ _ (sym a.there ∙ b.there) in
    let F = b.function in
    let aa : slice_get F.code i ≡ Some (Label a.number) = subst (λ (G : Func). slice_get G.code i ≡ Some (Label a.number)) same a.at in
    let within : a.number < length F.labels = subst (λ (G : Func). a.number < length G.labels) same a.within in
    let is : named F.labels a.number ≡ name = subst (λ (G : Func). named G.labels a.number ≡ name) same a.is in
    let number : a.number ≡ b.number = one_number F.labels F.formed.labels_differ a.number b.number within b.within (is ∙ sym b.is) in
    sym (label-at_point 0 (length F.labels) F.code F.formed.placed i a.number aa) ∙ ap (λ n. point_of n F.code) number ∙ label-at_point 0 (length F.labels) F.code F.formed.placed j b.number b.at

-- ---- variables of one name, by two functions and by their number

module _ (P Q : Prog) (f : ℕ) (F G : Func) (p : slice_get P.funcs f ≡ Some F) (q : slice_get Q.funcs f ≡ Some G) (x y : ℕ) where
  pub same_name-in : SameName (variable_names F.vars) (variable_names G.vars) x y → SameName (names_in (slice_get P.funcs f)) (names_in (slice_get Q.funcs f)) x y
  same_name-in n = subst (λ o. SameName (names_in o) (names_in (slice_get Q.funcs f)) x y) (sym p) (subst (λ o. SameName (variable_names F.vars) (names_in o) x y) (sym q) n)

  pub same_name-of : SameName (names_in (slice_get P.funcs f)) (names_in (slice_get Q.funcs f)) x y → SameName (variable_names F.vars) (variable_names G.vars) x y
  same_name-of n = subst (λ o. SameName (variable_names F.vars) (names_in o) x y) q (subst (λ o. SameName (names_in o) (names_in (slice_get Q.funcs f)) x y) p n)
