-- The rows of branches, the table of labels, and what the shapes and the form of a function say of its labels.
use Rattle.std.proofs.Common.{◌≡◌, ℕ, zero, suc, ◌+◌, ◌<◌, ◌≤◌, Bool, true, false, cond, eqb, ltb, ◌&&◌, not, List, [], ◌∷◌, ◌++◌, length, map, Some, None, refl, sym, ap, ◌∙◌, subst, inl, inr, arith, add-zero}
use Rattle.std.specs.Prelude.{◌⊎◌, slice_get, option_map, is_some}
use Rattle.std.specs.List.{All, flat_map, list_all, prefix_len, position_or_len}
use Rattle.std.proofs.lemmas.Bool.{and_parts, and_from, cond-true, eqb-true, ltb-true, ltb-false, cases_Bool}
use Rattle.std.proofs.lemmas.List.{length-map}
use Rattle.std.proofs.lemmas.List.Elements.{All-nil, All-cons}
use Rattle.std.proofs.lemmas.Option.{slice_get-map, slice_get_within, same_Some}
use Rattle.bril_tree.specs.declared.numbered.Instr.{Instr}
use Rattle.bril_tree.specs.declared.numbered.Instr.TheVariants.{Label, Const, Act}
use Rattle.bril_tree.specs.declared.operation.Op.{Op}
use Rattle.bril_tree.specs.declared.operation.Op.TheVariants as op
use Rattle.bril_tree.specs.Edge.{branches_at, branches_from, item_branches}
use Rattle.bril_tree.specs.FunctionForm.{targets_of}
use Rattle.bril_tree.specs.Shape.{is_action_shaped, is_shaped, shape_fault_of}
use Rattle.flow_graph.specs.declared.branches.Branches.{Branches}
use Rattle.flow_graph.specs.Branches.{branches_of, label_count, HasLabels, branches_from_on, AreBranchRows}

-- ---- rows

length-branches_from_on : (code : List Instr) (k : ℕ) (items : List Instr) → length (branches_from_on code k items) ≡ length items + 1
length-branches_from_on code k [] = refl
length-branches_from_on code k (item ∷ items) = let rest = length-branches_from_on code (suc k) items in omega arith

row_at : (code : List Instr) (k : ℕ) (items : List Instr) (j : ℕ) → j ≤ length items → slice_get (branches_from_on code k items) j ≡ Some (branches_from code (k + j) (slice_get items j))
row_at code k [] zero l = refl
row_at code k [] (suc j) l = absurd (omega arith)
row_at code k (item ∷ items) zero l = ap (λ n. Some (item_branches code n item)) (sym (add-zero k))
row_at code k (item ∷ items) (suc j) l =
    let same : suc k + j ≡ k + suc j = omega arith in
    row_at code (suc k) items j (omega arith) ∙ ap (λ n. Some (branches_from code n (slice_get items j))) same

pub rows_are : (code : List Instr) (rows : List Branches) → map branches_of rows ≡ branches_from_on code 0 code → AreBranchRows code rows
rows_are code rows e =
    let many : length rows ≡ length code + 1 = sym (length-map rows branches_of) ∙ ap length e ∙ length-branches_from_on code 0 code in
    record {
      points = many;
      at = λ p row h. let within = slice_get_within rows p row h in same_Some (branches_of row) (branches_at code p)
          (sym (slice_get-map branches_of rows p ∙ ap (option_map branches_of) h)
          ∙ ap (λ ws. slice_get ws p) e
          ∙ row_at code 0 code p (omega arith)
          ∙ ap (λ n. Some (branches_from code n (slice_get code p))) (let z : 0 + p ≡ p = omega arith in z));
    }

-- ---- labels of items

all_known : (m : ℕ) (labels : List ℕ) → list_all (λ l. ltb l m) labels ≡ true → All (λ l. l < m) labels
all_known m [] h = All-nil (λ l. l < m)
all_known m (l ∷ labels) h =
    let parts = and_parts (ltb l m) (list_all (λ k. ltb k m) labels) h in
    All-cons (λ k. k < m) l labels (ltb-true l m parts.0) (all_known m labels parts.1)

list_all-append : {A : Type 0} (p : A → Bool) (xs ys : List A) → list_all p (xs ++ ys) ≡ true → (list_all p xs ≡ true) × (list_all p ys ≡ true)
list_all-append p [] ys h = (refl, h)
list_all-append p (x ∷ xs) ys h =
    let parts = and_parts (p x) (list_all p (xs ++ ys)) h in
    let rest = list_all-append p xs ys parts.1 in
    (and_from (p x) (list_all p xs) parts.0 rest.0, rest.1)

counted : (returns : Bool) (operation : Op) (dest : Bool) (args funcs labels : ℕ) → is_action_shaped returns operation dest args funcs labels ≡ true → label_count operation ≡ labels
counted returns op.Call dest args funcs labels h = sym (eqb-true labels 0 (and_parts (eqb funcs 1) (eqb labels 0) h).1)
counted returns op.Print dest args funcs labels h = sym (eqb-true labels 0 (and_parts (not dest && eqb funcs 0) (eqb labels 0) h).1)
counted returns _ dest args funcs labels h = sym (eqb-true labels _ (and_parts _ _ h).1)

item_labelled : (returns : Bool) (m : ℕ) (item : Instr) → is_shaped returns item ≡ true → list_all (λ l. ltb l m) (targets_of item) ≡ true → HasLabels m item
item_labelled returns m (Label l) s t = tt
item_labelled returns m (Const dest ty value) s t = tt
item_labelled returns m (Act dest ty operation args funcs labels) s t =
    (counted returns operation (is_some dest) (length args) (length funcs) (length labels) s, all_known m labels t)

all_labelled : (returns : Bool) (m : ℕ) (items : List Instr) → list_all (is_shaped returns) items ≡ true → list_all (λ l. ltb l m) (flat_map targets_of items) ≡ true → All (HasLabels m) items
all_labelled returns m [] s t = All-nil (HasLabels m)
all_labelled returns m (item ∷ items) s t =
    let shaped = and_parts (is_shaped returns item) (list_all (is_shaped returns) items) s in
    let known = list_all-append (λ l. ltb l m) (targets_of item) (flat_map targets_of items) t in
    All-cons (HasLabels m) item items (item_labelled returns m item shaped.0 known.0) (all_labelled returns m items shaped.1 known.1)

all_pass_more : {A : Type 0} (test : A → Bool) (x : A) (xs : List A) → (test x ≡ true) ⊎ (test x ≡ false) → length (x ∷ xs) ≤ prefix_len (λ y. not (not (test y))) (x ∷ xs) → (length xs ≤ prefix_len (λ y. not (not (test y))) xs → list_all test xs ≡ true) → list_all test (x ∷ xs) ≡ true
all_pass_more test x xs (inl t) h rest =
    let more : suc (length xs) ≤ 1 + prefix_len (λ y. not (not (test y))) xs = subst (λ b. suc (length xs) ≤ cond (not (not b)) (1 + prefix_len (λ y. not (not (test y))) xs) 0) t h in
    and_from (test x) (list_all test xs) t (rest (omega arith))
all_pass_more test x xs (inr f) h rest =
    let none : suc (length xs) ≤ 0 = subst (λ b. suc (length xs) ≤ cond (not (not b)) (1 + prefix_len (λ y. not (not (test y))) xs) 0) f h in
    absurd (omega arith)

at_none : (n m : ℕ) → (ltb n m ≡ true) ⊎ (ltb n m ≡ false) → cond (ltb n m) (Some n) None ≡ None → m ≤ n
at_none n m (inl t) h = absurd (let e : Some n ≡ None = sym (cond-true (ltb n m) (Some n) None t) ∙ h in cc)
at_none n m (inr f) h = ltb-false n m f

all_pass : {A : Type 0} (test : A → Bool) (xs : List A) → length xs ≤ prefix_len (λ x. not (not (test x))) xs → list_all test xs ≡ true
all_pass test [] h = refl
all_pass test (x ∷ xs) h = all_pass_more test x xs (cases_Bool (test x)) h (λ l. all_pass test xs l)

-- each item has the shape of its operation
pub all_shaped : (returns : Bool) (items : List Instr) → shape_fault_of returns items ≡ None → list_all (is_shaped returns) items ≡ true
all_shaped returns items h =
    all_pass (is_shaped returns) items (at_none (position_or_len (λ item. not (is_shaped returns item)) items) (length items) (cases_Bool _) h)

pub code_labelled : (returns : Bool) (m : ℕ) (code : List Instr) → shape_fault_of returns code ≡ None → list_all (λ l. ltb l m) (flat_map targets_of code) ≡ true → All (HasLabels m) code
code_labelled returns m code s t = all_labelled returns m code (all_shaped returns code s) t
