-- The numbered `main` of the demo program.
use Rattle.std.proofs.Common.{◌≡◌, ◌≢◌, ◌∙◌, ◌⊎◌, inl, inr, refl, sym, ap, subst, true, false, ℕ, zero, suc, ◌+◌, ◌*◌, ◌<◌, ◌≤◌, ◌^◌, List, [], ◌∷◌, length, map, get_or, nat_eq, nat_lt, eq-eqb, Option, Some, None, arith, rules}
use Rattle.std.specs.Prelude.{◌==◌, slice_get, codes, All}
use Rattle.std.specs.Fmt.{decimal}
use Rattle.std.specs.List.{AllPairs, flat_map, list_all, range_with_len}
use Rattle.std.proofs.lemmas.Bool.{cases_order}
use Rattle.std.proofs.lemmas.Bool.Decides.{nat_tests}
use Rattle.std.proofs.lemmas.Fmt.{decimal_injective}
use Rattle.std.proofs.lemmas.List.Elements.{All-cons, All-map, All-nil}
use Rattle.std.proofs.lemmas.List.FromFn.{get_or-map-range_with_len, length-map-range_with_len}
use Rattle.std.proofs.lemmas.List.Kept.{AllPairs-cons}
use Rattle.std.proofs.lemmas.Option.{slice_get-get_or, slice_get_within}
use Rattle.bril_tree.specs.declared.numbered.Instr.{Instr}
use Rattle.bril_tree.specs.declared.numbered.Instr.TheVariants.{Act}
use Rattle.bril_tree.specs.declared.numbered.VarInfo.{VarInfo}
use Rattle.bril_tree.specs.declared.operation.Op.TheVariants as op
use Rattle.bril_tree.specs.declared.types.Base.TheVariants as base
use Rattle.bril_tree.specs.declared.types.Ty.{Ty}
use Rattle.bril_tree.specs.FunctionForm.{IsFunctionForm, dest_is_typed, first_type, known_after, label_at, targets_of, variables_of}
use Rattle.bril_names.proofs.Entering.{known-old}
use Rattle.bril_demo.specs.Demo.{plain, result_name}
use Rattle.bril_demo.proofs.Numbered.{number, variable}

-- ---- its code

abbrev pub int : Option Ty
int = Some (plain base.Int)

-- the call of function j, and the print of its result
abbrev pub call_item : ℕ → Instr
call_item j = Act (Some (suc j)) int op.Call (0 ∷ []) (j ∷ []) []

abbrev pub print_item : ℕ → Instr
print_item j = Act None None op.Print (suc j ∷ []) [] []

abbrev pub call_items : ℕ → List Instr
call_items j = call_item j ∷ print_item j ∷ []

-- those of m functions from k on
abbrev pub calls : (k m : ℕ) → List Instr
calls k m = flat_map call_items (range_with_len k m)

abbrev pub main_code : ℕ → List Instr
main_code n = number 0 40 ∷ calls 0 n

abbrev pub result : ℕ → VarInfo
result j = variable (result_name j) base.Int

abbrev pub main_variables : ℕ → List VarInfo
main_variables n = variable (codes "n") base.Int ∷ map result (range_with_len 0 n)

-- ---- variables in the order of their appearance

known_new : (known : ℕ) (xs : List ℕ) → known_after known (known ∷ xs) ≡ known_after (known + 1) xs
known_new known xs = let t : nat_lt known known ≡ false = search rules in let e : (known == known) ≡ true = search rules in rw (t, e)

calls_known : (k m : ℕ) → known_after (suc k) (flat_map variables_of (calls k m)) ≡ Some (suc (k + m))
calls_known k zero = let e : suc k ≡ suc (k + 0) = omega arith in ap Some e
calls_known k (suc m) =
    let rest = flat_map variables_of (calls (k + 1) m) in
    let one : suc k + 1 ≡ suc (k + 1) = omega arith in
    let sum : suc ((k + 1) + m) ≡ suc (k + suc m) = omega arith in
    known_new (suc k) (0 ∷ suc k ∷ rest)
    ∙ known-old (suc k + 1) 0 (suc k ∷ rest) (omega arith)
    ∙ known-old (suc k + 1) (suc k) rest (omega arith)
    ∙ ap (λ (known : ℕ). known_after known rest) one
    ∙ calls_known (k + 1) m
    ∙ ap Some sum

appears : (n : ℕ) → known_after 0 (flat_map variables_of (main_code n)) ≡ Some (length (main_variables n))
appears n =
    let e : suc (0 + n) ≡ suc (length (map result (range_with_len 0 n))) = (let l = length-map-range_with_len result 0 n in omega arith) in
    known_new 0 (flat_map variables_of (calls 0 n)) ∙ calls_known 0 n ∙ ap Some e

-- ---- their types

first_call : (x k m : ℕ) → k ≤ x → x < k + m → first_type (suc x) (calls k m) ≡ int
first_call x k zero from within = absurd (omega arith)
first_call x k (suc m) from within = by (cases_order x k) (λ more. first_call x (k + 1) m more (omega arith))
  where
    by : (x ≡ k) ⊎ ((x < k) ⊎ (k < x)) → (k + 1 ≤ x → first_type (suc x) (calls (k + 1) m) ≡ int) → first_type (suc x) (calls k (suc m)) ≡ int
    by (inl is) rest = let e : (suc x == suc k) ≡ true = search rules in rw e
    by (inr (inl less)) rest = absurd (omega arith)
    by (inr (inr more)) rest = let e : (suc x == suc k) ≡ false = grind (arith, nat_tests) in rw e (rest (omega arith))

abbrev type_in : Option VarInfo → Option Ty
type_in None = None
type_in (Some v) = v.ty

result_at : (n x : ℕ) (v : VarInfo) → slice_get (map result (range_with_len 0 n)) x ≡ Some v → (x < n) × (v.ty ≡ int)
result_at n x v at =
    let within = slice_get_within (map result (range_with_len 0 n)) x v at in
    let long = length-map-range_with_len result 0 n in
    let less : x < n = omega arith in
    let is : get_or (map result (range_with_len 0 n)) x v ≡ result x = get_or-map-range_with_len result 0 n x x v less (omega arith) in
    (less, sym (ap type_in (sym (slice_get-get_or (map result (range_with_len 0 n)) x v within) ∙ at)) ∙ ap (λ (w : VarInfo). w.ty) is)

types_told : (n x : ℕ) (v : VarInfo) → slice_get (main_variables n) x ≡ Some v → v.ty ≡ first_type x (main_code n)
types_told n zero v at = sym (ap type_in at)
types_told n (suc x) v at =
    let r = result_at n x v at in
    let less : x < 0 + n = let l = r.0 in omega arith in
    let e : (suc x == 0) ≡ false = grind (arith, nat_tests) in
    let first : first_type (suc x) (main_code n) ≡ int = rw e (first_call x 0 n (omega arith) less) in
    r.1 ∙ sym first

-- ---- names that differ

results_apart : (n : ℕ) → n < 2 ^ 64 → AllPairs (λ (v w : VarInfo). v.name ≢ w.name) (map result (range_with_len 0 n))
results_apart n small i j d less within same =
    let long = length-map-range_with_len result 0 n in
    let first : get_or (map result (range_with_len 0 n)) i d ≡ result i = get_or-map-range_with_len result 0 n i i d (omega arith) (omega arith) in
    let second : get_or (map result (range_with_len 0 n)) j d ≡ result j = get_or-map-range_with_len result 0 n j j d (omega arith) (omega arith) in
    let names : result_name i ≡ result_name j = sym (ap (λ (v : VarInfo). v.name) first) ∙ same ∙ ap (λ (v : VarInfo). v.name) second in
    let digits : decimal i ≡ decimal j = cc in
    let e = decimal_injective i j (omega arith) (omega arith) digits in omega arith

abbrev pub head_of : List ℕ → ℕ
head_of [] = 0
head_of (byte ∷ bytes) = byte

main_apart : (n : ℕ) → n < 2 ^ 64 → AllPairs (λ (v w : VarInfo). v.name ≢ w.name) (main_variables n)
main_apart n small =
    AllPairs-cons (λ (v w : VarInfo). v.name ≢ w.name) (variable (codes "n") base.Int) (map result (range_with_len 0 n))
    (All-map (λ (w : VarInfo). codes "n" ≢ w.name) result (range_with_len 0 n) (all_of (range_with_len 0 n)))
    (results_apart n small)
  where
    other : (j : ℕ) → codes "n" ≢ (result j).name
    other j e = let f : head_of (codes "n") ≡ head_of (result j).name = ap head_of e in absurd (let g : nat_eq 110 114 ≡ true = eq-eqb 110 114 f in cc)

    all_of : (js : List ℕ) → All (λ j. codes "n" ≢ (result j).name) js
    all_of [] = All-nil (λ j. codes "n" ≢ (result j).name)
    all_of (j ∷ js) = All-cons (λ j. codes "n" ≢ (result j).name) j js (other j) (all_of js)

-- ---- its form

no_labels : (js : List ℕ) → flat_map label_at (flat_map call_items js) ≡ []
no_labels [] = refl
no_labels (j ∷ js) = no_labels js

no_targets : (js : List ℕ) → flat_map targets_of (flat_map call_items js) ≡ []
no_targets [] = refl
no_targets (j ∷ js) = no_targets js

all_typed : (js : List ℕ) → list_all dest_is_typed (flat_map call_items js) ≡ true
all_typed [] = refl
all_typed (j ∷ js) = all_typed js

pub main_form : (n : ℕ) → n < 2 ^ 64 → IsFunctionForm 0 (main_variables n) [] (main_code n)
main_form n small = record {
  few_args = omega arith;
  appear = appears n;
  args_typed = λ x v less at. absurd (omega arith);
  types = λ x v from at. types_told n x v at;
  vars_differ = main_apart n small;
  placed = no_labels (range_with_len 0 n);
  targets = ap (list_all (λ l. nat_lt l 0)) (no_targets (range_with_len 0 n));
  labels_differ = λ i j d less within. absurd (omega arith);
  typed = all_typed (range_with_len 0 n);
}

-- ---- all of its items

-- what holds of each item holds of all
pub all_items : (Q : Instr → Type 0) (n : ℕ) → Q (number 0 40) → ((j : ℕ) → j < n → Q (call_item j)) → ((j : ℕ) → j < n → Q (print_item j)) → All Q (main_code n)
all_items Q n first call print = All-cons Q (number 0 40) (calls 0 n) first (from 0 n (omega arith))
  where
    from : (k m : ℕ) → k + m ≤ n → All Q (calls k m)
    from k zero within = All-nil Q
    from k (suc m) within =
        All-cons Q (call_item k) (print_item k ∷ calls (k + 1) m) (call k (omega arith))
        (All-cons Q (print_item k) (calls (k + 1) m) (print k (omega arith)) (from (k + 1) m (omega arith)))

-- which item stands at a point
pub data Stands (n i : ℕ) (item : Instr) : Type 0 where
  First : i ≡ 0 → item ≡ number 0 40 → Stands n i item
  Call : (j : ℕ) → j < n → i ≡ 1 + 2 * j → item ≡ call_item j → Stands n i item
  Print : (j : ℕ) → j < n → i ≡ 2 + 2 * j → item ≡ print_item j → Stands n i item

stands_from : (n k m i : ℕ) (item : Instr) → k + m ≤ n → slice_get (calls k m) i ≡ Some item → Stands n (1 + 2 * k + i) item
stands_from n k zero i item within at = absurd (let f : None ≡ Some item = at in cc)
stands_from n k (suc m) zero item within at = Call k (omega arith) (omega arith) (let f : Some (call_item k) ≡ Some item = at in cc)
stands_from n k (suc m) (suc zero) item within at = Print k (omega arith) (omega arith) (let f : Some (print_item k) ≡ Some item = at in cc)
stands_from n k (suc m) (suc (suc i)) item within at =
    let e : 1 + 2 * (k + 1) + i ≡ 1 + 2 * k + suc (suc i) = omega arith in
    subst (λ (p : ℕ). Stands n p item) e (stands_from n (k + 1) m i item (omega arith) at)

pub stands : (n i : ℕ) (item : Instr) → slice_get (main_code n) i ≡ Some item → Stands n i item
stands n zero item at = First refl (let f : Some (number 0 40) ≡ Some item = at in cc)
stands n (suc i) item at =
    let e : 1 + 2 * 0 + i ≡ suc i = omega arith in
    subst (λ (p : ℕ). Stands n p item) e (stands_from n 0 n i item (omega arith) at)
