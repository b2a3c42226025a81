-- Labels: each stands at its point, and the table of labels has these points.
use Rattle.std.proofs.Common.{◌≡◌, ◌⊎◌, ℕ, zero, suc, ◌+◌, ◌<◌, ◌≤◌, Bool, true, false, cond, eqb, List, [], ◌∷◌, length, Some, None, refl, sym, ap, ◌∙◌, subst, inl, inr, ⊎_elim, arith, add-zero}
use Rattle.std.specs.Prelude.{slice_get, ◌==◌}
use Rattle.std.specs.List.{flat_map, range_with_len}
use Rattle.std.proofs.lemmas.Bool.{cases_lt, cond-true, cond-false, eqb-true, eqb-false, eq-eqb, ne_eqb}
use Rattle.std.proofs.lemmas.Option.{same_Some}
use Rattle.bril_tree.specs.declared.numbered.Instr.{Instr}
use Rattle.bril_tree.specs.declared.numbered.Instr.TheVariants.{Label, Const, Act}
use Rattle.bril_tree.specs.FunctionForm.{label_at}
use Rattle.bril_tree.specs.Labels.{labels_from, IsLabelTable}
use Rattle.bril_tree.specs.Membership.{In}
use Rattle.bril_tree.specs.Step.{point_of}
use Rattle.bril_tree.specs.declared.numbered_function.Func.{Func}

-- ---- a label stands at its point

pub in_range : (k n x : ℕ) → k ≤ x → x < k + n → In x (range_with_len k n)
in_range k zero x low high = absurd (omega arith)
in_range k (suc n) x low high = ⊎_elim (λ e. inl e) (λ d. inr (in_range (k + 1) n x (omega (arith, d)) (omega arith))) (either (cases_lt k x))
  where
    either : (k < x) ⊎ (x ≤ k) → (x ≡ k) ⊎ (k < x)
    either (inl l) = inr l
    either (inr l) = inl (omega arith)

point-by_test : (d : Bool) (l m : ℕ) (items : List Instr) → (m == l) ≡ d → (In l (m ∷ flat_map label_at items)) → (In l (flat_map label_at items) → slice_get items (point_of l items) ≡ Some (Label l))
    → slice_get (Label m ∷ items) (cond (m == l) 0 (suc (point_of l items))) ≡ Some (Label l)
point-by_test true l m items e i rest =
    let same : m ≡ l = eqb-true m l e in
    ap (λ b. slice_get (Label m ∷ items) (cond b 0 (suc (point_of l items)))) e ∙ ap (λ n. Some (Label n)) same
point-by_test false l m items e (inl is) rest = absurd (eqb-false m l e (sym is))
point-by_test false l m items e (inr i) rest = ap (λ b. slice_get (Label m ∷ items) (cond b 0 (suc (point_of l items)))) e ∙ rest i

-- a label that stands somewhere stands at its point
point-is : (l : ℕ) (items : List Instr) → In l (flat_map label_at items) → slice_get items (point_of l items) ≡ Some (Label l)
point-is l [] i = absurd i
point-is l (Label m ∷ items) i = point-by_test (m == l) l m items refl i (λ h. point-is l items h)
point-is l (Const d ty v ∷ items) i = point-is l items i
point-is l (Act d ty o args fns ls ∷ items) i = point-is l items i

pub label-point : (l count : ℕ) (items : List Instr) → flat_map label_at items ≡ range_with_len 0 count → l < count → slice_get items (point_of l items) ≡ Some (Label l)
label-point l count items placed less = point-is l items (subst (In l) (sym placed) (in_range 0 count l (omega arith) (omega arith)))

-- a label among items stands at its point
pub range_low : (k n x : ℕ) → In x (range_with_len k n) → k ≤ x
range_low k zero x i = absurd i
range_low k (suc n) x (inl e) = omega arith
range_low k (suc n) x (inr i) = let h = range_low (k + 1) n x i in omega arith

pub range_high : (k n x : ℕ) → In x (range_with_len k n) → x < k + n
range_high k zero x i = absurd i
range_high k (suc n) x (inl e) = omega arith
range_high k (suc n) x (inr i) = let h = range_high (k + 1) n x i in omega arith

pub label_listed : (items : List Instr) (j m : ℕ) → slice_get items j ≡ Some (Label m) → In m (flat_map label_at items)
label_listed [] j m e = absurd (let f : None ≡ Some (Label m) = e in cc)
label_listed (Label l ∷ items) zero m e = inl (let s : Label l ≡ Label m = same_Some _ _ e in cc)
label_listed (Const d ty v ∷ items) zero m e = absurd (let s : Const d ty v ≡ Label m = same_Some _ _ e in cc)
label_listed (Act d ty o args fns ls ∷ items) zero m e = absurd (let s : Act d ty o args fns ls ≡ Label m = same_Some _ _ e in cc)
label_listed (Label l ∷ items) (suc j) m e = inr (label_listed items j m e)
label_listed (Const d ty v ∷ items) (suc j) m e = label_listed items j m e
label_listed (Act d ty o args fns ls ∷ items) (suc j) m e = label_listed items j m e

pub label-at_point : (k n : ℕ) (items : List Instr) → flat_map label_at items ≡ range_with_len k n → (j m : ℕ) → slice_get items j ≡ Some (Label m) → point_of m items ≡ j
label-at_point k n [] placed j m e = absurd (let f : None ≡ Some (Label m) = e in cc)
label-at_point k n (Label l ∷ items) placed zero m e =
    let s : Label l ≡ Label m = same_Some _ _ e in
    let t : l ≡ m = cc in
    ap (λ b. cond b 0 (suc (point_of m items))) (eq-eqb l m t)
label-at_point k n (Const d ty v ∷ items) placed zero m e = absurd (let s : Const d ty v ≡ Label m = same_Some _ _ e in cc)
label-at_point k n (Act d ty o args fns ls ∷ items) placed zero m e = absurd (let s : Act d ty o args fns ls ≡ Label m = same_Some _ _ e in cc)
label-at_point k zero (Label l ∷ items) placed (suc j) m e = absurd cc
label-at_point k (suc n) (Label l ∷ items) placed (suc j) m e =
    let first : l ≡ k = cc in
    let rest : flat_map label_at items ≡ range_with_len (k + 1) n = cc in
    let low = range_low (k + 1) n m (subst (In m) rest (label_listed items j m e)) in
    ap (λ b. cond b 0 (suc (point_of m items))) (ne_eqb l m (λ s. omega (arith, s, first, low))) ∙ ap suc (label-at_point (k + 1) n items rest j m e)
label-at_point k n (Const d ty v ∷ items) placed (suc j) m e = ap suc (label-at_point k n items placed j m e)
label-at_point k n (Act d ty o args fns ls ∷ items) placed (suc j) m e = ap suc (label-at_point k n items placed j m e)

-- so a label stands at one point
pub label-one : (F : Func) (j k l : ℕ) → slice_get F.code j ≡ Some (Label l) → slice_get F.code k ≡ Some (Label l) → j ≡ k
label-one F j k l a b = sym (label-at_point 0 (length F.labels) F.code F.formed.placed j l a) ∙ label-at_point 0 (length F.labels) F.code F.formed.placed k l b

-- ---- the table of labels

-- where the labels are numbered from one on as they stand, each point in the table is its label's
table_point : (k i : ℕ) (items : List Instr) (m : ℕ) → flat_map label_at items ≡ range_with_len k m → (j : ℕ) → j < m → slice_get (labels_from i items) j ≡ Some (i + point_of (k + j) items)
table_point k i [] zero e j l = absurd (omega arith)
table_point k i [] (suc m) e j l = absurd (let f : [] ≡ k ∷ range_with_len (k + 1) m = e in cc)
table_point k i (Label x ∷ items) zero e j l = absurd (omega arith)
table_point k i (Label x ∷ items) (suc m) e zero l =
    let both : x ∷ flat_map label_at items ≡ k ∷ range_with_len (k + 1) m = e in
    let same : x ≡ k = cc in
    let here : eqb x (k + 0) ≡ true = eq-eqb x (k + 0) (omega arith) in
    ap (λ n. Some n) (sym (ap (λ n. i + n) (cond-true (eqb x (k + 0)) 0 (suc (point_of (k + 0) items)) here) ∙ add-zero i))
table_point k i (Label x ∷ items) (suc m) e (suc j) l =
    let both : x ∷ flat_map label_at items ≡ k ∷ range_with_len (k + 1) m = e in
    let same : x ≡ k = cc in
    let rest : flat_map label_at items ≡ range_with_len (k + 1) m = cc in
    let other : eqb x (k + suc j) ≡ false = ne_eqb x (k + suc j) (λ h. omega arith) in
    let moved : (k + 1) + j ≡ k + suc j = omega arith in
    let counted : suc i + point_of (k + suc j) items ≡ i + suc (point_of (k + suc j) items) = omega arith in
    table_point (k + 1) (suc i) items m rest j (omega arith)
    ∙ ap (λ n. Some (suc i + point_of n items)) moved
    ∙ ap (λ n. Some n) (counted ∙ sym (ap (λ n. i + n) (cond-false (eqb x (k + suc j)) 0 (suc (point_of (k + suc j) items)) other)))
table_point k i (Const dest ty value ∷ items) m e j l = table_point k (suc i) items m e j l ∙ ap Some (let s : suc i + point_of (k + j) items ≡ i + suc (point_of (k + j) items) = omega arith in s)
table_point k i (Act dest ty operation args funcs labels ∷ items) m e j l = table_point k (suc i) items m e j l ∙ ap Some (let s : suc i + point_of (k + j) items ≡ i + suc (point_of (k + j) items) = omega arith in s)

length-labels_from : (k i : ℕ) (items : List Instr) (m : ℕ) → flat_map label_at items ≡ range_with_len k m → length (labels_from i items) ≡ m
length-labels_from k i [] zero e = refl
length-labels_from k i [] (suc m) e = absurd (let f : [] ≡ k ∷ range_with_len (k + 1) m = e in cc)
length-labels_from k i (Label x ∷ items) zero e = absurd (let f : x ∷ flat_map label_at items ≡ [] = e in cc)
length-labels_from k i (Label x ∷ items) (suc m) e =
    let both : x ∷ flat_map label_at items ≡ k ∷ range_with_len (k + 1) m = e in
    ap suc (length-labels_from (k + 1) (suc i) items m (cc))
length-labels_from k i (Const dest ty value ∷ items) m e = length-labels_from k (suc i) items m e
length-labels_from k i (Act dest ty operation args funcs labels ∷ items) m e = length-labels_from k (suc i) items m e

pub labels_are_placed : (code : List Instr) (m : ℕ) → flat_map label_at code ≡ range_with_len 0 m → length (labels_from 0 code) ≡ m
labels_are_placed code m e = length-labels_from 0 0 code m e

pub label_table : (code : List Instr) (m : ℕ) → flat_map label_at code ≡ range_with_len 0 m → IsLabelTable code (labels_from 0 code)
label_table code m e = record {
  at = λ l h.
      let many = length-labels_from 0 0 code m e in
      let zeros : (n : ℕ) → 0 + n ≡ n = λ n. omega arith in
      table_point 0 0 code m e l (omega arith) ∙ ap (λ n. Some n) (zeros (point_of (0 + l) code) ∙ ap (λ n. point_of n code) (zeros l));
}
