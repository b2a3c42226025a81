-- How many `get`s and `set`s stand before an item: at most as many as the function has locations, by labels.
use Rattle.std.proofs.Common.{◌≡◌, ◌≢◌, ◌⊎◌, ℕ, zero, suc, ◌+◌, ◌*◌, ◌<◌, ◌≤◌, Bool, true, false, List, [], ◌∷◌, length, map, Option, Some, None, is_some, refl, sym, ap, subst, ◌∙◌, inl, inr, arith, add-one}
use Rattle.std.specs.Prelude.{slice_get}
use Rattle.std.specs.List.{AllPairs}
use Rattle.std.proofs.lemmas.Bool.{and_parts, cases_lt}
use Rattle.std.proofs.lemmas.List.{get_or_past, length-append, length-map}
use Rattle.std.proofs.Math.Nat.{le-max_left, le-max_right, mul_assoc, mul-le-mul, mul-le-mul_left, mul-suc}
use Rattle.bril_tree.specs.declared.function_tree.FuncTree.{FuncTree}
use Rattle.bril_tree.specs.declared.numbered.Instr.{Instr}
use Rattle.bril_tree.specs.declared.numbered.Instr.TheVariants.{Label, Const, Act}
use Rattle.bril_tree.specs.declared.numbered_function.Func.{Func}
use Rattle.bril_tree.specs.declared.program.Prog.{Prog}
use Rattle.bril_tree.specs.FrameWords.{location_count}
use Rattle.bril_tree.specs.Membership.{In}
use Rattle.bril_tree.specs.Shape.{shape_fault_of}
use Rattle.bril_tree.specs.Sites.{AreSitesSound}
use Rattle.bril_tree.proofs.Counting.{no_more}
use Rattle.bril_tree.proofs.Elements.{get_in}
use Rattle.bril_tree.proofs.LabelPoints.{label-at_point}
use Rattle.bril_tree.proofs.Members.{contains_in, in_contains, in_map}
use Rattle.ssa_laws.proofs.lemmas.live_entries.Existing.{width-of, width-there}
use Rattle.program_numbers.specs.Entries.{Enters, IsEntryWidth}
use Rattle.program_numbers.specs.ProgramNumbers.{IsGreatestWidth, greatest, most_locations}
use Rattle.ssa_build.specs.code.Sweep.{falls_at, kept_at, now_at}
use Rattle.ssa_build.specs.tree.Made.{IsLaidFunction}
use Rattle.ssa_search.specs.placing.Wanted.{is_label}
use Rattle.ssa_form_laws.specs.laid.Tables.{gets_by, setting_of, settings_falling, settings_leaving, settings_to, sets_by}
use Rattle.ssa_form_laws.proofs.lemmas.laid.Kept.{kept-few, l}
use Rattle.ssa_form_laws.proofs.lemmas.laid.Leaving.{labels-at, row-only}

-- ---- the greatest of numbers

pub greatest-in : (ns : List ℕ) (n : ℕ) → In n ns → n ≤ greatest ns
greatest-in [] n i = absurd i
greatest-in (m ∷ ns) n (inl e) = let h = le-max_left m (greatest ns) in omega (arith, e, h)
greatest-in (m ∷ ns) n (inr i) = let r = greatest-in ns n i in let h = le-max_right m (greatest ns) in omega (arith, r, h)

spread : (n w : ℕ) → 2 * n * (w + 1) ≡ 2 * (n * w) + 2 * n
spread n w = ap (λ k. 2 * n * k) (add-one w) ∙ mul-suc (2 * n) w ∙ ap (λ k. k + 2 * n) (mul_assoc 2 n w)

-- the label of a point
label-in : (code : List Instr) (k : ℕ) → is_label (slice_get code k) ≡ true → (q : ℕ) × (slice_get code k ≡ Some (Label q))
label-in code k e = by (slice_get code k) refl e
  where
    by : (o : Option Instr) → slice_get code k ≡ o → is_label o ≡ true → (q : ℕ) × (slice_get code k ≡ Some (Label q))
    by None at h = absurd cc
    by (Some (Label q)) at h = (q, at)
    by (Some (Const d ty v)) at h = absurd cc
    by (Some (Act d ty o args fns ls)) at h = absurd cc

module _ (F : Func) (function g : FuncTree) (x : IsLaidFunction F function g) (shaped : shape_fault_of (is_some F.ret) F.code ≡ None) (sound : AreSitesSound F.code) where
  abbrev X : ℕ
  X = location_count F

  few-to : (now : List ℕ) (k : ℕ) → length (settings_to (l F function g x) now k) ≤ X
  few-to now k = let h = kept-few F function g x shaped sound k in let m = length-map (kept_at (l F function g x) k) (setting_of x.find now) in omega (arith, h, m)

  few-gets : (i : ℕ) → length (gets_by (l F function g x) i) ≤ X
  few-gets zero = omega arith
  few-gets (suc k) = let h = kept-few F function g x shaped sound k in let m = length-map (kept_at (l F function g x) k) (λ w. w.definition) in omega (arith, h, m)

  few-falling : (now : List ℕ) (b : Bool) (i : ℕ) → length (settings_falling (l F function g x) now b i) ≤ X
  few-falling now true i = few-to now i
  few-falling now false i = omega arith

  few-leaving : (now row : List ℕ) → length (settings_leaving (l F function g x) now row) ≤ X * length row
  few-leaving now [] = omega arith
  few-leaving now (k ∷ row) =
      let h = few-to now k in
      let rest = few-leaving now row in
      let a = length-append (settings_to (l F function g x) now k) (settings_leaving (l F function g x) now row) in
      let m = mul-suc X (length row) in
      omega (arith, h, rest, a, m)

  -- the labels of a row are entered from its point
  row-enters : (i k : ℕ) → In k (labels-at F function g x i) → (q : ℕ) × (slice_get F.code k ≡ Some (Label q)) × Enters F.code (Some i) q
  row-enters i k h =
      let e = row-only F function g x i k h in
      let b = (and_parts (is_label (slice_get F.code e.0.to)) _ e.2).0 in
      let q = label-in F.code k (subst (λ p. is_label (slice_get F.code p) ≡ true) e.4 b) in
      (q.0, q.1, (e.0, e.1, e.3, ap (slice_get F.code) e.4 ∙ q.1))

  few-labels : (i width : ℕ) → IsEntryWidth F.code width → length (labels-at F function g x i) ≤ width
  few-labels i width w =
      let s = width-of F.code sound (Some i) in
      let most = w.most (Some i) s.0 s.1 in
      let count = s.1.count in
      let few = no_more (λ k q. slice_get F.code k ≡ Some (Label q)) (labels-at F function g x i) s.1.members (row-differ (cases_lt i (length F.code)))
      (λ k h. let e = row-enters i k h in (e.0, in_contains e.0 s.1.members (s.1.all e.0 e.2), e.1))
      (λ j k q a b. sym (label-at_point 0 (length F.labels) F.code F.formed.placed j q a) ∙ label-at_point 0 (length F.labels) F.code F.formed.placed k q b) in
      omega (arith, most, count, few)
    where
      row-differ : (i < length F.code) ⊎ (length F.code ≤ i) → AllPairs (λ j k. j ≢ k) (labels-at F function g x i)
      row-differ (inl low) = (x.are_rows.each i low).differ
      row-differ (inr high) = subst (λ row. AllPairs (λ j k. j ≢ k) row) (sym (get_or_past x.rows i [] (let n = x.are_rows.long in omega (arith, n, high)))) (λ a b d less low. absurd (omega (arith, low)))

  few-before : (i width : ℕ) → IsEntryWidth F.code width → length (gets_by (l F function g x) i) + length (sets_by F x.graph.sites (l F function g x) x.laid.nows i) ≤ 2 * X * (width + 1)
  few-before i width w =
      let now = now_at x.laid.nows i in
      let a = few-gets i in
      let b = few-falling now (falls_at F.code x.graph.sites i) i in
      let c = few-leaving now (labels-at F function g x i) in
      let d = few-labels i width w in
      let all = length-append (settings_falling (l F function g x) now (falls_at F.code x.graph.sites i) i) (settings_leaving (l F function g x) now (labels-at F function g x i)) in
      let p : X * length (labels-at F function g x i) ≤ X * width = mul-le-mul_left X d in
      let s = spread X width in
      omega (arith, a, b, c, all, p, s)

-- so in each function of the program
pub few-in : (P : Prog) (width : ℕ) → IsGreatestWidth P width → (f : ℕ) (F : Func) → slice_get P.funcs f ≡ Some F → (function g : FuncTree) (x : IsLaidFunction F function g) → shape_fault_of (is_some F.ret) F.code ≡ None → AreSitesSound F.code
    → (i : ℕ) → length (gets_by (l F function g x) i) + length (sets_by F x.graph.sites (l F function g x) x.laid.nows i) ≤ 2 * most_locations P * (width + 1)
few-in P width greatest f F there function g x shaped sound i =
    let among = get_in P.funcs f F there in
    let w = width-there F.code sound in
    let most = greatest.most F w.0 (contains_in F P.funcs among) w.1 in
    let few = few-before F function g x shaped sound i w.0 w.1 in
    let locations = greatest-in (map location_count P.funcs) (location_count F) (in_map location_count F P.funcs among) in
    let wide : 2 * location_count F * (w.0 + 1) ≤ 2 * most_locations P * (width + 1) = mul-le-mul (omega (arith, locations)) (omega (arith, most)) in
    omega (arith, few, wide)
