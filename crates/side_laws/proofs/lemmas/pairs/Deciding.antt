-- Whether a run begins at a point is decided.
use Rattle.std.proofs.Common.{◌≡◌, ◌⊎◌, ℕ, zero, suc, ◌+◌, ◌<◌, ◌≤◌, true, List, [], ◌∷◌, length, Option, Some, None, refl, sym, ap, subst, ◌∙◌, inl, inr, ⊎_elim, arith}
use Rattle.std.specs.Prelude.{slice_get, slice_index}
use Rattle.std.proofs.lemmas.Bool.{cases_eq, cases_lt}
use Rattle.bril_tree.specs.declared.numbered.Instr.{Instr}
use Rattle.bril_tree.specs.declared.numbered.Instr.TheVariants.{Act}
use Rattle.bril_tree.specs.declared.operation.Op.TheVariants as op
use Rattle.bril_tree.specs.Step.{point_of}
use Rattle.bril_tree.specs.Walk.{IsReached}
use Rattle.bril_tree.specs.Edge.{leads_away}
use Rattle.bril_tree.proofs.Deciding.{same-bool, same-item, same-option, Decided}
use Rattle.ssa_laws.proofs.lemmas.live_entries.Deciding.{decide-reached}
use Rattle.side_laws.specs.Paired.{Place, Within, Commits, Breaks, item_place, is_guard, labels_of_item, Run, IsRun}

-- ---- the size of a run

module _ (code : List Instr) (k : ℕ) where
  abbrev place : ℕ → Place
  place n = item_place (slice_get code (suc (k + n)))

  -- so many items within, and then a commit
  record Sized : Type 0 where
    size : ℕ
    few : size ≤ 512
    within : (n : ℕ) → n < size → item_place (slice_get code (suc (k + n))) ≡ Within
    closes : item_place (slice_get code (suc (k + size))) ≡ Commits

  sized : (fuel n : ℕ) → n + fuel ≡ 513 → ((m : ℕ) → m < n → place m ≡ Within) → Decided Sized
  sized zero n e all = inr (λ s. let few = s.few in let w = all s.size (omega (arith, few, e)) in let z : Within ≡ Commits = sym w ∙ s.closes in cc)
  sized (suc fuel) n e all = by (place n) refl (λ w. sized fuel (suc n) (omega (arith, e)) (λ m less. ⊎_elim (λ s. subst (λ z. place z ≡ Within) (sym s) w) (λ d. all m (omega (arith, less, d))) (cases_eq m n)))
    where
      by : (p : Place) → place n ≡ p → (place n ≡ Within → Decided Sized) → Decided Sized
      by Within h rest = rest h
      by Commits h rest = inl (record { size = n; few = omega (arith, e); within = all; closes = h })
      by Breaks h rest = inr none
        where
          none : Sized → ⊥
          none s = ⊎_elim (λ l. let z : Within ≡ Commits = sym (all s.size l) ∙ s.closes in cc) (λ g. ⊎_elim (λ same. let z : Breaks ≡ Commits = sym h ∙ ap place same ∙ s.closes in cc) (λ d. let z : Breaks ≡ Within = sym h ∙ s.within n (omega (arith, g, d)) in cc) (cases_eq n s.size)) (cases_lt s.size n)

  -- a guard among the first items
  guarded : (count : ℕ) → ((g : ℕ) × (g < count) × (is_guard (slice_get code (suc (k + g))) ≡ true)) ⊎ ((g : ℕ) → g < count → is_guard (slice_get code (suc (k + g))) ≡ true → ⊥)
  guarded zero = inr (λ g l e. omega (arith, l))
  guarded (suc count) = ⊎_elim (λ e. inl (count, omega arith, e)) (λ n. ⊎_elim (λ r. let l = r.1 in inl (r.0, omega (arith, l), r.2)) (λ none. inr (λ g l e. ⊎_elim (λ s. n (ap (λ m. is_guard (slice_get code (suc (k + m)))) (sym s) ∙ e)) (λ d. none g (omega (arith, l, d)) e) (cases_eq g count))) (guarded count)) (same-bool (is_guard (slice_get code (suc (k + count)))) true)

  one-label : (ls : List ℕ) (l : ℕ) → Decided (ls ≡ l ∷ [])
  one-label [] l = inr (λ e. let z : [] ≡ l ∷ [] = e in cc)
  one-label (m ∷ []) l = ⊎_elim (λ e. inl (ap (λ z. z ∷ []) e)) (λ n. inr (λ e. n (ap (λ z. slice_index z 0) e))) (cases_eq m l)
  one-label (m ∷ n ∷ ls) l = inr (λ e. let z : m ∷ n ∷ ls ≡ l ∷ [] = e in let w = ap length z in omega (arith, w))

  some-label : (ls : List ℕ) → Decided ((l : ℕ) × (ls ≡ l ∷ []))
  some-label [] = inr (λ h. let z : [] ≡ h.0 ∷ [] = h.1 in cc)
  some-label (m ∷ []) = inl (m, refl)
  some-label (m ∷ n ∷ ls) = inr (λ h. let w = ap length h.1 in omega (arith, w))

  abbrev labels : ℕ → List ℕ
  labels n = labels_of_item (slice_get code (suc (k + n)))

  all-labels : (l count : ℕ) → ((n : ℕ) → n < count → is_guard (slice_get code (suc (k + n))) ≡ true → labels n ≡ l ∷ []) ⊎ ((n : ℕ) × (n < count) × (is_guard (slice_get code (suc (k + n))) ≡ true) × (labels n ≡ l ∷ [] → ⊥))
  all-labels l zero = inl (λ n less e. absurd (omega (arith, less)))
  all-labels l (suc count) = ⊎_elim
      (λ all. ⊎_elim (λ ok. inl (λ n less e. ⊎_elim (λ s. subst (λ z. labels z ≡ l ∷ []) (sym s) ok) (λ d. all n (omega (arith, less, d)) e) (cases_eq n count)))
      (λ bad. ⊎_elim (λ g. inr (count, omega arith, g, bad)) (λ ng. inl (λ n less e. ⊎_elim (λ s. absurd (ng (ap (λ m. is_guard (slice_get code (suc (k + m)))) (sym s) ∙ e))) (λ d. all n (omega (arith, less, d)) e) (cases_eq n count))) (same-bool (is_guard (slice_get code (suc (k + count)))) true))
      (one-label (labels count) l))
      (λ b. let less = b.1 in inr (b.0, omega (arith, less), b.2, b.3)) (all-labels l count)

-- ---- a run

-- the item at a point is this one
pub same-at : (o : Option Instr) (b : Instr) → Decided (o ≡ Some b)
same-at o b = same-option same-item o (Some b)

module _ (code : List Instr) where
  abbrev pub RunAt : ℕ → Type 0
  RunAt k = (r : Run) × (r.start ≡ k) × IsRun code r

  module _ (k : ℕ) where
    -- what each run from here has
    any-size : (s : Sized code k) (r : Run) → r.start ≡ k → IsRun code r → r.size ≡ s.size
    any-size s r e is = ⊎_elim
        (λ l. let z : Commits ≡ Within = sym is.closes ∙ ap (λ m. item_place (slice_get code (suc (m + r.size)))) e ∙ s.within r.size l in absurd cc)
        (λ g. ⊎_elim (λ l. let z : Within ≡ Commits = sym (is.within s.size l) ∙ ap (λ m. item_place (slice_get code (suc (m + s.size)))) e ∙ s.closes in absurd cc) (λ h. omega (arith, g, h)) (cases_lt s.size r.size))
        (cases_lt r.size s.size)

    by_bail : (opens : slice_get code k ≡ Some (Act None None op.Speculate [] [] [])) → IsReached code k → (s : Sized code k) → (g : ℕ) → g < s.size → (guard : is_guard (slice_get code (suc (k + g))) ≡ true) → (l : ℕ) → labels_of_item (slice_get code (suc (k + g))) ≡ l ∷ [] → Decided (RunAt k)
    by_bail opens reach s g less guard l named = ⊎_elim labelled (λ b. inr (λ h. wrong b.0 b.1 b.2 b.3 h)) (all-labels code k l s.size)
      where
        bail-is : (h : RunAt k) → h.0.bail ≡ l
        bail-is h =
            let e : suc (h.0.start + g) ≡ suc (k + g) = ap (λ m. suc (m + g)) h.1 in
            let size = any-size s h.0 h.1 h.2 in
            let theirs = h.2.guards g (omega (arith, less, size)) (ap (λ m. is_guard (slice_get code m)) e ∙ guard) in
            ap (λ z. slice_index z 0) (sym theirs ∙ ap (λ m. labels_of_item (slice_get code m)) e ∙ named)

        wrong : (n : ℕ) → n < s.size → is_guard (slice_get code (suc (k + n))) ≡ true → (labels_of_item (slice_get code (suc (k + n))) ≡ l ∷ [] → ⊥) → RunAt k → ⊥
        wrong n low is bad h =
            let e : suc (h.0.start + n) ≡ suc (k + n) = ap (λ m. suc (m + n)) h.1 in
            let size = any-size s h.0 h.1 h.2 in
            bad (ap (λ m. labels_of_item (slice_get code m)) (sym e) ∙ h.2.guards n (omega (arith, low, size)) (ap (λ m. is_guard (slice_get code m)) e ∙ is) ∙ ap (λ z. z ∷ []) (bail-is h))

        labelled : ((n : ℕ) → n < s.size → is_guard (slice_get code (suc (k + n))) ≡ true → labels_of_item (slice_get code (suc (k + n))) ≡ l ∷ []) → Decided (RunAt k)
        labelled all = by (point_of l code) refl
          where
            by : (b : ℕ) → point_of l code ≡ b → Decided (RunAt k)
            by zero e = inr (λ h. let b = h.2.bail_at in let z = ap (λ m. point_of m code) (bail-is h) in omega (arith, e, b, z))
            by (suc before) e = ⊎_elim
                (λ away. inl (record { start = k; size = s.size; bail = l }, refl, record { opens = opens; reached = reach; few = s.few; within = s.within; closes = s.closes; guards = all; guard = g; guard_in = less; guard_is = guard; before = before; bail_at = sym e; away = away }))
                (λ n. inr (λ h. let b = h.2.bail_at in let z = ap (λ m. point_of m code) (bail-is h) in let same : h.2.before ≡ before = omega (arith, e, b, z) in n (ap (λ m. leads_away (slice_get code m)) (sym same) ∙ h.2.away)))
                (same-bool (leads_away (slice_get code before)) true)

    by_size : (opens : slice_get code k ≡ Some (Act None None op.Speculate [] [] [])) → IsReached code k → (s : Sized code k) → Decided (RunAt k)
    by_size opens reach s = ⊎_elim
        (λ g. ⊎_elim (λ l. by_bail opens reach s g.0 g.1 g.2 l.0 l.1)
        (λ n. inr (λ h.
        let e : suc (h.0.start + g.0) ≡ suc (k + g.0) = ap (λ m. suc (m + g.0)) h.1 in
        let size = any-size s h.0 h.1 h.2 in
        let low = g.1 in
        n (h.0.bail, ap (λ m. labels_of_item (slice_get code m)) (sym e) ∙ h.2.guards g.0 (omega (arith, low, size)) (ap (λ m. is_guard (slice_get code m)) e ∙ g.2))))
        (some-label code k (labels_of_item (slice_get code (suc (k + g.0))))))
        (λ none. inr (λ h. let size = any-size s h.0 h.1 h.2 in let low = h.2.guard_in in let e : suc (h.0.start + h.2.guard) ≡ suc (k + h.2.guard) = ap (λ m. suc (m + h.2.guard)) h.1 in none h.2.guard (omega (arith, size, low)) (ap (λ m. is_guard (slice_get code m)) (sym e) ∙ h.2.guard_is)))
        (guarded code k s.size)

    pub decide-run : Decided (RunAt k)
    decide-run = ⊎_elim
        (λ opens. ⊎_elim
        (λ reach. ⊎_elim (by_size opens reach)
        (λ n. inr (λ h. n (record {
          size = h.0.size;
          few = h.2.few;
          within = λ m less. ap (λ z. item_place (slice_get code (suc (z + m)))) (sym h.1) ∙ h.2.within m less;
          closes = ap (λ z. item_place (slice_get code (suc (z + h.0.size)))) (sym h.1) ∙ h.2.closes;
        }))) (sized code k 513 0 (omega arith) (λ m l. absurd (omega (arith, l)))))
        (λ n. inr (λ h. n (subst (IsReached code) h.1 h.2.reached))) (decide-reached code k))
        (λ n. inr (λ h. n (ap (slice_get code) (sym h.1) ∙ h.2.opens))) (same-at (slice_get code k) (Act None None op.Speculate [] [] []))
