-- The walks of a tidied function: each is matched by one of the program.
use Rattle.std.proofs.Common.{◌≡◌, ◌⊎◌, ℕ, zero, suc, ◌+◌, ◌<◌, ◌≤◌, Bool, true, false, List, [], ◌∷◌, ◌++◌, length, map, Option, Some, None, refl, sym, ap, subst, ◌∙◌, inl, inr, ⊎_elim, cond, arith}
use Rattle.std.proofs.lemmas.Option.{slice_get_past}
use Rattle.bril_tree.specs.declared.numbered.Instr.{Instr}
use Rattle.bril_tree.specs.declared.numbered.Instr.TheVariants.{Label, Const, Act}
use Rattle.bril_tree.specs.declared.operation.Op.TheVariants as op
use Rattle.bril_tree.specs.declared.program.Prog.{Prog}
use Rattle.bril_tree.specs.Accepted.{IsAccepted}
use Rattle.bril_tree.specs.Assigned.{assigned_of}
use Rattle.bril_tree.specs.Edge.{Branch, onward}
use Rattle.bril_tree.specs.FunctionForm.{listed}
use Rattle.bril_tree.specs.Operand.{Variable, dest_of}
use Rattle.bril_tree.specs.Shape.{is_shaped, shape_of}
use Rattle.bril_tree.specs.Step.{code_of, item_at}
use Rattle.bril_tree.specs.Walk.{end_of}
use Rattle.pass_edit_laws.specs.walks.Matched.{Covers, WalksMatch, MatchedWalk, MatchesWalks}
use Rattle.pass_edit_laws.proofs.lemmas.steps.Shapes.{shaped_here}
use Rattle.bril_tree.proofs.Shapes.{dest_none}
use Rattle.pass_edit_laws.proofs.lemmas.walks.Walks.{regular_branch_matched, alone-lifts}
use Rattle.bril_tree.proofs.Branches.{walk_within}
use Rattle.bril_tree.proofs.Elements.{past_end}
use Rattle.tidy_code.proofs.Points.{kept_count, IsNop, Tidied}
use Rattle.tidy_code.proofs.Kept.{count-dropped}
use Rattle.tidy_code.proofs.Refines.{tidy_plan, preserves, nop-goes_on}

-- ---- the number of the kept item at an index

module _ (keep : ℕ → Bool) where
  -- among n numbers from i on the one that is kept after j others; the end where there is none
  pub nth_kept : ℕ → ℕ → ℕ → ℕ
  nth_kept zero i j = i
  nth_kept (suc n) i zero = cond (keep i) i (nth_kept n (suc i) zero)
  nth_kept (suc n) i (suc j) = nth_kept n (suc i) (cond (keep i) j (suc j))

  nth-is : (n i j : ℕ) → (keep (nth_kept n i j) ≡ true) ⊎ (nth_kept n i j ≡ i + n)
  unfolding nth_kept
  nth-is zero i j = inr (omega arith)
  nth-is (suc n) i zero = by_test (keep i) refl (nth-is n (suc i) zero)
    where
      by_test : (b : Bool) → keep i ≡ b → (keep (nth_kept n (suc i) zero) ≡ true) ⊎ (nth_kept n (suc i) zero ≡ suc i + n) → (keep (cond (keep i) i (nth_kept n (suc i) zero)) ≡ true) ⊎ (cond (keep i) i (nth_kept n (suc i) zero) ≡ i + suc n)
      by_test true e r = inl (ap (λ b. keep (cond b i (nth_kept n (suc i) zero))) e ∙ e)
      by_test false e (inl r) = inl (ap (λ b. keep (cond b i (nth_kept n (suc i) zero))) e ∙ r)
      by_test false e (inr r) = inr (ap (λ b. cond b i (nth_kept n (suc i) zero)) e ∙ r ∙ (let z : suc i + n ≡ i + suc n = omega arith in z))
  nth-is (suc n) i (suc j) = ⊎_elim inl (λ e. inr (omega (arith, e))) (nth-is n (suc i) (cond (keep i) j (suc j)))

  -- a kept number, or the end, is found again by its count
  pub nth-count : (n i k : ℕ) → k ≤ n → (keep (i + k) ≡ true) ⊎ (k ≡ n) → nth_kept n i (kept_count keep i k) ≡ i + k
  unfolding nth_kept
  nth-count zero i k le h = omega arith
  nth-count (suc n) i zero le (inl e) = let z : i + zero ≡ i = omega arith in ap (λ b. cond b i (nth_kept n (suc i) zero)) (ap keep (sym z) ∙ e) ∙ sym z
  nth-count (suc n) i zero le (inr e) = absurd (omega arith)
  nth-count (suc n) i (suc k) le h =
      by_test n i (kept_count keep (suc i) k) (i + suc k) (keep i) refl
      (nth-count n (suc i) k (omega arith) (⊎_elim (λ e. inl (let z : suc i + k ≡ i + suc k = omega arith in ap keep z ∙ e)) (λ e. inr (omega (arith, e))) h) ∙ (let z : suc i + k ≡ i + suc k = omega arith in z))
    where
      by_test : (n i c m : ℕ) (b : Bool) → keep i ≡ b → nth_kept n (suc i) c ≡ m → nth_kept (suc n) i (cond (keep i) (suc c) c) ≡ m
      by_test n i c m true e r = ap (λ b. nth_kept (suc n) i (cond b (suc c) c)) e ∙ ap (λ b. nth_kept n (suc i) (cond b c (suc c))) e ∙ r
      by_test n i zero m false e r = ap (λ b. nth_kept (suc n) i (cond b 1 0)) e ∙ ap (λ b. cond b i (nth_kept n (suc i) zero)) e ∙ r
      by_test n i (suc c) m false e r = ap (λ b. nth_kept (suc n) i (cond b (suc (suc c)) (suc c))) e ∙ ap (λ b. nth_kept n (suc i) (cond b c (suc c))) e ∙ r

module _ (P Q : Prog) (keep : ℕ → ℕ → Bool) (accepted : IsAccepted P) (t : Tidied P keep Q) (f args result_args : ℕ) where
  nop-assigns : (a : Instr) (ret : Bool) → is_shaped ret a ≡ true → IsNop a → dest_of a ≡ None
  nop-assigns (Label l) ret s n = refl
  nop-assigns (Const d ty v) ret s n = absurd n
  nop-assigns (Act d ty op.Nop args fns ls) ret s n = dest_none (shape_of ret op.Nop) d (length args) (length fns) (length ls) refl s
  nop-assigns (Act d ty _ args fns ls) ret s n = absurd n

  -- a walk of P is drawn on past what is dropped
  pub record Drawn (v : List Branch) : Type 0 where
    pub matched : MatchedWalk (tidy_plan P Q keep t) P Q f args result_args v
    pub stays : (keep f (end_of matched.walk) ≡ true) ⊎ (item_at P f (end_of matched.walk) ≡ None)

  one_more : (v : List Branch) (l : MatchedWalk (tidy_plan P Q keep t) P Q f args result_args v) (a : Instr) → item_at P f (end_of l.walk) ≡ Some a → keep f (end_of l.walk) ≡ false → WalksMatch (tidy_plan P Q keep t) P Q f args result_args (onward (end_of l.walk) ∷ l.walk) v
  one_more v l a at e =
      let i = end_of l.walk in
      let nop = t.dropped f i a at e (record { walk = l.walk; is = l.matches.is; ends = refl }) in
      let s = shaped_here P accepted f i a at in
      let count : kept_count (keep f) 0 (suc i) ≡ kept_count (keep f) 0 i = count-dropped (keep f) 0 i (let z : 0 + i ≡ i = omega arith in ap (keep f) z ∙ e) in
      alone-lifts (tidy_plan P Q keep t) P Q f args result_args accepted l.walk v l.matches a at (nop-goes_on a nop) (l.matches.points ∙ sym count)
      (subst (λ d. Covers ((tidy_plan P Q keep t).LocationsMatch f (suc i) (end_of v)) (map Variable (listed d) ++ (assigned_of (code_of P f) args l.walk).locations) (assigned_of (code_of Q f) result_args v).locations) (sym (nop-assigns a s.ret s.shaped nop)) l.matches.locations)

  draw : (fuel : ℕ) (v : List Branch) (l : MatchedWalk (tidy_plan P Q keep t) P Q f args result_args v) → length (code_of P f) < fuel + end_of l.walk → Drawn v
  draw zero v l enough = record { matched = l; stays = inr (slice_get_past (code_of P f) (end_of l.walk) (omega arith)) }
  draw (suc fuel) v l enough =
      by (item_at P f (end_of l.walk)) (keep f (end_of l.walk)) refl refl (λ a at e. draw fuel v (record { walk = onward (end_of l.walk) ∷ l.walk; matches = one_more v l a at e }) (omega arith))
    where
      by : (o : Option Instr) (b : Bool) → item_at P f (end_of l.walk) ≡ o → keep f (end_of l.walk) ≡ b → ((a : Instr) → item_at P f (end_of l.walk) ≡ Some a → keep f (end_of l.walk) ≡ false → Drawn v) → Drawn v
      by None b at e rest = record { matched = l; stays = inr at }
      by (Some a) true at e rest = record { matched = l; stays = inl e }
      by (Some a) false at e rest = rest a at e

  pub drawn : (v : List Branch) (l : MatchedWalk (tidy_plan P Q keep t) P Q f args result_args v) → Drawn v
  drawn v l = draw (suc (length (code_of P f))) v l (omega arith)

  abbrev old : ℕ → ℕ
  old j = nth_kept (keep f) (length (code_of P f)) 0 j

  found_again : (v : List Branch) (d : Drawn v) → end_of d.matched.walk ≡ old (end_of v)
  found_again v d =
      let i = end_of d.matched.walk in
      let low = walk_within (code_of P f) d.matched.walk d.matched.matches.is in
      let stays : (keep f (0 + i) ≡ true) ⊎ (i ≡ length (code_of P f)) = ⊎_elim (λ e. inl (let z : 0 + i ≡ i = omega arith in ap (keep f) z ∙ e)) (λ n. inr (let high = past_end (code_of P f) i n in omega arith)) d.stays in
      let z : 0 + i ≡ i = omega arith in
      sym (ap old d.matched.matches.points ∙ nth-count (keep f) (length (code_of P f)) 0 i low stays ∙ z)

  at_old : (j : ℕ) → (keep f (old j) ≡ true) ⊎ (item_at P f (old j) ≡ None)
  at_old j = ⊎_elim inl (λ e. inr (slice_get_past (code_of P f) (old j) (omega (arith, e)))) (nth-is (keep f) (length (code_of P f)) 0 j)

  pub matched_walks : MatchedWalk (tidy_plan P Q keep t) P Q f args result_args [] → MatchesWalks (tidy_plan P Q keep t) P Q f args result_args
  matched_walks start = record {
    old = old;
    start = start;
    branches = λ v b is l among.
        let d = drawn v l in
        regular_branch_matched (tidy_plan P Q keep t) P Q f args result_args accepted (preserves P Q keep t accepted) v b (record { walk = d.matched.walk; matches = d.matched.matches; regular = d.stays }) among;
    drawn = λ v l. let d = drawn v l in (d.matched, found_again v d);
    settled = λ v l e. inl (⊎_elim (λ k. inl (ap (keep f) e ∙ k)) (λ n. inr (ap (item_at P f) e ∙ n)) (at_old (end_of v)));
    once = λ s u w b r c k. b ∙ sym c;
  }
