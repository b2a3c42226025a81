-- What is wanted at a reachable label is what is live there.
use Rattle.std.proofs.Common.{◌≡◌, ◌⊎◌, ℕ, zero, suc, ◌≤◌, Bool, true, false, List, ◌∷◌, Option, Some, refl, sym, ap, subst, ◌∙◌, inl, inr, ⊎_elim, cond, arith}
use Rattle.std.specs.Prelude.{slice_get}
use Rattle.std.specs.List.{Contains}
use Rattle.std.proofs.lemmas.Bool.{cases_lt}
use Rattle.bril_tree.specs.declared.numbered.Instr.{Instr}
use Rattle.bril_tree.specs.declared.numbered.Instr.TheVariants.{Label}
use Rattle.bril_tree.specs.Assigned.{assigns_at}
use Rattle.bril_tree.specs.Edge.{Branch, branches_at, onward}
use Rattle.bril_tree.specs.Leaving.{Leaves}
use Rattle.bril_tree.specs.Live.{IsLive, Here, Later}
use Rattle.bril_tree.specs.Operand.{Location}
use Rattle.bril_tree.specs.Walk.{IsReached, end_of}
use Rattle.bril_tree.specs.Membership.{In}
use Rattle.bril_tree.proofs.Members.{contains_in, in_contains}
use Rattle.ssa_search.specs.placing.Wanted.{is_label, head_of, Unassigned, IsWanted, Read, Left}
use Rattle.ssa_laws.specs.reaching_definitions.Told.{LeadToLabels}
use Rattle.ssa_laws.proofs.lemmas.reaching_definitions.Entering.{entering}

module _ (code : List Instr) where
  pub label-head : (i : ℕ) → is_label (slice_get code (suc i)) ≡ true → head_of code (suc i) ≡ suc i
  label-head i e = ap (λ b. cond b (suc i) (head_of code i)) e

  pub plain-head : (i : ℕ) → is_label (slice_get code (suc i)) ≡ false → head_of code (suc i) ≡ head_of code i
  plain-head i e = ap (λ b. cond b (suc i) (head_of code i)) e

  pub own-head : (k : ℕ) → is_label (slice_get code k) ≡ true → head_of code k ≡ k
  own-head zero e = refl
  own-head (suc i) e = label-head i e

  pub head-le : (i : ℕ) → head_of code i ≤ i
  head-le zero = omega arith
  head-le (suc i) = by (is_label (slice_get code (suc i))) refl (head-le i)
    where
      by : (b : Bool) → is_label (slice_get code (suc i)) ≡ b → head_of code i ≤ i → head_of code (suc i) ≤ suc i
      by true e l = let h = label-head i e in omega (arith, h)
      by false e l = let h = plain-head i e in omega (arith, h, l)

  -- between the head of a block and a point of it all points have this head
  pub head-between : (r q : ℕ) → head_of code r ≤ q → q ≤ r → head_of code q ≡ head_of code r
  head-between zero q from to = ap (head_of code) (let e : q ≡ 0 = omega arith in e)
  head-between (suc i) q from to = by (is_label (slice_get code (suc i))) refl (head-between i q)
    where
      by : (b : Bool) → is_label (slice_get code (suc i)) ≡ b → (head_of code i ≤ q → q ≤ i → head_of code q ≡ head_of code i) → head_of code q ≡ head_of code (suc i)
      by true e rec = let h = label-head i e in let same : q ≡ suc i = omega (arith, h, from, to) in ap (head_of code) same
      by false e rec =
          let h = plain-head i e in
          ⊎_elim
          (λ less. rec (omega (arith, h, from)) (omega (arith, less)) ∙ sym h)
          (λ same. ap (head_of code) (let e : q ≡ suc i = omega (arith, same, to) in e))
          (cases_lt q (suc i))

module _ (code : List Instr) (leads : LeadToLabels code) (a : Location) where
  no-label : (o : Option Instr) → is_label o ≡ false → (l : ℕ) → o ≡ Some (Label l) → ⊥
  no-label o e l at = let x : true ≡ false = sym (ap is_label at) ∙ e in cc

  -- ---- wanted is live

  back-live : (i : ℕ) → IsReached code i → Unassigned code a (head_of code i) i → IsLive code a i → IsReached code (head_of code i) × IsLive code a (head_of code i)
  back-live zero r u live = (r, live)
  back-live (suc i) r u live = by (is_label (slice_get code (suc i))) refl (λ s v l. back-live i s v l)
    where
      by : (b : Bool) → is_label (slice_get code (suc i)) ≡ b → (IsReached code i → Unassigned code a (head_of code i) i → IsLive code a i → IsReached code (head_of code i) × IsLive code a (head_of code i)) → IsReached code (head_of code (suc i)) × IsLive code a (head_of code (suc i))
      by true e rec = (subst (IsReached code) (sym (label-head code i e)) r, subst (IsLive code a) (sym (label-head code i e)) live)
      by false e rec =
          let h = plain-head code i e in
          let n = entering code leads i (no-label (slice_get code (suc i)) e) r in
          let l = head-le code i in
          let u' : Unassigned code a (head_of code i) (suc i) = subst (λ k. Unassigned code a k (suc i)) h u in
          let s = rec n.0 (λ q from less. u' q from (omega arith)) (Later i (onward i) (inl (contains_in (onward i) (branches_at code i) n.1, refl)) (u' i l (omega arith)) live) in
          (subst (IsReached code) (sym h) s.0, subst (IsLive code a) (sym h) s.1)

  pub wanted-live : (h : ℕ) → IsWanted code a h → IsReached code h × IsLive code a h
  wanted-live h (Read _ i item e r at reads u) =
      subst (λ k. IsReached code k × IsLive code a k) (sym e) (back-live i r (subst (λ k. Unassigned code a k i) e u) (Here i item at reads))
  wanted-live h (Left _ k p branch e r label leaves to u w) =
      let s = wanted-live k w in
      let u' : Unassigned code a (head_of code p) (suc p) = subst (λ j. Unassigned code a j (suc p)) e u in
      let live : IsLive code a p = Later p branch leaves (u' p (head-le code p) (omega arith)) (subst (IsLive code a) (sym to) s.1) in
      subst (λ j. IsReached code j × IsLive code a j) (sym e) (back-live p r (λ q from less. u' q from (omega arith)) live)

  -- ---- live is wanted

  -- where an edge leaves and where it leads
  leaves-on : (p : ℕ) (branch : Branch) → IsReached code p → Leaves code p branch → IsReached code branch.to × ((is_label (slice_get code branch.to) ≡ true) ⊎ (branch ≡ onward p))
  leaves-on p branch r (inl on) =
      let among : In branch (branches_at code (end_of r.walk)) = subst (λ k. In branch (branches_at code k)) (sym r.ends) (in_contains branch (branches_at code p) on.0) in (
        record { walk = branch ∷ r.walk; is = (contains_in branch (branches_at code (end_of r.walk)) among, r.is); ends = refl },
        ⊎_elim (λ o. inr o) (λ l. inl (ap is_label l.1)) (leads p branch (in_contains branch (branches_at code p) on.0)),
      )
  leaves-on p branch r (inr ab) = (
    record { walk = branch ∷ ab.walk; is = (ab.at, ab.is); ends = refl },
    ⊎_elim (λ o. absurd (let x : false ≡ true = sym (ap (λ (b : Branch). b.aborts) o) ∙ ab.aborts in cc)) (λ l. inl (ap is_label l.1)) (leads (end_of ab.walk) branch (in_contains branch (branches_at code (end_of ab.walk)) ab.at)),
  )

  pub live-wanted : (i : ℕ) → IsLive code a i → IsReached code i → Unassigned code a (head_of code i) i → IsWanted code a (head_of code i)
  live-wanted i (Here _ item at reads) r u = Read (head_of code i) i item refl r at reads u
  live-wanted i (Later _ branch leaves none live) r u = by (is_label (slice_get code branch.to)) refl (leaves-on i branch r leaves) (λ s v. live-wanted branch.to live s v)
    where
      past : Unassigned code a (head_of code i) (suc i)
      past q from less c = ⊎_elim (λ l. u q from l c) (λ l. none (let e : q ≡ i = omega (arith, l, less) in subst (λ k. Contains (assigns_at (slice_get code k)) a) e c)) (cases_lt q i)

      by : (b : Bool) → is_label (slice_get code branch.to) ≡ b → IsReached code branch.to × ((is_label (slice_get code branch.to) ≡ true) ⊎ (branch ≡ onward i)) → (IsReached code branch.to → Unassigned code a (head_of code branch.to) branch.to → IsWanted code a (head_of code branch.to)) → IsWanted code a (head_of code i)
      by true e (s, k) rec =
          let own = own-head code branch.to e in
          Left (head_of code i) branch.to i branch refl r e leaves refl past (subst (IsWanted code a) own (rec s (λ q from less. absurd (omega (arith, own, from, less)))))
      by false e (s, inl k) rec = absurd (let x : true ≡ false = sym k ∙ e in cc)
      by false e (s, inr o) rec =
          let to : branch.to ≡ suc i = ap (λ (b : Branch). b.to) o in
          let h : head_of code branch.to ≡ head_of code i = ap (head_of code) to ∙ plain-head code i (ap (λ k. is_label (slice_get code k)) (sym to) ∙ e) in
          subst (IsWanted code a) h (rec s (subst (λ k. Unassigned code a k branch.to) (sym h) (subst (Unassigned code a (head_of code i)) (sym to) past)))

  -- at a reachable label it is one
  pub label-wanted : (k : ℕ) → is_label (slice_get code k) ≡ true → IsReached code k → IsLive code a k → IsWanted code a k
  label-wanted k e r live = let own = own-head code k e in subst (IsWanted code a) own (live-wanted k live r (λ q from less. absurd (omega (arith, own, from, less))))
