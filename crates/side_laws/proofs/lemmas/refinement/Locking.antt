-- In a run Q makes the steps that P makes.
use Rattle.std.proofs.Common.{◌≡◌, ℕ, suc, ◌<◌, ◌≤◌, Bool, true, false, List, [], ◌∷◌, length, Option, Some, None, refl, sym, ap, subst, ◌∙◌, arith}
use Rattle.std.specs.Prelude.{slice_index}
use Rattle.bril_tree.specs.declared.limits.Fault.{Fault}
use Rattle.bril_tree.specs.declared.limits.Limits.{Limits}
use Rattle.bril_tree.specs.declared.numbered.Instr.{Instr}
use Rattle.bril_tree.specs.declared.numbered.Instr.TheVariants.{Label, Const, Act}
use Rattle.bril_tree.specs.declared.operation.Op.{Op}
use Rattle.bril_tree.specs.declared.program.Prog.{Prog}
use Rattle.bril_tree.specs.declared.types.Ty.{Ty}
use Rattle.bril_tree.specs.declared.operation.Op.TheVariants as op
use Rattle.bril_tree.specs.Accepted.{IsAccepted}
use Rattle.bril_tree.specs.Operand.{Location}
use Rattle.bril_tree.specs.Outcome.{argument, bool_of}
use Rattle.bril_tree.specs.State.{Locals, Frame, Block, State}
use Rattle.bril_tree.specs.Step.{item_at, faulted, guards, item_step, step}
use Rattle.pass_edit_laws.specs.plan.Plan.{ValuesMatch, ItemsMatch}
use Rattle.pass_edit_laws.proofs.lemmas.steps.Attempts.{AttemptedAlike, Faults, Moves, attempted_alike}
use Rattle.pass_edit_laws.proofs.lemmas.steps.Shapes.{shaped_here}
use Rattle.pass_edit_laws.proofs.lemmas.steps.Steps.{frame, state}
use Rattle.side_laws.specs.Paired.{item_place, Within, is_guard, is_nop}
use Rattle.side_laws.proofs.lemmas.refinement.Tracking.{within-attempted, nop-steps}
use Rattle.side_laws.proofs.lemmas.refinement.Making.{SharedItem}

pub record IsGuardItem (a : Instr) : Type 0 where
  pub d : Option ℕ
  pub ty : Option Ty
  pub args : List ℕ
  pub fns : List ℕ
  pub ls : List ℕ
  pub is : a ≡ Act d ty op.Guard args fns ls

pub guard_item : (a : Instr) → is_guard (Some a) ≡ true → IsGuardItem a
guard_item (Label l) e = absurd cc
guard_item (Const d ty v) e = absurd cc
guard_item (Act d ty op.Guard args fns ls) e = record { d = d; ty = ty; args = args; fns = fns; ls = ls; is = refl }
guard_item (Act d ty _ args fns ls) e = absurd cc

act-nop : (o u : Op) (d e : Option ℕ) (s t : Option Ty) (args brgs fns gns ls ms : List ℕ) → o ≡ u → is_nop (Some (Act d s o args fns ls)) ≡ true → is_nop (Some (Act e t u brgs gns ms)) ≡ true
act-nop op.Nop u d e s t args brgs fns gns ls ms same nop = ap (λ z. is_nop (Some (Act e t z brgs gns ms))) (sym same)
act-nop _ u d e s t args brgs fns gns ls ms same nop = absurd cc

same-nop : (A : Location → Location → Type 0) (a b : Instr) → ItemsMatch A a b → is_nop (Some a) ≡ true → is_nop (Some b) ≡ true
same-nop A (Label l) b s e = absurd cc
same-nop A (Const d ty v) b s e = absurd cc
same-nop A (Act d ty o args fns ls) (Label l) s e = absurd s
same-nop A (Act d ty o args fns ls) (Const x t v) s e = absurd s
same-nop A (Act d ty o args fns ls) (Act x t u brgs gns ms) s e = act-nop o u d x ty t args brgs fns gns ls ms s.operation e

module _ (P Q : Prog) (limits : Limits) (accepted : IsAccepted P) (A : Location → Location → Type 0) (k first last : ℕ) (p0 q0 : Locals) (ps qs : List Locals) (fs gs : List Frame) (blocks : List Block) (printed : List ℕ) (x y : ℕ → ℕ → ℕ)
    (old : ℕ → ℕ) (next : (i : ℕ) → first ≤ i → i < last → old (suc i) ≡ suc (old i))
    (inside : (i : ℕ) → first ≤ i → i < last → item_place (item_at P k i) ≡ Within)
    -- items other than guards are the same
    (shared : (i : ℕ) (a : Instr) → first ≤ i → i < last → item_at P k i ≡ Some a → is_guard (Some a) ≡ false → SharedItem A Q k (old i) a)
    -- guards test the same
    (guarded : (i : ℕ) (a : Instr) → first ≤ i → i < last → item_at P k i ≡ Some a → (g : IsGuardItem a) → (b : Instr) × (item_at Q k (old i) ≡ Some b) × (h : IsGuardItem b) × ((p q : Locals) → ValuesMatch A p q → argument p g.args 0 ≡ argument q h.args 0)) where
  abbrev pub inP : ℕ → Locals → State
  inP i p = state (frame k i p (p0 ∷ ps) ∷ fs) blocks printed None x

  abbrev pub inQ : ℕ → Locals → State
  inQ j q = state (frame k j q (q0 ∷ qs) ∷ gs) blocks printed None y

  pub record Lock (i : ℕ) (p : Locals) (t : State) : Type 0 where
    pub q : Locals
    pub is : t ≡ inQ (old i) q
    pub alike : ValuesMatch A p q

  abbrev newest : List Frame → Locals
  newest [] = p0
  newest (f ∷ older) = f.locations

  abbrev saves_of : List Frame → List Locals
  saves_of [] = []
  saves_of (f ∷ older) = f.saves

  at_next : (i : ℕ) (p p2 p' q2 : Locals) (t : State) → first ≤ i → i < last → step P limits (inP i p) ≡ inP (suc i) p2 → step P limits (inP i p) ≡ inP (suc i) p' → step Q limits t ≡ inQ (suc (old i)) q2 → ValuesMatch A p2 q2 → Lock (suc i) p' (step Q limits t)
  at_next i p p2 p' q2 t l u e1 e2 e3 agree =
      let same : p2 ≡ p' = ap (λ (s : State). newest s.frames) (sym e1 ∙ e2) in
      record { q = q2; is = e3 ∙ ap (λ n. inQ n q2) (sym (next i l u)); alike = subst (λ z. ValuesMatch A z q2) same agree }

  pub locked : (i : ℕ) (p p' : Locals) (t : State) → first ≤ i → i < last → Lock i p t → step P limits (inP i p) ≡ inP (suc i) p' → Lock (suc i) p' (step Q limits t)
  locked i p p' t l u lk moved = items (item_at P k i) refl
    where
      stepP : (a : Instr) → item_at P k i ≡ Some a → step P limits (inP i p) ≡ item_step P limits (Some a) (frame k i p (p0 ∷ ps)) fs (inP i p)
      stepP a at = ap (λ o. item_step P limits o (frame k i p (p0 ∷ ps)) fs (inP i p)) at

      stepQ : (b : Instr) → item_at Q k (old i) ≡ Some b → step Q limits t ≡ item_step Q limits (Some b) (frame k (old i) lk.q (q0 ∷ qs)) gs (inQ (old i) lk.q)
      stepQ b at = ap (step Q limits) lk.is ∙ ap (λ o. item_step Q limits o (frame k (old i) lk.q (q0 ∷ qs)) gs (inQ (old i) lk.q)) at

      longer : (zs : List Locals) → length zs ≡ length (p0 ∷ zs) → ⊥
      longer zs e = omega (arith, e)

      tests : (a b : Instr) → item_at P k i ≡ Some a → item_at Q k (old i) ≡ Some b → (g : IsGuardItem a) (h : IsGuardItem b) → argument p g.args 0 ≡ argument lk.q h.args 0 → (c : Bool) → bool_of (argument p g.args 0) ≡ c → Lock (suc i) p' (step Q limits t)
      tests a b at bt g h same true e =
          at_next i p p p' lk.q t l u
          (stepP a at ∙ ap (λ z. item_step P limits (Some z) (frame k i p (p0 ∷ ps)) fs (inP i p)) g.is ∙ ap (λ c. guards P limits c (slice_index g.ls 0) (frame k i p (p0 ∷ ps)) fs (inP i p)) e)
          moved
          (stepQ b bt ∙ ap (λ z. item_step Q limits (Some z) (frame k (old i) lk.q (q0 ∷ qs)) gs (inQ (old i) lk.q)) h.is ∙ ap (λ c. guards Q limits c (slice_index h.ls 0) (frame k (old i) lk.q (q0 ∷ qs)) gs (inQ (old i) lk.q)) (ap bool_of (sym same) ∙ e))
          lk.alike
      tests a b at bt g h same false e =
          absurd (longer ps (ap (λ (s : State). length (saves_of s.frames))
          (sym (stepP a at ∙ ap (λ z. item_step P limits (Some z) (frame k i p (p0 ∷ ps)) fs (inP i p)) g.is ∙ ap (λ c. guards P limits c (slice_index g.ls 0) (frame k i p (p0 ∷ ps)) fs (inP i p)) e) ∙ moved)))

      computes : (a : Instr) → item_at P k i ≡ Some a → is_guard (Some a) ≡ false → is_nop (Some a) ≡ false → SharedItem A Q k (old i) a → Lock (suc i) p' (step Q limits t)
      computes a at plain nn s =
          let within : item_place (Some a) ≡ Within = ap item_place (sym at) ∙ inside i l u in
          let attempted = within-attempted a within plain nn in
          by (attempted_alike A P Q limits k i (old i) p lk.q lk.alike (p0 ∷ ps) (q0 ∷ qs) fs gs blocks printed x y a s.b s.same (shaped_here P accepted k i a at) s.kept attempted)
        where
          by : AttemptedAlike A P Q limits (inP i p) (inQ (old i) lk.q) (λ z. inP (suc i) z) (λ z. inQ (suc (old i)) z)
              (item_step P limits (Some a) (frame k i p (p0 ∷ ps)) fs (inP i p)) (item_step Q limits (Some s.b) (frame k (old i) lk.q (q0 ∷ qs)) gs (inQ (old i) lk.q)) → Lock (suc i) p' (step Q limits t)
          by (Faults kind e1 e2) = absurd (let c = ap (λ (z : State). z.ended) (sym (sym (stepP a at) ∙ moved) ∙ e1) in cc)
          by (Moves p2 q2 e1 e2 agree) = at_next i p p2 p' q2 t l u (stepP a at ∙ e1) moved (stepQ s.b s.at ∙ e2) agree

      either : (a : Instr) → item_at P k i ≡ Some a → (c : Bool) → is_guard (Some a) ≡ c → Lock (suc i) p' (step Q limits t)
      either a at true e =
          let g = guard_item a e in
          let h = guarded i a l u at g in
          tests a h.0 at h.1 g h.2 (h.3 p lk.q lk.alike) (bool_of (argument p g.args 0)) refl
      either a at false e = idle (is_nop (Some a)) refl
        where
          idle : (c : Bool) → is_nop (Some a) ≡ c → Lock (suc i) p' (step Q limits t)
          idle true n =
              let s = shared i a l u at e in
              at_next i p p p' lk.q t l u (stepP a at ∙ nop-steps P limits a n (frame k i p (p0 ∷ ps)) fs (inP i p)) moved
              (stepQ s.b s.at ∙ nop-steps Q limits s.b (same-nop A a s.b s.same n) (frame k (old i) lk.q (q0 ∷ qs)) gs (inQ (old i) lk.q)) lk.alike
          idle false n = computes a at e n (shared i a l u at e)

      items : (o : Option Instr) → item_at P k i ≡ o → Lock (suc i) p' (step Q limits t)
      items None at = absurd (let h : item_place None ≡ Within = ap item_place (sym at) ∙ inside i l u in cc)
      items (Some a) at = either a at (is_guard (Some a)) refl

  -- where P faults, Q does
  pub record FaultsAlike (s t : State) : Type 0 where
    pub ended : s.ended ≡ t.ended
    pub printed_same : s.printed ≡ t.printed

  pub faults_locked : (i : ℕ) (p : Locals) (t : State) (kind : Fault) → first ≤ i → i < last → Lock i p t → step P limits (inP i p) ≡ faulted kind (inP i p) → FaultsAlike (step P limits (inP i p)) (step Q limits t)
  faults_locked i p t kind l u lk fails = items (item_at P k i) refl
    where
      stepP : (a : Instr) → item_at P k i ≡ Some a → step P limits (inP i p) ≡ item_step P limits (Some a) (frame k i p (p0 ∷ ps)) fs (inP i p)
      stepP a at = ap (λ o. item_step P limits o (frame k i p (p0 ∷ ps)) fs (inP i p)) at

      stepQ : (b : Instr) → item_at Q k (old i) ≡ Some b → step Q limits t ≡ item_step Q limits (Some b) (frame k (old i) lk.q (q0 ∷ qs)) gs (inQ (old i) lk.q)
      stepQ b at = ap (step Q limits) lk.is ∙ ap (λ o. item_step Q limits o (frame k (old i) lk.q (q0 ∷ qs)) gs (inQ (old i) lk.q)) at

      runs_on : (s : State) → step P limits (inP i p) ≡ s → s.ended ≡ None → ⊥
      runs_on s e runs = let c = sym runs ∙ ap (λ (z : State). z.ended) (sym e ∙ fails) in cc

      tests : (a : Instr) → item_at P k i ≡ Some a → (g : IsGuardItem a) → (c : Bool) → bool_of (argument p g.args 0) ≡ c → FaultsAlike (step P limits (inP i p)) (step Q limits t)
      tests a at g true e = absurd (runs_on _ (stepP a at ∙ ap (λ z. item_step P limits (Some z) (frame k i p (p0 ∷ ps)) fs (inP i p)) g.is ∙ ap (λ c. guards P limits c (slice_index g.ls 0) (frame k i p (p0 ∷ ps)) fs (inP i p)) e) refl)
      tests a at g false e = absurd (runs_on _ (stepP a at ∙ ap (λ z. item_step P limits (Some z) (frame k i p (p0 ∷ ps)) fs (inP i p)) g.is ∙ ap (λ c. guards P limits c (slice_index g.ls 0) (frame k i p (p0 ∷ ps)) fs (inP i p)) e) refl)

      computes : (a : Instr) → item_at P k i ≡ Some a → is_guard (Some a) ≡ false → is_nop (Some a) ≡ false → SharedItem A Q k (old i) a → FaultsAlike (step P limits (inP i p)) (step Q limits t)
      computes a at plain nn s =
          let within : item_place (Some a) ≡ Within = ap item_place (sym at) ∙ inside i l u in
          by (attempted_alike A P Q limits k i (old i) p lk.q lk.alike (p0 ∷ ps) (q0 ∷ qs) fs gs blocks printed x y a s.b s.same (shaped_here P accepted k i a at) s.kept (within-attempted a within plain nn))
        where
          by : AttemptedAlike A P Q limits (inP i p) (inQ (old i) lk.q) (λ z. inP (suc i) z) (λ z. inQ (suc (old i)) z)
              (item_step P limits (Some a) (frame k i p (p0 ∷ ps)) fs (inP i p)) (item_step Q limits (Some s.b) (frame k (old i) lk.q (q0 ∷ qs)) gs (inQ (old i) lk.q)) → FaultsAlike (step P limits (inP i p)) (step Q limits t)
          by (Faults other e1 e2) = record {
            ended = ap (λ (z : State). z.ended) (stepP a at ∙ e1) ∙ sym (ap (λ (z : State). z.ended) (stepQ s.b s.at ∙ e2));
            printed_same = ap (λ (z : State). z.printed) (stepP a at ∙ e1) ∙ sym (ap (λ (z : State). z.printed) (stepQ s.b s.at ∙ e2));
          }
          by (Moves p2 q2 e1 e2 agree) = absurd (runs_on _ (stepP a at ∙ e1) refl)

      either : (a : Instr) → item_at P k i ≡ Some a → (c : Bool) → is_guard (Some a) ≡ c → FaultsAlike (step P limits (inP i p)) (step Q limits t)
      either a at true e = let g = guard_item a e in tests a at g (bool_of (argument p g.args 0)) refl
      either a at false e = idle (is_nop (Some a)) refl
        where
          idle : (c : Bool) → is_nop (Some a) ≡ c → FaultsAlike (step P limits (inP i p)) (step Q limits t)
          idle true n = absurd (runs_on _ (stepP a at ∙ nop-steps P limits a n (frame k i p (p0 ∷ ps)) fs (inP i p)) refl)
          idle false n = computes a at e n (shared i a l u at e)

      items : (o : Option Instr) → item_at P k i ≡ o → FaultsAlike (step P limits (inP i p)) (step Q limits t)
      items None at = absurd (let h : item_place None ≡ Within = ap item_place (sym at) ∙ inside i l u in cc)
      items (Some a) at = either a at (is_guard (Some a)) refl
