-- A run with its pairs, in P and in Q at once.
use Rattle.std.proofs.Common.{◌≡◌, ℕ, suc, ◌+◌, ◌-◌, ◌<◌, ◌≤◌, false, List, length, Some, refl, ap, ◌∙◌, arith, None, ◌∷◌}
use Rattle.simulation.specs.System.{after}
use Rattle.simulation.specs.Simulation.{Chunk}
use Rattle.bril_tree.specs.declared.limits.Limits.{Limits}
use Rattle.bril_tree.specs.declared.numbered.Instr.{Instr}
use Rattle.bril_tree.specs.declared.numbered.Instr.TheVariants.{Label}
use Rattle.bril_tree.specs.declared.program.Prog.{Prog}
use Rattle.bril_tree.specs.declared.limits.Fault.{Fault}
use Rattle.bril_tree.specs.Accepted.{IsAccepted}
use Rattle.bril_tree.specs.Numbered.{tree_at}
use Rattle.bril_tree.specs.Operand.{Location}
use Rattle.bril_tree.specs.Outcome.{argument}
use Rattle.bril_tree.specs.State.{Locals, Frame, Block, State}
use Rattle.bril_tree.specs.Step.{code_of, item_at, point_of, step, faulted}
use Rattle.bril_tree.specs.Run.{program}
use Rattle.pass_edit_laws.specs.plan.Plan.{ValuesMatch}
use Rattle.pass_edit_laws.proofs.lemmas.steps.Steps.{frame, state}
use Rattle.side_laws.specs.Paired.{Run, IsRun, Pair, PairsOf, item_place, Within, is_guard}
use Rattle.side_laws.proofs.lemmas.refinement.Tracking.{Outcome, Rest, Turned, MakesMore, failed_chunk, run_decides, finishes}
use Rattle.side_laws.proofs.lemmas.refinement.Making.{SharedItem, Made, made_first, makes_more}
use Rattle.side_laws.proofs.lemmas.refinement.Locking.{IsGuardItem, Lock, FaultsAlike, faults_locked, locked, inQ}

module _ (P Q : Prog) (limits : Limits) (accepted : IsAccepted P) (A : Location → Location → Type 0) (k : ℕ) (p0 q0 : Locals) (start : ValuesMatch A p0 q0) (ps qs : List Locals) (fs gs : List Frame) (blocks : List Block) (printed : List ℕ) (x y : ℕ → ℕ → ℕ)
    (r : Run) (is : IsRun (code_of P k) r) (l : ℕ) (labelled : item_at P k (point_of r.bail (code_of P k)) ≡ Some (Label l))
    (old : ℕ → ℕ) (next : (i : ℕ) → suc r.start ≤ i → i < suc (r.start + r.size) → old (suc i) ≡ suc (old i))
    (shared : (i j : ℕ) (a : Instr) → item_at P k i ≡ Some a → tree_at Q k j ≡ tree_at P k i → SharedItem A Q k j a)
    (kept_trees : (i : ℕ) (a : Instr) → suc r.start ≤ i → i < suc (r.start + r.size) → item_at P k i ≡ Some a → is_guard (Some a) ≡ false → tree_at Q k (old i) ≡ tree_at P k i)
    (guarded : (i : ℕ) (a : Instr) → suc r.start ≤ i → i < suc (r.start + r.size) → item_at P k i ≡ Some a → (g : IsGuardItem a) → (b : Instr) × (item_at Q k (old i) ≡ Some b) × (h : IsGuardItem b) × ((p q : Locals) → ValuesMatch A p q → argument p g.args 0 ≡ argument q h.args 0)) where
  abbrev bail : ℕ
  bail = point_of r.bail (code_of P k)

  pub inside : (i : ℕ) → suc r.start ≤ i → i < suc (r.start + r.size) → item_place (item_at P k i) ≡ Within
  inside i lo hi =
      let n : ℕ = i - suc r.start in
      let e : i ≡ suc (r.start + n) = omega (arith, lo, hi) in
      ap (λ z. item_place (item_at P k z)) e ∙ is.within n (omega (arith, lo, hi))

  abbrev pub Locked : ℕ → Locals → State → Type 0
  Locked = Lock P Q limits accepted A k (suc r.start) (suc (r.start + r.size)) p0 q0 ps qs fs gs blocks printed x y old next inside (λ i a lo hi at plain. shared i (old i) a at (kept_trees i a lo hi at plain)) guarded

  abbrev pub Makes : List ℕ → Locals → Type 0
  Makes = Made P Q limits accepted A k bail p0 q0 start ps qs fs gs blocks printed x shared

  pub together : (pairs : List Pair) → PairsOf (code_of P k) r pairs → Locked (suc r.start) p0 (inQ P Q limits accepted A k (suc r.start) (suc (r.start + r.size)) p0 q0 ps qs fs gs blocks printed x y old next inside (λ i a lo hi at plain. shared i (old i) a at (kept_trees i a lo hi at plain)) guarded (old (suc r.start)) q0)
      → Outcome P limits accepted k bail p0 ps fs blocks printed x Makes (makes_more P Q limits accepted A k bail p0 q0 start ps qs fs gs blocks printed x shared) r is refl (step Q limits) Locked
      (locked P Q limits accepted A k (suc r.start) (suc (r.start + r.size)) p0 q0 ps qs fs gs blocks printed x y old next inside (λ i a lo hi at plain. shared i (old i) a at (kept_trees i a lo hi at plain)) guarded)
      pairs (suc r.start) p0 (inQ P Q limits accepted A k (suc r.start) (suc (r.start + r.size)) p0 q0 ps qs fs gs blocks printed x y old next inside (λ i a lo hi at plain. shared i (old i) a at (kept_trees i a lo hi at plain)) guarded (old (suc r.start)) q0)
  together pairs h lk =
      run_decides P limits accepted k bail p0 ps fs blocks printed x Makes (makes_more P Q limits accepted A k bail p0 q0 start ps qs fs gs blocks printed x shared) r is refl (step Q limits) Locked
      (locked P Q limits accepted A k (suc r.start) (suc (r.start + r.size)) p0 q0 ps qs fs gs blocks printed x y old next inside (λ i a lo hi at plain. shared i (old i) a at (kept_trees i a lo hi at plain)) guarded)
      l labelled pairs h (made_first P Q limits accepted A k bail p0 q0 start ps qs fs gs blocks printed x shared) _ lk

  -- ---- what comes of a run, with all that it stands on

  abbrev pub InP : ℕ → Locals → State
  InP i p = state (frame k i p (p0 ∷ ps) ∷ fs) blocks printed None x

  abbrev pub InQ : ℕ → Locals → State
  InQ j q = state (frame k j q (q0 ∷ qs) ∷ gs) blocks printed None y

  abbrev pub AtW : (ℕ → ℕ → ℕ) → ℕ → Locals → State
  AtW z a w = state (frame k a w ps ∷ fs) blocks printed None z

  abbrev pub AtS : (ℕ → ℕ → ℕ) → ℕ → Locals → State
  AtS z j q = state (frame k j q qs ∷ gs) blocks printed None z

  abbrev pub LeadsOff : (ℕ → ℕ → ℕ) → List ℕ → ℕ → Locals → Type 0
  LeadsOff z kept other p = Turned P limits accepted k bail p0 ps fs blocks printed x Makes z kept other p

  abbrev makes : MakesMore P limits accepted k bail p0 ps fs blocks printed x Makes
  makes = makes_more P Q limits accepted A k bail p0 q0 start ps qs fs gs blocks printed x shared

  abbrev locks : (i : ℕ) (p p' : Locals) (t : State) → suc r.start ≤ i → i < suc (r.start + r.size) → Locked i p t → step P limits (InP i p) ≡ InP (suc i) p' → Locked (suc i) p' (step Q limits t)
  locks = locked P Q limits accepted A k (suc r.start) (suc (r.start + r.size)) p0 q0 ps qs fs gs blocks printed x y old next inside (λ i a lo hi at plain. shared i (old i) a at (kept_trees i a lo hi at plain)) guarded

  abbrev pub Comes : List Pair → Type 0
  Comes pairs = Outcome P limits accepted k bail p0 ps fs blocks printed x Makes makes r is refl (step Q limits) Locked locks pairs (suc r.start) p0 (InQ (old (suc r.start)) q0)

  abbrev pub Remains : ℕ → Locals → State → Type 0
  Remains i p t = Rest P limits accepted k bail p0 ps fs blocks printed x Makes makes r is refl (step Q limits) Locked locks i p t

  pub comes : (pairs : List Pair) → PairsOf (code_of P k) r pairs → Comes pairs
  comes pairs h = together pairs h (record { q = q0; is = refl; alike = start })

  pub remains : (room i : ℕ) (p : Locals) (t : State) → i + room ≡ suc (r.start + r.size) → suc r.start ≤ i → Locked i p t → Remains i p t
  remains room i p t = finishes P limits accepted k bail p0 ps fs blocks printed x Makes makes r is refl (step Q limits) Locked locks room i p t

  pub faults-both : (i : ℕ) (p : Locals) (t : State) (kind : Fault) → suc r.start ≤ i → i < suc (r.start + r.size) → Locked i p t → step P limits (InP i p) ≡ faulted kind (InP i p) → FaultsAlike P Q limits accepted A k (suc r.start) (suc (r.start + r.size)) p0 q0 ps qs fs gs blocks printed x y old next inside (λ i a lo hi at plain. shared i (old i) a at (kept_trees i a lo hi at plain)) guarded (step P limits (InP i p)) (step Q limits t)
  faults-both = faults_locked P Q limits accepted A k (suc r.start) (suc (r.start + r.size)) p0 q0 ps qs fs gs blocks printed x y old next inside (λ i a lo hi at plain. shared i (old i) a at (kept_trees i a lo hi at plain)) guarded

  pub leads-off : (R : State → State → Type 0) (s0 t0 t4 : State) → s0.ended ≡ None → s0.printed ≡ printed → step P limits s0 ≡ InP (suc r.start) p0
      → (pair : Pair) (n : ℕ) (p' : Locals) (z : ℕ → ℕ → ℕ) → after (step P limits) n (InP (suc r.start) p0) ≡ InP pair.guard p' → step P limits (InP pair.guard p') ≡ AtW z bail p0 → (u : LeadsOff z pair.kept pair.other p')
      → after (step Q limits) (suc (n + suc (length pair.kept + 2))) t0 ≡ t4 → R (AtW z (point_of pair.other (code_of P k)) u.w) t4 → Chunk (program P limits) (program Q limits) 1 R s0 t0
  leads-off R s0 t0 t4 = failed_chunk P limits accepted k bail p0 ps fs blocks printed x Makes makes r is refl (step Q limits) Locked locks Q R s0 t0 t4
