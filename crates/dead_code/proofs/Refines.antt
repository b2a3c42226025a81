-- A deadened program refines the one that it is made from: where the program computes what isn't live, the result is at a
-- `nop`. What matters is what is live in the result.
use Rattle.std.proofs.Common.{◌≡◌, ◌⊎◌, ℕ, suc, true, false, List, [], ◌∷◌, Option, Some, None, refl, sym, ap, subst, ◌∙◌, inl, inr, ⊎_elim, arith}
use Rattle.std.specs.Prelude.{slice_get}
use Rattle.std.specs.Option.{option_map}
use Rattle.bril_tree.specs.declared.function_tree.Item.TheVariants as item
use Rattle.bril_tree.specs.declared.limits.Limits.{Limits}
use Rattle.bril_tree.specs.declared.numbered.Instr.{Instr}
use Rattle.bril_tree.specs.declared.numbered.Instr.TheVariants.{Label, Const, Act}
use Rattle.bril_tree.specs.declared.numbered_function.Func.{Func}
use Rattle.bril_tree.specs.declared.program.Prog.{Prog}
use Rattle.bril_tree.specs.Accepted.{IsAccepted}
use Rattle.bril_tree.specs.Assigned.{assigns_of, assigns_at}
use Rattle.bril_tree.specs.Edge.{Branch, branches_at, branches_from, onward}
use Rattle.bril_tree.specs.Live.{IsLive}
use Rattle.bril_tree.specs.Membership.{In}
use Rattle.bril_tree.specs.Numbered.{item_tree, names_of_functions, nop, point_tree, tree_at, variable_names}
use Rattle.bril_tree.specs.Operand.{Location}
use Rattle.bril_tree.specs.Run.{Refines}
use Rattle.bril_tree.specs.Sites.{sites_of}
use Rattle.bril_tree.specs.State.{State}
use Rattle.bril_tree.specs.Step.{code_of, item_at, items_of, step}
use Rattle.bril_tree.specs.Walk.{IsReached, end_of}
use Rattle.bril_tree.proofs.Assignments.{site_speculates}
use Rattle.bril_tree.proofs.Liveness.{live-reads, live-flows, live-back}
use Rattle.bril_tree.proofs.Trees.{nop-at, nothing_at}
use Rattle.pass_edit_laws.specs.names.NamedPlan.{NamePlan, plan, KeepsNames}
use Rattle.pass_edit_laws.proofs.lemmas.names.Preserving.{names_preserve, knows_nothing}
use Rattle.pass_edit_laws.proofs.lemmas.names.Points.{found, label_once}
use Rattle.pass_edit_laws.proofs.lemmas.names.Heads.{no_partner}
use Rattle.pass_edit_laws.specs.plan.Plan.{Plan, Preserves, StatesMatch, ValuesMatch}
use Rattle.pass_edit_laws.specs.steps.Refinement.{Progress, CatchUp, BothMove, Advances}
use Rattle.pass_edit_laws.proofs.lemmas.steps.Moves.{both_move}
use Rattle.pass_edit_laws.proofs.lemmas.steps.Refinement.{plan_refines}
use Rattle.pass_edit_laws.proofs.lemmas.steps.Shapes.{shaped_here, opens_assigns}
use Rattle.dead_code.specs.Removable.{is_computation}
use Rattle.dead_code.proofs.Chain.{Gone}
use Rattle.dead_code.proofs.Computing.{computes}
use Rattle.dead_code.proofs.Points.{Deadened}

module _ (P Q : Prog) (made : ℕ → List Instr) (t : Deadened P Q made) where
  -- Both stand at the same point. What matters is live in the result. Both make the same step where the item stays.
  abbrev pub deadening : NamePlan
  deadening = record {
    PointsMatch = λ f i j. i ≡ j;
    Matters = λ f i x. IsLive (made f) x i;
    IsRegular = λ f i j. slice_get (made f) i ≡ item_at P f i;
    IsKnown = λ f i x v. ⊥;
  }

  abbrev pub dead_plan : Plan
  dead_plan = plan P Q deadening

  -- the item of the result, by its tree
  pub staying-tree : (f i : ℕ) → slice_get (made f) i ≡ item_at P f i → tree_at P f i ≡ tree_at Q f i
  staying-tree f i same = by (slice_get P.funcs f) refl
    where
      by : (o : Option Func) → slice_get P.funcs f ≡ o → tree_at P f i ≡ tree_at Q f i
      by None n = nothing_at P f i (ap (λ o. slice_get (items_of o) i) n) ∙ sym (no_partner P Q t.heads f n i)
      by (Some F) n =
          ap (λ o. point_tree (names_of_functions P.funcs) o i) n
          ∙ ap (option_map (item_tree (names_of_functions P.funcs) (variable_names F.vars) F.labels)) (ap (λ o. slice_get (items_of o) i) (sym n) ∙ sym same)
          ∙ sym (t.tree f i F n)

  -- where the item became `nop`, the result has one
  pub gone-nop : (f i : ℕ) → Gone (code_of P f) (made f) i → item_at Q f i ≡ Some nop
  gone-nop f i g = by (slice_get P.funcs f) refl
    where
      by : (o : Option Func) → slice_get P.funcs f ≡ o → item_at Q f i ≡ Some nop
      by None n = absurd (let h : None ≡ Some g.item = ap (λ o. slice_get (items_of o) i) (sym n) ∙ g.was in cc)
      by (Some F) n = nop-at Q f i (t.tree f i F n ∙ ap (option_map (item_tree (names_of_functions P.funcs) (variable_names F.vars) F.labels)) g.is)

  not_label : (f i : ℕ) (name : List ℕ) (a : Instr) → item_at P f i ≡ Some a → tree_at P f i ≡ Some (item.Label name) → is_computation a ≡ true → ⊥
  not_label f i name (Label l) here at c = cc
  not_label f i name (Const d ty v) here at c = let h = sym (found P f i (Const d ty v) here).tree ∙ at in cc
  not_label f i name (Act d ty o args fns ls) here at c = let h = sym (found P f i (Act d ty o args fns ls) here).tree ∙ at in cc

  kept_label : (f i : ℕ) (name : List ℕ) → IsReached (code_of P f) i → tree_at P f i ≡ Some (item.Label name) → tree_at P f i ≡ tree_at Q f i
  kept_label f i name reached at = ⊎_elim (λ same. staying-tree f i same) (λ g. absurd (not_label f i name g.item g.was at (g.why reached).computes)) ((t.chain f).became i)

  -- the branches from a reached point are the same
  pub branch-now : (f i : ℕ) (w : Branch) → IsReached (code_of P f) i → In w (branches_at (code_of P f) i) → In w (branches_at (made f) i)
  branch-now f i w reached among = subst (In w) (sym ((t.chain f).branches i reached)) among

  -- what is live after a branch and isn't assigned is live before it
  pub flows-back : (f i : ℕ) (w : Branch) (x : Location) → IsReached (code_of P f) i → In w (branches_at (code_of P f) i) → w.aborts ≡ false → IsLive (made f) x w.to → (In x (assigns_at (item_at P f i)) → ⊥) → IsLive (made f) x i
  flows-back f i w x reached among plain live none = live-flows (made f) i w x (branch-now f i w reached among) plain live (by ((t.chain f).became i))
    where
      by : (slice_get (made f) i ≡ item_at P f i) ⊎ Gone (code_of P f) (made f) i → In x (assigns_at (slice_get (made f) i)) → ⊥
      by (inl same) h = none (subst (λ o. In x (assigns_at o)) same h)
      by (inr g) h = subst (λ o. In x (assigns_at o)) g.is h

  module _ (accepted : IsAccepted P) where
    -- an open site assigns nothing
    site_assigns : (f : ℕ) (walk : List Branch) (s : ℕ) (sites : List ℕ) → sites_of (code_of P f) walk ≡ s ∷ sites → assigns_at (slice_get (made f) s) ≡ []
    site_assigns f walk s sites e = by ((t.chain f).became s)
      where
        by : (slice_get (made f) s ≡ item_at P f s) ⊎ Gone (code_of P f) (made f) s → assigns_at (slice_get (made f) s) ≡ []
        by (inl same) = ap assigns_at same ∙ opens_assigns P accepted f s (site_speculates (code_of P f) walk s (subst (In s) (sym e) (inl refl)))
        by (inr g) = ap assigns_at g.is

    keeps : KeepsNames P Q deadening
    keeps = record {
      heads = t.heads;
      start = λ f. refl;
      same = λ f i j reached points regular. staying-tree f i regular ∙ ap (tree_at Q f) points;
      next = λ f i j a reached points regular at stays. ap suc points;
      labels = λ f i j name reached at bt. label_once Q f i j name (sym (kept_label f i name reached at) ∙ at) bt;
      reads = λ f i j a x reached points regular at h. live-reads (made f) i a x (regular ∙ at) h;
      flows = λ f i w x reached among plain live none. flows-back f i w x reached among plain live none;
      back = λ f w x walk is among aborts s sites same live.
          live-back (made f) w x walk ((t.chain f).walks walk is) (branch-now f (end_of walk) w (record { walk = walk; is = is; ends = refl }) among) aborts s sites ((t.chain f).sites walk is ∙ same) live (site_assigns f walk s sites same);
      known = knows_nothing P Q deadening (λ f i x v h. h);
    }

    pub preserves : Preserves dead_plan P Q
    preserves = names_preserve P Q deadening accepted keeps

    module _ (limits : Limits) where
      dies : (s u : State) → (r : StatesMatch dead_plan P Q s u) → s.ended ≡ None → Gone (code_of P r.frame.function) (made r.frame.function) r.frame.point → StatesMatch dead_plan P Q (step P limits s) (step Q limits u)
      dies s u r runs g =
          let F = r.frame in
          let G = r.result_frame in
          let contents = r.newest.contents in
          let k = F.function in
          let reached : IsReached (code_of P k) F.point = record { walk = contents.walk; is = contents.is; ends = contents.ends } in
          let why = g.why reached in
          let c = computes P limits k F g.item why.computes (shaped_here P accepted k F.point g.item g.was) in
          let nop_there : item_at Q G.function G.point ≡ Some nop = ap (λ n. item_at Q n G.point) (sym r.newest.function) ∙ ap (item_at Q k) (sym contents.points) ∙ gone-nop k F.point g in
          let onward_there : In (onward F.point) (branches_at (code_of P k) F.point) = subst (λ o. In (onward F.point) (branches_from (code_of P k) F.point o)) (sym g.was) (subst (In (onward F.point)) (sym (c.branches (code_of P k) F.point)) (inl refl)) in
          let agree : ValuesMatch (dead_plan.LocationsMatch k (suc F.point) (suc G.point)) c.after_it G.locations =
          λ x y h.
          let free : In x (assigns_of g.item) → ⊥ = λ i. why.unused x i h.1 in
          c.others x free ∙ contents.locations x y (h.0, flows-back k F.point (onward F.point) x reached onward_there refl h.1 (subst (λ o. In x (assigns_at o) → ⊥) (sym g.was) free)) in
          both_move dead_plan P Q limits accepted preserves s u r runs g.item nop g.was nop_there (c.branches (code_of P k) F.point) (c.keeps false) c.after_it G.locations c.steps (λ older v. refl) (ap suc contents.points) agree (λ x v h. absurd h)

      goes : (s u : State) → (r : StatesMatch dead_plan P Q s u) → s.ended ≡ None → Progress dead_plan P Q limits 1 (λ s. 0) s u
      goes s u r runs = ⊎_elim both gone ((t.chain r.frame.function).became r.frame.point)
        where
          both : slice_get (made r.frame.function) r.frame.point ≡ item_at P r.frame.function r.frame.point → Progress dead_plan P Q limits 1 (λ s. 0) s u
          both regular = CatchUp 0 (omega arith) (record { count = 0; few = omega arith; matched = r; regular = regular })

          gone : Gone (code_of P r.frame.function) (made r.frame.function) r.frame.point → Progress dead_plan P Q limits 1 (λ s. 0) s u
          gone g = BothMove (record { early = 0; moves = 0; within = omega arith; quiet = refl; running = runs; again = inl (dies s u r runs g) })

      advances : Advances dead_plan P Q limits 1
      advances = record { distance = λ s. 0; progress = goes }

    pub deadened-refines : Refines P Q 1
    deadened-refines = plan_refines (λ _ _. dead_plan) P Q 1 accepted preserves (omega arith) advances
