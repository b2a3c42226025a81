-- A padded program refines the one that it is made from, with the factor 2: the plan, and where the result catches up.
use Rattle.std.proofs.Common.{◌≡◌, ℕ, suc, Option, Some, None, refl, sym, ap, ◌∙◌, inl, inr, ⊎_elim, arith}
use Rattle.std.specs.Prelude.{slice_get}
use Rattle.bril_tree.specs.Numbered.{names_of_functions, nop, point_tree, tree_at}
use Rattle.bril_tree.specs.declared.limits.Limits.{Limits}
use Rattle.bril_tree.specs.declared.numbered_function.Func.{Func}
use Rattle.bril_tree.specs.declared.program.Prog.{Prog}
use Rattle.bril_tree.specs.Accepted.{IsAccepted}
use Rattle.bril_tree.specs.Run.{Refines}
use Rattle.bril_tree.specs.State.{Frame, State}
use Rattle.bril_tree.specs.Step.{items_of, item_at}
use Rattle.pass_edit_laws.specs.names.NamedPlan.{KeepsNames}
use Rattle.pass_edit_laws.proofs.lemmas.names.Preserving.{names_preserve, knows_nothing}
use Rattle.pass_edit_laws.proofs.lemmas.names.Points.{label_once}
use Rattle.pass_edit_laws.proofs.lemmas.names.Heads.{no_partner}
use Rattle.pass_pad.specs.Padded.{PaddedAt}
use Rattle.pass_pad.specs.Plan.{padding, pad_plan}
use Rattle.pass_edit_laws.specs.plan.Plan.{Preserves, StatesMatch}
use Rattle.pass_edit_laws.specs.steps.Refinement.{CatchesUp, CatchUp, Advances}
use Rattle.pass_edit_laws.proofs.lemmas.steps.Moves.{result_moves}
use Rattle.pass_edit_laws.proofs.lemmas.steps.Refinement.{plan_refines}

module _ (P Q : Prog) (t : PaddedAt P Q) where
  -- where P has no function, Q has none
  lacking : (f i j : ℕ) → slice_get P.funcs f ≡ None → tree_at P f i ≡ tree_at Q f j
  lacking f i j none = ap (λ o. point_tree (names_of_functions P.funcs) o i) none ∙ sym (no_partner P Q t.heads f none j)

  keeps : KeepsNames P Q (padding P Q)
  keeps = record {
    heads = t.heads;
    start = λ f. inr (refl, refl);
    same = λ f i j reached points regular. ⊎_elim (λ e. t.rest f i ∙ ap (tree_at Q f) (sym e)) (lacking f i j) regular;
    next = λ f i j a reached points regular at stays. ⊎_elim (λ e. inl (ap suc e)) (λ none. absurd (let e = ap (λ o. slice_get (items_of o) i) (sym none) ∙ at in cc)) regular;
    labels = λ f i j name reached at bt. inl (label_once Q f j (suc i) name bt (sym (t.rest f i) ∙ at));
    reads = λ f i j a x reached points regular at h. tt;
    flows = λ f i w x reached h e m n. tt;
    back = λ f w x walk is h e s sites same m. tt;
    known = knows_nothing P Q (padding P Q) (λ f i a v h. h);
  }

  module _ (accepted : IsAccepted P) where
    pub preserves : Preserves (pad_plan P Q) P Q
    preserves = names_preserve P Q (padding P Q) accepted keeps

    -- from where a function begins the result comes to a regular pair of points by its `nop`
    catches_up : (limits : Limits) (s u : State) → StatesMatch (pad_plan P Q) P Q s u → s.ended ≡ None → CatchesUp (pad_plan P Q) P Q limits 1 s u
    catches_up limits s u r runs = ⊎_elim there at_start r.newest.contents.points
      where
        there : r.result_frame.point ≡ suc r.frame.point → CatchesUp (pad_plan P Q) P Q limits 1 s u
        there e = record { count = 0; few = omega arith; matched = r; regular = inl e }

        at_start : (r.frame.point ≡ 0) × (r.result_frame.point ≡ 0) → CatchesUp (pad_plan P Q) P Q limits 1 s u
        at_start z = by (slice_get P.funcs r.frame.function) refl
          where
            by : (o : Option Func) → slice_get P.funcs r.frame.function ≡ o → CatchesUp (pad_plan P Q) P Q limits 1 s u
            by None e = record { count = 0; few = omega arith; matched = r; regular = inr e }
            by (Some f) e =
                let at : item_at Q r.result_frame.function r.result_frame.point ≡ Some nop = ap (λ n. item_at Q n r.result_frame.point) (sym r.newest.function) ∙ ap (item_at Q r.frame.function) z.1 ∙ t.first r.frame.function f e in
                let next : suc r.result_frame.point ≡ suc r.frame.point = ap suc (z.1 ∙ sym z.0) in
                let n = result_moves (pad_plan P Q) P Q limits accepted preserves s u r runs nop at r.result_frame.locations (λ older v. refl) (inl next) r.newest.contents.locations in
                record { count = 1; few = omega arith; matched = n.0; regular = inl (ap (λ (z : Frame). z.point) n.2 ∙ next ∙ ap (λ (z : Frame). suc z.point) (sym n.1)) }

    advances : (limits : Limits) → Advances (pad_plan P Q) P Q limits 2
    advances limits = record { distance = λ s. 0; progress = λ s u r runs. CatchUp 1 (omega arith) (catches_up limits s u r runs) }

    pub padded-refines : Refines P Q 2
    padded-refines = plan_refines pad_plan P Q 2 accepted preserves (omega arith) advances
