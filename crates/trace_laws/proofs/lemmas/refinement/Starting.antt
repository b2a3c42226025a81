-- Where an attempt begins, the program stands behind the entry's label, and both hold the same.
use Rattle.std.proofs.Common.{◌≡◌, ℕ, suc, List, Some, sym, subst, ◌∙◌, inl, arith}
use Rattle.std.specs.Prelude.{slice_get}
use Rattle.bril_profile.specs.declared.profile.Profile.{Profile}
use Rattle.bril_tree.specs.declared.limits.Limits.{Limits}
use Rattle.bril_tree.specs.declared.program.Prog.{Prog}
use Rattle.bril_tree.specs.declared.value.Value.{Value}
use Rattle.bril_tree.specs.Accepted.{IsAccepted}
use Rattle.bril_tree.specs.Run.{FitMain, Suits, first_state, state_after, types_of}
use Rattle.bril_tree.specs.State.{Frame, Locals}
use Rattle.bril_tree.proofs.Elements.{zip-long}
use Rattle.pass_edit_laws.proofs.lemmas.names.Points.{label_once}
use Rattle.pass_edit_laws.proofs.lemmas.steps.Steps.{first_states_match, frame}
use Rattle.trace_laws.specs.lines.Lines.{bool_type}
use Rattle.trace_laws.specs.lines.Traced.{IsTraced, Trace, trace_at}
use Rattle.trace_laws.specs.refinement.Attempts.{ComesBehind, RunsIn}
use Rattle.trace_laws.specs.refinement.Laws.{HasQuietTrace, TracesStartAlike}
use Rattle.trace_laws.specs.refinement.Stitched.{Stitched}
use Rattle.trace_laws.proofs.lemmas.refinement.Laying.{stitched, traces-are}
use Rattle.trace_laws.proofs.lemmas.refinement.Plans.{M, preserves}
use Rattle.trace_laws.proofs.lemmas.refinement.Quiet.{lay, most, reached}
use Rattle.trace_laws.proofs.lemmas.refinement.Refining.{comes-behind}

module _ (P Q : Prog) (profile : Profile) (accepted : IsAccepted P) (made : IsTraced P profile Q) (f point : ℕ) (t : Trace) (at : trace_at made.laid f point ≡ Some t) (place : HasQuietTrace P Q f point t) where
  abbrev st : Stitched P Q bool_type
  st = stitched P Q bool_type made.laid (lay P Q profile made f point t at) (most P Q profile made f point t at) made.spliced_so

  traces : st.traces f point ≡ Some t
  traces = traces-are P Q bool_type made.laid (lay P Q profile made f point t at) (most P Q profile made f point t at) made.spliced_so f point ∙ at

  -- there is one such label
  same-place : place.label ≡ st.old f point
  same-place =
      let h = st.traced f point t traces in
      label_once Q f place.label (st.old f point) h.label (sym place.stands ∙ h.labelled) (sym (st.kept f point (reached P Q profile made f point t at)) ∙ h.labelled)

  starts : (limits : Limits) (args : List Value) → FitMain P args → (n : ℕ) (locations : Locals) (saves : List Locals) (older : List Frame) → RunsIn (frame f (suc place.label) locations saves) older (state_after Q limits args n) → ComesBehind P Q limits f point (first_state P limits args) (state_after Q limits args n)
  starts limits args fit n locations saves older runs =
      comes-behind P Q bool_type limits accepted st (suc n) n (omega arith) (first_state P limits args) (first_state Q limits args)
      (inl (first_states_match (M P Q bool_type accepted st) P Q limits accepted (preserves P Q bool_type accepted st) args (zip-long Suits args (types_of (slice_get P.funcs P.main)) fit))) f point
      (record { trace = t; is = traces; locations = locations; saves = saves; older = older; runs = subst (λ k. RunsIn (frame f (suc k) locations saves) older (state_after Q limits args n)) same-place runs })

pub traces-start_alike : TracesStartAlike
traces-start_alike P Q profile accepted made f point t at place = starts P Q profile accepted made f point t at place
