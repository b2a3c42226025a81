-- Each run of an accepted program stands well.
use Rattle.std.proofs.Common.{◌≡◌, ℕ, zero, suc, List, [], ◌∷◌, length, Option, Some, None, refl, sym, ap, subst, ◌∙◌, arith, All}
use Rattle.std.specs.Prelude.{slice_get, slice_index, IsSome, IsTrue}
use Rattle.std.specs.List.{AllZip}
use Rattle.std.specs.Option.{option_map}
use Rattle.std.proofs.lemmas.Bool.{eq-eqb}
use Rattle.std.proofs.lemmas.List.Elements.{All-head, All-tail}
use Rattle.simulation.specs.System.{after}
use Rattle.bril_tree.specs.declared.limits.End.{End}
use Rattle.bril_tree.specs.declared.limits.Limits.{Limits}
use Rattle.bril_tree.specs.declared.numbered.Instr.{Instr}
use Rattle.bril_tree.specs.declared.numbered.Instr.TheVariants.{Act}
use Rattle.bril_tree.specs.declared.numbered_function.Func.{Func}
use Rattle.bril_tree.specs.declared.operation.Op.TheVariants as op
use Rattle.bril_tree.specs.declared.program.Prog.{Prog}
use Rattle.bril_tree.specs.declared.types.Base.{Base}
use Rattle.bril_tree.specs.declared.types.Ty.{Ty}
use Rattle.bril_tree.specs.declared.value.Value.{Value}
use Rattle.bril_tree.specs.Accepted.{IsAccepted, IsAcceptedFunction, IsPlainType}
use Rattle.bril_tree.specs.Memory.{held}
use Rattle.bril_tree.specs.Outcome.{Outcome, Yields, FaultsWith, HasEffect, outcome_of, argument}
use Rattle.bril_tree.specs.ProgramForm.{main_name}
use Rattle.bril_tree.specs.Run.{FitMain, Suits, types_of, first_state, state_after}
use Rattle.bril_tree.specs.State.{Frame, State, read, no_values}
use Rattle.bril_tree.specs.Step.{items_of, item_at, by_outcome, item_step, frames_step, running_step, step, new_frame}
use Rattle.bril_tree.specs.Typing.{argument_type, points_to}
use Rattle.bril_tree.specs.Value.{IsInRange, IsOfDepth}
use Rattle.bril_tree.specs.Literals.{AreLiteralsInRange, IsLiteralInRange}
use Rattle.type_soundness.specs.WellTyped.{RunsAreWellTyped, LoadsAreWellTyped, OlderAreWellTyped, calls_function}
use Rattle.type_soundness.proofs.Actions.{acts-runs, gives-runs, loaded}
use Rattle.type_soundness.proofs.Arguments.{HaveTypes, new-sits}
use Rattle.type_soundness.proofs.Calls.{fault-runs, returns-runs}
use Rattle.type_soundness.proofs.Invariant.{Stack, Stands, Runs}
use Rattle.type_soundness.proofs.Operands.{giver-goes_on, given-typed, argument-typed}
use Rattle.type_soundness.proofs.Locals.{IsThere, both_typed-right, act-typed, counted}
use Rattle.bril_tree.proofs.Acceptance.{accepted_function, shaped_at, typed_at}
use Rattle.bril_tree.proofs.Elements.{All-at, none_past}
use Rattle.type_soundness.proofs.Standing.{holds-read, before_end, well-typed}
use Rattle.type_soundness.proofs.Typed.{Cell, IsTyped, HasType, HasType-suits}

-- ---- the first state

plain-typed : (depth : ℕ) (b : Base) (v : Value) → depth ≡ 0 → IsInRange v → IsOfDepth depth b v → IsTyped [] depth b v
plain-typed zero b v e r o = (r, o)
plain-typed (suc depth) b v e r o = absurd (omega arith)

plain-value : (t : Option Ty) (v : Value) → IsPlainType t → Suits v t → HasType [] t v
plain-value None v e h = absurd h
plain-value (Some ty) v e h = plain-typed ty.depth ty.base v e h.0 h.1

plain-values : (args : List Value) (ts : List (Option Ty)) → All IsPlainType ts → AllZip Suits args ts → HaveTypes [] args ts
plain-values [] [] plain h = tt
plain-values [] (t ∷ ts) plain h = absurd h
plain-values (v ∷ args) [] plain h = absurd h
plain-values (v ∷ args) (t ∷ ts) plain h = (plain-value t v (All-head IsPlainType t ts plain) h.0, plain-values args ts (All-tail IsPlainType t ts plain) h.1)

pub main-there : (o : Option Func) → option_map (λ (f : Func). f.name) o ≡ Some main_name → (f : Func) × (o ≡ Some f)
main-there None e = absurd (cc)
main-there (Some f) e = (f, refl)

module _ (p : Prog) (limits : Limits) (accepted : IsAccepted p) (literals : AreLiteralsInRange p) where
  first-runs : (args : List Value) → FitMain p args → Runs p (first_state p limits args)
  first-runs args fit =
      let main = main-there (slice_get p.funcs p.main) p.formed.main_is in
      let have : HaveTypes [] args (types_of (Some main.0)) =
      subst (λ (o : Option Func). HaveTypes [] args (types_of o)) main.1 (plain-values args (types_of (slice_get p.funcs p.main)) accepted.main.takes_plain fit) in
      record {
        frame = new_frame p.main args;
        older = [];
        frames = refl;
        stands = record { heap = []; memory = tt; function = main.0; sits = new-sits p limits [] p.main main.0 args main.1 have; stack = tt };
      }

  -- ---- one step

  module _ (s : State) (frame : Frame) (older : List Frame) (framed : s.frames ≡ frame ∷ older) (st : Stands p s.blocks frame older) where
    facts : IsAcceptedFunction p st.function
    facts = accepted_function p frame.function st.function accepted st.sits.there

    literal : (item : Instr) → slice_get st.function.code frame.point ≡ Some item → IsLiteralInRange item
    literal item at = All-at IsLiteralInRange st.function.code frame.point item (All-at (λ (f : Func). All IsLiteralInRange f.code) p.funcs frame.function st.function literals st.sits.there) at

    outcome-runs : (o : Outcome) (item : Instr) → slice_get st.function.code frame.point ≡ Some item → outcome_of item frame.locations ≡ o → Runs p (by_outcome p limits o item frame older s)
    outcome-runs (Yields v) item at e =
        gives-runs p limits s frame older st item v at (giver-goes_on item frame.locations v e)
        (λ x d. given-typed p st.heap st.function frame.locations item v x (shaped_at p st.function facts frame.point item at) (typed_at p st.function facts frame.point item at) (literal item at)
        (λ location c. holds-read p st.heap st.function frame facts st.sits item location at c) e d)
    outcome-runs (FaultsWith kind) item at e = fault-runs p limits accepted s kind (record { frame = frame; older = older; frames = framed; stands = st })
    outcome-runs HasEffect item at e = acts-runs p limits accepted s frame older framed st item at e

    -- a function that runs off its end returns nothing
    nothing-returned : (ret : Option Ty) (v : Value) → (IsSome ret → ⊥) → HasType st.heap ret v
    nothing-returned None v h = tt
    nothing-returned (Some t) v h = absurd (h refl)

    item-runs : (o : Option Instr) → slice_get st.function.code frame.point ≡ o → Runs p (item_step p limits o frame older s)
    item-runs None at =
        returns-runs p limits accepted (read no_values 0) older s frame framed st
        (nothing-returned st.function.ret (read no_values 0) (λ value. none_past st.function.code frame.point (before_end p st.heap st.function frame facts st.sits value) at))
    item-runs (Some item) at = outcome-runs (outcome_of item frame.locations) item at refl

    newest-runs : Runs p (item_step p limits (item_at p frame.function frame.point) frame older s)
    newest-runs = item-runs _ (ap (λ (o : Option Func). slice_get (items_of o) frame.point) (sym st.sits.there))

  running-runs : (s : State) (o : Option End) → Runs p s → Runs p (running_step p limits o s)
  running-runs s None r = subst (λ frames. Runs p (frames_step p limits frames s)) (sym r.frames) (newest-runs s r.frame r.older r.frames r.stands)
  running-runs s (Some how) r = r

  after-runs : (n : ℕ) (s : State) → Runs p s → Runs p (after (step p limits) n s)
  after-runs zero s r = r
  after-runs (suc n) s r = after-runs n (step p limits s) (running-runs s s.ended r)

  -- the state after a number of steps
  pub state-runs : (args : List Value) → FitMain p args → (n : ℕ) → Runs p (state_after p limits args n)
  state-runs args fit n = after-runs n (first_state p limits args) (first-runs args fit)

  -- ---- the older frames

  older_stand : (heap : List Cell) (above : ℕ) (older : List Frame) → Stack p heap above older → OlderAreWellTyped p above older
  older_stand heap above [] h = tt
  older_stand heap above (f ∷ older) h =
      let w = h.0 in
      let facts = accepted_function p f.function w.function accepted w.sits.there in
      let item = Act w.dest w.ty op.Call w.args w.funcs w.labels in
      let there : item_at p f.function f.point ≡ Some item = ap (λ (o : Option Func). slice_get (items_of o) f.point) w.sits.there ∙ w.at in (
        well-typed p heap w.function f facts w.sits,
        subst (λ o. IsTrue (calls_function above o)) (sym there) (eq-eqb (slice_index w.funcs 0) above w.callee),
        older_stand heap f.function older h.1,
      )

  -- ---- what is loaded

  loaded-suits : (heap : List Cell) (ty : Option Ty) (v : Value) → IsThere ty → HasType heap ty v → Suits v ty
  loaded-suits heap ty v there h = subst (λ o. Suits v o) (sym there.1) (HasType-suits heap there.0 v (subst (λ o. HasType heap o v) there.1 h))

  load-suits : (s : State) (frame : Frame) (older : List Frame) (st : Stands p s.blocks frame older) (dest : Option ℕ) (ty : Option Ty) (args funcs labels : List ℕ) → slice_get st.function.code frame.point ≡ Some (Act dest ty op.Load args funcs labels)
      → (cell : ℕ) (v : Value) → held s.blocks (argument frame.locations args 0) cell ≡ Some v → Suits v ty
  load-suits s frame older st dest ty args funcs labels at cell v e =
      let facts = accepted_function p frame.function st.function accepted st.sits.there in
      let item = Act dest ty op.Load args funcs labels in
      let shaped = shaped_at p st.function facts frame.point item at in
      let t = act-typed p st.function op.Load dest ty args funcs labels shaped (typed_at p st.function facts frame.point item at) in
      let one : length args ≡ 1 = counted p st.function op.Load dest args funcs labels shaped in
      let pointer = argument-typed p st.heap st.function frame.locations item args 0 refl (λ location c. holds-read p st.heap st.function frame facts st.sits item location at c) (omega arith) in
      loaded-suits st.heap ty v (both_typed-right points_to (argument_type st.function.vars args 0) ty t.operands_typed)
      (loaded st.heap s.blocks (argument_type st.function.vars args 0) ty (argument frame.locations args 0) v cell st.memory t.operands_typed pointer e)

  found-suits : (s : State) (r : Runs p s) (f : Frame) (older : List Frame) → s.frames ≡ f ∷ older → (dest : Option ℕ) (ty : Option Ty) (args funcs labels : List ℕ) → item_at p f.function f.point ≡ Some (Act dest ty op.Load args funcs labels)
      → (cell : ℕ) (v : Value) → held s.blocks (argument f.locations args 0) cell ≡ Some v → Suits v ty
  found-suits s r f older framed dest ty args funcs labels at cell v e =
      let item = Act dest ty op.Load args funcs labels in
      let same : r.frame ≡ f = (let both : r.frame ∷ r.older ≡ f ∷ older = sym r.frames ∙ framed in cc) in
      let here : item_at p r.frame.function r.frame.point ≡ Some item = ap (λ (g : Frame). item_at p g.function g.point) same ∙ at in
      let there : slice_get r.stands.function.code r.frame.point ≡ Some item = ap (λ (o : Option Func). slice_get (items_of o) r.frame.point) (sym r.stands.sits.there) ∙ here in
      load-suits s r.frame r.older r.stands dest ty args funcs labels there cell v (ap (λ (g : Frame). held s.blocks (argument g.locations args 0) cell) same ∙ e)

pub runs_are_well_typed : RunsAreWellTyped
runs_are_well_typed p limits args accepted literals fit n =
    let r = state-runs p limits accepted literals args fit n in
    let facts = accepted_function p r.frame.function r.stands.function accepted r.stands.sits.there in (
      r.frame,
      r.older,
      r.frames,
      well-typed p r.stands.heap r.stands.function r.frame facts r.stands.sits,
      older_stand p limits accepted literals r.stands.heap r.frame.function r.older r.stands.stack,
    )

pub loads_suit : LoadsAreWellTyped
loads_suit p limits args accepted literals fit n f older framed dest ty operands funcs labels at cell v e =
    found-suits p limits accepted literals (state_after p limits args n) (state-runs p limits accepted literals args fit n) f older framed dest ty operands funcs labels at cell v e
