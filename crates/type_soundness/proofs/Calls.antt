-- Calls and returns keep the invariant.
use Rattle.std.proofs.Common.{◌≡◌, ℕ, suc, Bool, true, false, List, [], ◌∷◌, length, map, Option, Some, None, refl, sym, ap, subst, ◌∙◌, inl, inr, arith, cond}
use Rattle.std.specs.Prelude.{slice_get, slice_index, nat_lt}
use Rattle.std.proofs.lemmas.Bool.{and_parts, eqb-true}
use Rattle.bril_tree.specs.declared.limits.Fault.{Fault}
use Rattle.bril_tree.specs.declared.limits.Limits.{Limits}
use Rattle.bril_tree.specs.declared.numbered.Instr.{Instr}
use Rattle.bril_tree.specs.declared.numbered.Instr.TheVariants.{Act}
use Rattle.bril_tree.specs.declared.numbered_function.Func.{Func}
use Rattle.bril_tree.specs.declared.operation.Op.TheVariants as op
use Rattle.bril_tree.specs.declared.program.Prog.{Prog}
use Rattle.bril_tree.specs.declared.types.Ty.{Ty}
use Rattle.bril_tree.specs.declared.value.Value.{Value}
use Rattle.bril_tree.specs.Accepted.{IsAccepted}
use Rattle.bril_tree.specs.Memory.{is_live_any}
use Rattle.bril_tree.specs.Operand.{Variable}
use Rattle.bril_tree.specs.State.{Locals, Frame, State, read}
use Rattle.bril_tree.specs.Step.{items_of, item_at, faulted, gives, ends, awaited, returns, new_frame, calls}
use Rattle.bril_tree.specs.Typing.{variable_type, same_result, are_typed, is_call_typed}
use Rattle.bril_tree.specs.Membership.{In}
use Rattle.bril_tree.proofs.Members.{in_map, contains_in}
use Rattle.bril_tree.proofs.Elements.{in_index}
use Rattle.bril_tree.proofs.Formed.{callee_there}
use Rattle.type_soundness.proofs.Arguments.{HaveTypes, new-sits}
use Rattle.type_soundness.proofs.Frames.{Holds, Sits}
use Rattle.type_soundness.proofs.Invariant.{Waits, Stands, Runs}
use Rattle.type_soundness.proofs.Operands.{read-typed, dest-typed}
use Rattle.type_soundness.proofs.Locals.{IsTypedAct, act-typed}
use Rattle.bril_tree.proofs.Acceptance.{accepted_function, shaped_at, typed_at}
use Rattle.type_soundness.proofs.Standing.{holds-read}
use Rattle.type_soundness.proofs.Steps.{gives-stands}
use Rattle.type_soundness.proofs.Typed.{Cell, HasType, HasType-both, HasType-back}

-- ---- the values of the arguments

called-values : (p : Prog) (heap : List Cell) (f : Func) (locations : Locals) (args : List ℕ) (ts : List (Option Ty)) → are_typed (map (variable_type f.vars) args) ts ≡ true → ((x : ℕ) → In x args → Holds heap f locations (Variable x))
    → HaveTypes heap (map (read locations.vars) args) ts
called-values p heap f locations [] [] e h = tt
called-values p heap f locations [] (t ∷ ts) e h = absurd (cc)
called-values p heap f locations (x ∷ args) [] e h = absurd (cc)
called-values p heap f locations (x ∷ args) (t ∷ ts) e h =
    let both = and_parts _ _ e in
    (HasType-both heap (variable_type f.vars x) t (read locations.vars x) both.0 (read-typed p heap f locations x (h x (inl refl))), called-values p heap f locations args ts both.1 (λ y i. h y (inr i)))

-- ---- the returned value

result-typed : (heap : List Cell) (ty ret : Option Ty) (v : Value) → same_result ty ret ≡ true → HasType heap ret v → HasType heap ty v
result-typed heap None ret v e h = tt
result-typed heap (Some s) None v e h = absurd (cc)
result-typed heap (Some s) (Some t) v e h = HasType-back heap s t v e h

module _ (p : Prog) (limits : Limits) (accepted : IsAccepted p) where
  -- what is known of the item at which a frame stands
  act-here : (heap : List Cell) (f : Func) (frame : Frame) → Sits p heap f frame → (dest : Option ℕ) (ty : Option Ty) (args funcs labels : List ℕ) → slice_get f.code frame.point ≡ Some (Act dest ty op.Call args funcs labels)
      → IsTypedAct p f op.Call dest ty args funcs
  act-here heap f frame sits dest ty args funcs labels at =
      let facts = accepted_function p frame.function f accepted sits.there in
      act-typed p f op.Call dest ty args funcs labels (shaped_at p f facts frame.point _ at) (typed_at p f facts frame.point _ at)

  call-typed : (heap : List Cell) (f above : Func) (frame : Frame) → Sits p heap f frame → (dest : Option ℕ) (ty : Option Ty) (args funcs labels : List ℕ) → slice_get f.code frame.point ≡ Some (Act dest ty op.Call args funcs labels)
      → slice_get p.funcs (slice_index funcs 0) ≡ Some above → is_call_typed (Some above) f.vars args ty ≡ true
  call-typed heap f above frame sits dest ty args funcs labels at callee =
      subst (λ (o : Option Func). is_call_typed o f.vars args ty ≡ true) callee (act-here heap f frame sits dest ty args funcs labels at).operands_typed

  returned-typed : (heap : List Cell) (number : ℕ) (above : Func) (caller : Frame) (w : Waits p heap number caller) (v : Value) → slice_get p.funcs number ≡ Some above → HasType heap above.ret v → (x : ℕ) → w.dest ≡ Some x → HasType heap (variable_type w.function.vars x) v
  returned-typed heap number above caller w v there h x d =
      let call = call-typed heap w.function above caller w.sits w.dest w.ty w.args w.funcs w.labels w.at (ap (slice_get p.funcs) w.callee ∙ there) in
      dest-typed p heap w.function caller.locations w.dest w.ty v x (act-here heap w.function caller w.sits w.dest w.ty w.args w.funcs w.labels w.at).dest_typed
      (result-typed heap w.ty above.ret v (and_parts _ _ call).1 h) d

  -- ---- the states

  pub fault-runs : (s : State) (kind : Fault) → Runs p s → Runs p (faulted kind s)
  fault-runs s kind r = record { frame = r.frame; older = r.older; frames = r.frames; stands = r.stands }

  ends-runs : (b : Bool) (s : State) → Runs p s → Runs p (ends p limits b s)
  ends-runs true s r = fault-runs s _ r
  ends-runs false s r = record { frame = r.frame; older = r.older; frames = r.frames; stands = r.stands }

  pub cond-runs : (b : Bool) (s t : State) → Runs p s → Runs p t → Runs p (cond b s t)
  cond-runs true s t r q = r
  cond-runs false s t r q = q

  -- the newest frame is popped
  pub returns-runs : (v : Value) (older : List Frame) (s : State) (frame : Frame) → s.frames ≡ frame ∷ older → (st : Stands p s.blocks frame older) → HasType st.heap st.function.ret v → Runs p (returns p limits v older s)
  returns-runs v [] s frame framed st h = ends-runs (is_live_any s.blocks) s (record { frame = frame; older = []; frames = framed; stands = st })
  returns-runs v (caller ∷ older) s frame framed st h =
      let w = st.stack.0 in
      let below : Stands p s.blocks caller older = record { heap = st.heap; memory = st.memory; function = w.function; sits = w.sits; stack = st.stack.1 } in
      let item = Act w.dest w.ty op.Call w.args w.funcs w.labels in
      let there : item_at p caller.function caller.point ≡ Some item = ap (λ (o : Option Func). slice_get (items_of o) caller.point) w.sits.there ∙ w.at in
      let goes_on : Runs p (gives p limits w.dest v caller older s) = record {
        frame = _;
        older = older;
        frames = refl;
        stands = gives-stands p s.blocks caller older below item v w.at (record { branch = λ code point. inl refl; keeps = refl; assigns = refl }) (returned-typed st.heap frame.function st.function caller w v st.sits.there h);
      } in
      subst (λ (o : Option Instr). Runs p (gives p limits (awaited p limits o) v caller older s)) (sym there) goes_on

  -- a new frame over the newest
  call-stands : (s : State) (frame : Frame) (older : List Frame) (st : Stands p s.blocks frame older) (dest : Option ℕ) (ty : Option Ty) (args funcs labels : List ℕ) → slice_get st.function.code frame.point ≡ Some (Act dest ty op.Call args funcs labels)
      → Stands p s.blocks (new_frame (slice_index funcs 0) (map (read frame.locations.vars) args)) (frame ∷ older)
  call-stands s frame older st dest ty args funcs labels at =
      let f = st.function in
      let item = Act dest ty op.Call args funcs labels in
      let facts = accepted_function p frame.function f accepted st.sits.there in
      let one : length funcs ≡ 1 = eqb-true (length funcs) 1 (and_parts _ _ (shaped_at p f facts frame.point item at)).0 in
      let callee = callee_there p frame.function frame.point f item (slice_index funcs 0) st.sits.there at (in_index funcs 0 (omega arith)) in
      let call = call-typed st.heap f callee.0 frame st.sits dest ty args funcs labels at callee.1 in
      let held = λ (x : ℕ) (i : In x args). holds-read p st.heap f frame facts st.sits item (Variable x) at (contains_in (Variable x) (map Variable args) (in_map Variable x args i)) in
      record {
        heap = st.heap;
        memory = st.memory;
        function = callee.0;
        sits = new-sits p limits st.heap (slice_index funcs 0) callee.0 (map (read frame.locations.vars) args) callee.1 (called-values p st.heap f frame.locations args _ (and_parts _ _ call).0 held);
        stack = (record { function = f; sits = st.sits; dest = dest; ty = ty; args = args; funcs = funcs; labels = labels; at = at; callee = refl }, st.stack);
      }

  pub calls-runs : (s : State) (frame : Frame) (older : List Frame) → s.frames ≡ frame ∷ older → (st : Stands p s.blocks frame older) (dest : Option ℕ) (ty : Option Ty) (args funcs labels : List ℕ) → slice_get st.function.code frame.point ≡ Some (Act dest ty op.Call args funcs labels)
      → Runs p (calls p limits (slice_index funcs 0) (map (read frame.locations.vars) args) frame older s)
  calls-runs s frame older framed st dest ty args funcs labels at =
      cond-runs (nat_lt (suc (length older)) limits.frames) _ _
      (record { frame = _; older = frame ∷ older; frames = refl; stands = call-stands s frame older st dest ty args funcs labels at })
      (fault-runs s _ (record { frame = frame; older = older; frames = framed; stands = st }))
