-- A program with laid traces refines the one that it is made from, with the factor 520. Where it stands at the `speculate` of a trace,
-- that one stands behind the label.
use Rattle.bril_tree.proofs.Branches.{walk_within}
use Rattle.bril_tree.proofs.Elements.{zip-long}
use Rattle.pass_edit_laws.proofs.lemmas.names.Standing.{action_at, label_at}
use Rattle.bril_tree.specs.declared.function_tree.Item.TheVariants as item
use Rattle.bril_tree.specs.declared.operation.Op.TheVariants as op
use Rattle.std.proofs.Common.{◌≡◌, ℕ, zero, suc, ◌+◌, ◌-◌, ◌<◌, ◌≤◌, List, [], ◌∷◌, ◌++◌, length, Option, Some, None, refl, sym, ap, subst, ◌∙◌, inl, inr, ⊎_elim, arith}
use Rattle.std.specs.Prelude.{slice_get, IsSome}
use Rattle.std.proofs.lemmas.Bool.{cases_lt}
use Rattle.std.proofs.lemmas.List.{length-append}
use Rattle.simulation.specs.System.{IsFinal, after}
use Rattle.simulation.specs.Simulation.{Chunk, Simulation}
use Rattle.simulation.proofs.After.{after-add, after-add_one, after-final, after-sub, after-suc, final_or_running, running-not_final}
use Rattle.simulation.proofs.Simulation.{Follows-from_simulation}
use Rattle.bril_tree.specs.declared.function_tree.Item.{Item}
use Rattle.bril_tree.specs.declared.limits.End.{End}
use Rattle.bril_tree.specs.declared.limits.Limits.{Limits}
use Rattle.bril_tree.specs.declared.numbered.Instr.TheVariants.{Label}
use Rattle.bril_tree.specs.declared.program.Prog.{Prog}
use Rattle.bril_tree.specs.declared.types.Ty.{Ty}
use Rattle.bril_tree.specs.Accepted.{IsAccepted}
use Rattle.bril_tree.specs.Edge.{onward}
use Rattle.bril_tree.specs.Run.{program, first_state, Suits, types_of, Refines}
use Rattle.bril_tree.specs.State.{Locals, Frame, Block, State}
use Rattle.bril_tree.specs.Step.{code_of, item_at, item_step, step}
use Rattle.bril_tree.specs.Walk.{IsReached}
use Rattle.bril_tree.proofs.Grows.{program_is_system}
use Rattle.pass_edit_laws.specs.plan.Plan.{Plan, ContentsMatch, StacksMatch, StatesMatch}
use Rattle.pass_edit_laws.proofs.lemmas.steps.Moves.{result_moves}
use Rattle.pass_edit_laws.proofs.lemmas.steps.Steps.{frame, state, matches, regular_steps_match, first_states_match}
use Rattle.trace_laws.specs.lines.Lines.{leg_lines, end_lines}
use Rattle.trace_laws.specs.lines.Traced.{Trace}
use Rattle.trace_laws.specs.refinement.Attempts.{ComesBehind, RunsIn, StatesAlike}
use Rattle.trace_laws.specs.refinement.Stitched.{Stands, trace_path, IsTracedAt, Stitched}
use Rattle.trace_laws.proofs.lemmas.refinement.Behind.{AtTrace, contents-alike, newest-same, not-elsewhere, not-old, one-point, stacks-alike}
use Rattle.trace_laws.proofs.lemmas.refinement.Plans.{IsRegular, M, preserves}
use Rattle.trace_laws.proofs.lemmas.refinement.Along.{Back, Elsewhere, Later, Met, Outcome, Reaches, along, first-and, no-steps, one-more, reach}
use Rattle.bril_tree.specs.Numbered.{tree_at}

pub stands_append : (P Q : Prog) (bool : Ty) (f j : ℕ) (xs ys : List Item) → Stands P Q bool f j (xs ++ ys) → Stands P Q bool f (j + length xs) ys
stands_append P Q bool f j [] ys h = let e : j ≡ j + 0 = omega arith in subst (λ n. Stands P Q bool f n ys) e h
stands_append P Q bool f j (x ∷ xs) ys h = let e : suc j + length xs ≡ j + suc (length xs) = omega arith in subst (λ n. Stands P Q bool f n ys) e (stands_append P Q bool f (suc j) xs ys h.1)

same_function : (F G : Frame) → F.function ≡ G.function → G ≡ frame F.function G.point G.locations G.saves
same_function F G e = λ z. frame (sym e z) G.point G.locations G.saves

module _ (P Q : Prog) (bool : Ty) (limits : Limits) (accepted : IsAccepted P) (st : Stitched P Q bool) where
  abbrev N : Plan
  N = M P Q bool accepted st

  abbrev R : State → State → Type 0
  R = Met P Q bool limits accepted st

  -- a chunk of both runs, and that where Q stands within it at the `speculate` of a trace, P comes from s to stand behind the label
  pub record Chunks (s t : State) : Type 0 where
    pub chunk : Chunk (program P limits) (program Q limits) 520 R s t
    pub between : (n : ℕ) → n ≤ chunk.moves → (f point : ℕ) → AtTrace P Q bool st f point (after (step Q limits) n t) → ComesBehind P Q limits f point s (after (step Q limits) n t)

  -- ---- at the label of a trace

  module _ (k i : ℕ) (p q : Locals) (ps qs : List Locals) (contents : ContentsMatch N P Q k i (st.old k i) p q ps qs) (fs gs : List Frame) (callers : StacksMatch N P Q k fs gs) (blocks : List Block) (printed : List ℕ) (x y : ℕ → ℕ → ℕ) (t : Trace) (is : st.traces k i ≡ Some t) where
    h : IsTracedAt P Q bool st.old st.stops k i t
    h = st.traced k i t is

    abbrev s0 : State
    s0 = state (frame k i p ps ∷ fs) blocks printed None x

    abbrev t0 : State
    t0 = state (frame k (st.old k i) q qs ∷ gs) blocks printed None y

    abbrev legs : List Item
    legs = leg_lines bool (tree_at P k) t.names 0 (trace_path P Q bool k i t).legs

    inside : Stands P Q bool k (suc (suc (st.old k i))) (legs ++ end_lines bool (tree_at P k) t.names)
    inside = h.lines.1

    abbrev bail : ℕ
    bail = suc (suc (suc (suc (st.old k i)) + length legs))

    bailed : tree_at Q k bail ≡ Some (item.Label t.names.bail)
    bailed = (stands_append P Q bool k (suc (suc (st.old k i))) legs (end_lines bool (tree_at P k) t.names) inside).1.1.0

    behind : suc bail + st.stops k (suc i) ≡ st.old k (suc i)
    behind = let b = h.behind in let l = length-append legs (end_lines bool (tree_at P k) t.names) in omega arith

    abbrev InP : ℕ → Locals → State
    InP n p' = state (frame k n p' ps ∷ fs) blocks printed None x

    abbrev InQ : ℕ → Locals → State
    InQ n q' = state (frame k n q' (q ∷ qs) ∷ gs) blocks printed None y

    stepped : step P limits s0 ≡ InP (suc i) p
    stepped = let l = label_at P k i h.label h.labelled in ap (λ o. item_step P limits o (frame k i p ps) fs s0) l.at

    reached : IsReached (code_of P k) i
    reached = record { walk = contents.walk; is = contents.is; ends = contents.ends }

    -- past the label and the speculate
    labelled : tree_at Q k (st.old k i) ≡ Some (item.Label h.label)
    labelled = sym (st.kept k i reached) ∙ h.labelled

    -- at the speculate
    abbrev past : State
    past = state (frame k (suc (st.old k i)) q qs ∷ gs) blocks printed None y

    passed : step Q limits t0 ≡ past
    passed = let l = label_at Q k (st.old k i) h.label labelled in ap (λ o. item_step Q limits o (frame k (st.old k i) q qs) gs t0) l.at

    opened : step Q limits (step Q limits t0) ≡ InQ (suc (suc (st.old k i))) q
    opened = let o = action_at Q k (suc (st.old k i)) None op.Speculate [] [] [] h.lines.0 in ap (step Q limits) passed ∙ ap (λ o. item_step Q limits o (frame k (suc (st.old k i)) q qs) gs past) o.at

    at-label : Elsewhere Q t0
    at-label = record { frame = frame k (st.old k i) q qs; older = gs; frames = refl; line = item.Label h.label; at = labelled; other = λ n. cc }

    -- there P stands behind the label, and holds the same
    behind-label : (f point : ℕ) → AtTrace P Q bool st f point (step Q limits t0) → ComesBehind P Q limits f point s0 (step Q limits t0)
    behind-label f point a =
        let here = newest-same (frame k (suc (st.old k i)) q qs) (frame f (suc (st.old f point)) a.locations a.saves) gs a.older (step Q limits t0).frames (ap (λ (z : State). z.frames) passed) a.runs.frames in
        let function : k ≡ f = ap (λ (z : Frame). z.function) here in
        let inside : i ≤ length (code_of P f) = subst (λ n. i ≤ length (code_of P n)) function (let w = walk_within (code_of P k) contents.walk contents.is in let e = contents.ends in omega arith) in
        let same : i ≡ point = one-point P Q bool st f point a.trace a.is i inside (ap (λ n. suc (st.old n i)) (sym function) ∙ ap (λ (z : Frame). z.point) here) in
        record {
          steps = 1;
          locations = p;
          saves = ps;
          older = fs;
          stands = record { frames = ap (λ (z : State). z.frames) stepped ∙ (λ z. frame (function z) (suc (same z)) p ps ∷ fs); ended = ap (λ (z : State). z.ended) stepped };
          alike = subst (λ z. StatesAlike P Q z (step Q limits t0)) (sym stepped) (subst (λ z. StatesAlike P Q (InP (suc i) p) z) (sym passed)
              (record { frames = (contents-alike P Q bool accepted st k i (st.old k i) (suc i) (suc (st.old k i)) p q ps qs contents, stacks-alike P Q bool accepted st k fs gs callers); effects = record { blocks = refl; printed = refl }; ended = refl }));
        }

    -- Q may be at the speculate only then
    at-speculate : (moves : ℕ) → ((n : ℕ) → n < moves → Elsewhere Q (after (step Q limits) n (InQ (suc (suc (st.old k i))) q))) → (n : ℕ) → n ≤ suc moves → (f point : ℕ) → AtTrace P Q bool st f point (after (step Q limits) n t0) → ComesBehind P Q limits f point s0 (after (step Q limits) n t0)
    at-speculate moves elsewhere zero few f point a = absurd (not-elsewhere P Q bool st f point t0 at-label a)
    at-speculate moves elsewhere (suc zero) few f point a = behind-label f point a
    at-speculate moves elsewhere (suc (suc n)) few f point a = absurd (not-elsewhere P Q bool st f point (after (step Q limits) (suc (suc n)) t0) (subst (λ z. Elsewhere Q (after (step Q limits) n z)) (sym opened) (elsewhere n (omega arith))) a)

    abbrev Came : ℕ → Type 0
    Came n = Reaches P Q bool limits accepted st k i t.names h.apart bail bailed ps qs q fs gs callers blocks printed x y n

    came : Came (suc i)
    came =
        let l = label_at P k i h.label h.labelled in
        reach P Q bool limits accepted st k i t.names h.apart bail bailed ps qs q fs gs callers blocks printed x y i (Label l.number) l.at
        (record { walk = contents.walk; is = contents.is; ends = contents.ends; saves = contents.saves }) (onward i) refl refl (inl refl) refl

    attempt : Outcome P Q bool limits accepted st k i t.names h.apart bail bailed ps qs q fs gs callers blocks printed x y 256 s0 (InQ (suc (suc (st.old k i))) q)
    attempt =
        along P Q bool limits accepted st k i t.names h.apart bail bailed ps qs q fs gs callers blocks printed x y 1023 256 t.choices (suc i) (suc (suc (st.old k i))) 0 p q s0
        (record { runs = refl; quiet = refl; steps = stepped }) came contents.locations (record { stands = inside; stop = h.stop })

    pub traced-chunk : Chunks s0 t0
    traced-chunk = ⊎_elim through back attempt
      where
        through : Later P Q bool limits accepted st k i t.names h.apart bail bailed ps qs q fs gs callers blocks printed x y s0 (InQ (suc (suc (st.old k i))) q) → Chunks s0 t0
        through l =
            let w = l.within in
            record {
              chunk = record {
                early = l.early;
                moves = suc l.moves;
                within = omega arith;
                quiet = l.quiet;
                running = l.running;
                again = subst (λ z. R (after (step P limits) (suc l.early) s0) (after (step Q limits) l.moves z)) (sym opened) l.again;
              };
              between = at-speculate l.moves l.between;
            }

        back : Back P Q bool limits accepted st k i t.names h.apart bail bailed ps qs q fs gs callers blocks printed x y 256 (InQ (suc (suc (st.old k i))) q) → Chunks s0 t0
        back b =
            let w = b.within in
            let label = label_at Q k bail t.names.bail bailed in
            let failed : State = state (frame k bail q qs ∷ gs) blocks printed None b.failures in
            let landed : State = state (frame k (suc bail) q qs ∷ gs) blocks printed None b.failures in
            let last : step Q limits failed ≡ landed = ap (λ o. item_step Q limits o (frame k bail q qs) gs failed) label.at in
            let moved : after (step Q limits) (suc (suc (b.moves + 1))) t0 ≡ landed =
            ap (after (step Q limits) (b.moves + 1)) opened ∙ after-add_one (step Q limits) b.moves (InQ (suc (suc (st.old k i))) q) ∙ ap (step Q limits) b.is ∙ last in
            let related : StatesMatch N P Q (InP (suc i) p) landed =
            matches N P Q limits accepted (preserves P Q bool accepted st) (frame k (suc i) p ps) (frame k (suc bail) q qs) fs gs blocks printed None x b.failures
            (record { function = refl; contents = record { walk = came.walk; is = came.is; ends = came.ends; points = (st.stops k (suc i), omega arith, behind); locations = contents.locations; known = λ a v h. absurd h; saves = came.saves } }) callers in
            record {
              chunk = record {
                early = 0;
                moves = suc (b.moves + 1);
                within = omega arith;
                quiet = refl;
                running = refl;
                again = subst (λ z. R z (after (step Q limits) (suc (suc (b.moves + 1))) t0)) (sym stepped) (inl (subst (λ z. StatesMatch N P Q (InP (suc i) p) z) (sym moved) related));
              };
              between = at-speculate (b.moves + 1) (first-and Q limits b.moves 1 (InQ (suc (suc (st.old k i))) q) failed b.is b.between (one-more Q limits 0 failed (record { frame = frame k bail q qs; older = gs; frames = refl; line = item.Label t.names.bail; at = bailed; other = λ n. cc }) (no-steps Q limits (step Q limits failed))));
            }

  -- ---- elsewhere

  -- Q walks over labels that were put before the item
  record AtOld (c : ℕ) (F : Frame) (s t : State) : Type 0 where
    count : ℕ
    few : count ≤ c
    points : StatesMatch N P Q s (after (step Q limits) count t)
    between : (n : ℕ) → n ≤ count → (f point : ℕ) → AtTrace P Q bool st f point (after (step Q limits) n t) → ⊥
    same : points.frame ≡ F
    at : points.result_frame.point ≡ st.old F.function F.point

  -- at an old item Q stands at no `speculate` of a trace
  at-old_item : (s t : State) (r : StatesMatch N P Q s t) → r.result_frame.point ≡ st.old r.frame.function r.frame.point → (f point : ℕ) → AtTrace P Q bool st f point t → ⊥
  at-old_item s t r at f point a =
      let here = newest-same r.result_frame (frame f (suc (st.old f point)) a.locations a.saves) r.result_older a.older t.frames r.result_frames a.runs.frames in
      let function : r.frame.function ≡ f = r.newest.function ∙ ap (λ (z : Frame). z.function) here in
      let c = r.newest.contents in
      let inside : r.frame.point ≤ length (code_of P r.frame.function) = let w = walk_within (code_of P r.frame.function) c.walk c.is in let e = c.ends in omega arith in
      not-old P Q bool st f point a.trace a.is r.frame.point (subst (λ n. r.frame.point ≤ length (code_of P n)) function inside)
      (ap (λ n. st.old n r.frame.point) (sym function) ∙ sym at ∙ ap (λ (z : Frame). z.point) here)

  only-now : (t : State) → ((f point : ℕ) → AtTrace P Q bool st f point t → ⊥) → (n : ℕ) → n ≤ 0 → (f point : ℕ) → AtTrace P Q bool st f point (after (step Q limits) n t) → ⊥
  only-now t h zero few = h
  only-now t h (suc n) few = absurd (omega arith)

  and-later : (count : ℕ) (t : State) → ((f point : ℕ) → AtTrace P Q bool st f point t → ⊥) → ((n : ℕ) → n ≤ count → (f point : ℕ) → AtTrace P Q bool st f point (after (step Q limits) n (step Q limits t)) → ⊥)
      → (n : ℕ) → n ≤ suc count → (f point : ℕ) → AtTrace P Q bool st f point (after (step Q limits) n t) → ⊥
  and-later count t h rest zero few = h
  and-later count t h rest (suc n) few = rest n (omega arith)

  to_old : (m : ℕ) (s t : State) (r : StatesMatch N P Q s t) → s.ended ≡ None → m ≤ st.stops r.frame.function r.frame.point → r.result_frame.point + m ≡ st.old r.frame.function r.frame.point → AtOld m r.frame s t
  to_old zero s t r runs few e = let at : r.result_frame.point ≡ st.old r.frame.function r.frame.point = omega arith in record { count = 0; few = omega arith; points = r; between = only-now t (at-old_item s t r at); same = refl; at = at }
  to_old (suc m) s t r runs few e =
      let F = r.frame in
      let G = r.result_frame in
      let name = st.stop_label F.function F.point G.point m few e in
      let label = label_at Q F.function G.point name.0 name.1 in
      let at : item_at Q G.function G.point ≡ Some (Label label.number) = ap (λ n. item_at Q n G.point) (sym r.newest.function) ∙ label.at in
      let n = result_moves N P Q limits accepted (preserves P Q bool accepted st) s t r runs (Label label.number) at G.locations (λ older v. refl) (m, omega arith, omega arith) r.newest.contents.locations in
      let point : n.0.result_frame.point ≡ suc G.point = ap (λ (z : Frame). z.point) n.2 in
      let rest = to_old m s (step Q limits t) n.0 runs
      (subst (λ (z : Frame). m ≤ st.stops z.function z.point) (sym n.1) (omega arith))
      (subst (λ (z : Frame). n.0.result_frame.point + m ≡ st.old z.function z.point) (sym n.1) (omega arith)) in
      let c = rest.few in
      let tree : tree_at Q G.function G.point ≡ Some (item.Label name.0) = ap (λ n. tree_at Q n G.point) (sym r.newest.function) ∙ name.1 in
      let here : Elsewhere Q t = record { frame = G; older = r.result_older; frames = r.result_frames; line = item.Label name.0; at = tree; other = λ n. cc } in
      record { count = suc rest.count; few = omega arith; points = rest.points; between = and-later rest.count t (λ f point. not-elsewhere P Q bool st f point t here) rest.between; same = rest.same ∙ n.1; at = rest.at ∙ ap (λ (z : Frame). st.old z.function z.point) n.1 }

  plain-chunk : (s t : State) (r : StatesMatch N P Q s t) → s.ended ≡ None → st.traces r.frame.function r.frame.point ≡ None → Chunks s t
  plain-chunk s t r runs none =
      let b = r.newest.contents.points in
      let o = to_old b.0 s t r runs b.1 b.2 in
      let few = st.few r.frame.function r.frame.point in
      let c = o.few in
      let m = b.1 in
      let regular : IsRegular P Q bool accepted st o.points.frame.function o.points.frame.point o.points.result_frame.point = (o.at ∙ ap (λ (z : Frame). st.old z.function z.point) (sym o.same), ap (λ (z : Frame). st.traces z.function z.point) o.same ∙ none) in
      record {
        chunk = record {
          early = 0;
          moves = o.count;
          within = omega arith;
          quiet = refl;
          running = runs;
          again = subst (λ z. R (step P limits s) z) (sym (after-suc (step Q limits) o.count t)) (inl (regular_steps_match N P Q limits accepted (preserves P Q bool accepted st) s (after (step Q limits) o.count t) o.points runs regular));
        };
        between = λ n less f point a. absurd (o.between n less f point a);
      }

  tracing-chunk : (s t : State) (r : StatesMatch N P Q s t) → s.ended ≡ None → (tr : Trace) → st.traces r.frame.function r.frame.point ≡ Some tr → Chunks s t
  tracing-chunk s t r runs tr is =
      let F = r.frame in
      let G = r.result_frame in
      let b = r.newest.contents.points in
      let few = b.1 in
      let e = b.2 in
      let lone = (st.traced F.function F.point tr is).lone in
      let old : G.point ≡ st.old F.function F.point = omega arith in
      let es : s ≡ state (F ∷ r.older) s.blocks s.printed None s.failures = (λ z. state (r.frames z) s.blocks s.printed (runs z) s.failures) in
      let et : t ≡ state (frame F.function (st.old F.function F.point) G.locations G.saves ∷ r.result_older) s.blocks s.printed None t.failures =
      (λ z. state (r.result_frames z) (sym r.blocks z) (sym r.printed z) ((sym r.ended ∙ runs) z) t.failures)
      ∙ (λ z. state (same_function F G r.newest.function z ∷ r.result_older) s.blocks s.printed None t.failures)
      ∙ (λ z. state (frame F.function (old z) G.locations G.saves ∷ r.result_older) s.blocks s.printed None t.failures) in
      subst (λ z. Chunks z t) (sym es)
      (subst (λ z. Chunks (state (F ∷ r.older) s.blocks s.printed None s.failures) z) (sym et)
      (traced-chunk F.function F.point F.locations G.locations F.saves G.saves (subst (λ n. ContentsMatch N P Q F.function F.point n F.locations G.locations F.saves G.saves) old r.newest.contents) r.older r.result_older r.callers s.blocks s.printed s.failures t.failures tr is))

  any-chunk : (s t : State) → R s t → s.ended ≡ None → Chunks s t
  any-chunk s t (inr e) runs = absurd (let h = subst (λ (o : Option End). IsSome o) runs e.final in cc)
  any-chunk s t (inl r) runs = by (st.traces r.frame.function r.frame.point) refl
    where
      by : (o : Option Trace) → st.traces r.frame.function r.frame.point ≡ o → Chunks s t
      by None e = plain-chunk s t r runs e
      by (Some tr) e = tracing-chunk s t r runs tr e

  agreeing : (s t : State) → R s t → (s.ended ≡ t.ended) × (s.printed ≡ t.printed)
  agreeing s t (inl r) = (r.ended, r.printed)
  agreeing s t (inr e) = (e.ended, e.printed)

  pub simulates : Simulation (program P limits) (program Q limits) 520 R
  simulates = record { agrees = agreeing; chunk = λ s t r runs. (any-chunk s t r runs).chunk }

  -- ---- within a run

  -- what has ended stands at no item
  still-runs : (n : ℕ) (s t : State) → R s t → (f point : ℕ) → AtTrace P Q bool st f point (after (step Q limits) n t) → s.ended ≡ None
  still-runs n s t r f point a = ⊎_elim ended (λ runs. runs) (final_or_running s.ended)
    where
      ended : IsFinal s.ended → s.ended ≡ None
      ended final =
          let end : IsFinal t.ended = subst (λ (o : Option End). IsSome o) (agreeing s t r).0 final in
          let rests : after (step Q limits) n t ≡ t = after-final (program Q limits) (program_is_system Q limits) n t end in
          absurd (running-not_final (after (step Q limits) n t).ended a.runs.ended (subst (λ (z : State). IsSome z.ended) (sym rests) end))

  -- Q is past a chunk
  past-chunk : (n : ℕ) (s t : State) (f point : ℕ) (c : Chunks s t) → suc c.chunk.moves ≤ n
      → ComesBehind P Q limits f point (after (step P limits) (suc c.chunk.early) s) (after (step Q limits) (n - suc c.chunk.moves) (after (step Q limits) (suc c.chunk.moves) t)) → ComesBehind P Q limits f point s (after (step Q limits) n t)
  past-chunk n s t f point c more h =
      let same = after-add (step P limits) (suc c.chunk.early) h.steps s in
      record {
        steps = suc c.chunk.early + h.steps;
        locations = h.locations;
        saves = h.saves;
        older = h.older;
        stands = subst (λ z. RunsIn (frame f (suc point) h.locations h.saves) h.older z) (sym same) h.stands;
        alike = subst (λ z. StatesAlike P Q z (after (step Q limits) n t)) (sym same)
            (subst (λ z. StatesAlike P Q (after (step P limits) h.steps (after (step P limits) (suc c.chunk.early) s)) z) (sym (after-sub (step Q limits) (suc c.chunk.moves) n t more)) h.alike);
      }

  -- Q goes on from related states
  pub comes-behind : (fuel n : ℕ) → n < fuel → (s t : State) → R s t → (f point : ℕ) → AtTrace P Q bool st f point (after (step Q limits) n t) → ComesBehind P Q limits f point s (after (step Q limits) n t)
  comes-behind zero n few s t r f point a = absurd (omega arith)
  comes-behind (suc fuel) n few s t r f point a =
      let c = any-chunk s t r (still-runs n s t r f point a) in
      ⊎_elim
      (λ less. c.between n (omega (arith, less)) f point a)
      (λ more. past-chunk n s t f point c more
      (comes-behind fuel (n - suc c.chunk.moves) (omega (arith, few, more)) (after (step P limits) (suc c.chunk.early) s) (after (step Q limits) (suc c.chunk.moves) t) c.chunk.again f point
      (subst (λ z. AtTrace P Q bool st f point z) (after-sub (step Q limits) (suc c.chunk.moves) n t more) a)))
      (cases_lt n (suc c.chunk.moves))

pub stitched-refines : (P Q : Prog) (bool : Ty) → IsAccepted P → Stitched P Q bool → Refines P Q 520
stitched-refines P Q bool accepted st = record {
  same_types = (preserves P Q bool accepted st).types;
  positive = omega arith;
  follows = λ limits args fit.
      Follows-from_simulation (program P limits) (program Q limits) (Met P Q bool limits accepted st) (program_is_system P limits) (program_is_system Q limits) 520 (simulates P Q bool limits accepted st)
      (first_state P limits args) (first_state Q limits args) (inl (first_states_match (M P Q bool accepted st) P Q limits accepted (preserves P Q bool accepted st) args (zip-long Suits args (types_of (slice_get P.funcs P.main)) fit)));
}
