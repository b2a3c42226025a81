-- The induction along a path: Q is in an attempted trace, and P makes the path's steps. Up to the end Q stands at no `speculate`.
use Rattle.bril_tree.proofs.Elements.{in_index}
use Rattle.pass_edit_laws.proofs.lemmas.names.Standing.{ActionAt, action_at, SameItem, same_item, first_target}
use Rattle.bril_tree.specs.declared.function_tree.Item.{Item}
use Rattle.bril_tree.specs.declared.function_tree.Item.TheVariants as item
use Rattle.bril_tree.specs.declared.operation.Op.TheVariants as op
use Rattle.std.proofs.Common.{◌≡◌, ◌⊎◌, ℕ, zero, suc, ◌+◌, ◌*◌, ◌<◌, ◌≤◌, Bool, true, false, List, [], ◌∷◌, ◌++◌, length, map, Option, Some, None, refl, sym, ap, subst, ◌∙◌, inl, inr, cond, arith}
use Rattle.std.specs.Prelude.{slice_get, slice_index, ◌==◌, is_some, not, unwrap_or, pos}
use Rattle.simulation.specs.System.{after}
use Rattle.simulation.proofs.After.{after-add}
use Rattle.bril_tree.specs.declared.function_tree.Dest.{Dest}
use Rattle.bril_tree.specs.declared.limits.Fault.{Fault}
use Rattle.bril_tree.specs.declared.limits.Limits.{Limits}
use Rattle.bril_tree.specs.declared.numbered.Instr.{Instr}
use Rattle.bril_tree.specs.declared.numbered.Instr.TheVariants.{Act}
use Rattle.bril_tree.specs.declared.operation.Op.{Op}
use Rattle.bril_tree.specs.declared.program.Prog.{Prog}
use Rattle.bril_tree.specs.declared.types.Ty.{Ty}
use Rattle.bril_tree.specs.declared.value.Value.{Value}
use Rattle.bril_tree.specs.declared.value.Value.TheVariants.{Int, Bool as Boolean}
use Rattle.bril_tree.specs.Accepted.{IsAccepted}
use Rattle.bril_tree.specs.Edge.{Branch, branches_at, branches_from, item_branches, onward, jump}
use Rattle.bril_tree.specs.FunctionForm.{listed}
use Rattle.bril_tree.specs.Numbered.{named, item_tree, names_of_functions, names_in, tree_at}
use Rattle.bril_tree.specs.Operand.{Location, Variable, Shadow}
use Rattle.bril_tree.specs.Outcome.{argument, bool_of}
use Rattle.bril_tree.specs.Shape.{shape_of}
use Rattle.bril_tree.specs.Sites.{Keeps, item_change, sites_changed, sites_of}
use Rattle.bril_tree.specs.State.{Locals, Frame, Block, State, read}
use Rattle.bril_tree.specs.Step.{code_of, item_at, point_of, assigned, faulted, item_step, guards, step}
use Rattle.bril_tree.specs.Walk.{IsWalk, end_of}
use Rattle.bril_names.specs.Range.{AreBelow, IsInRange}
use Rattle.bril_names.proofs.Naming.{one_number, AreBelow-append}
use Rattle.pass_edit_laws.specs.plan.Plan.{Plan, ValuesMatch, SavesMatch, StacksMatch, StatesMatch}
use Rattle.pass_edit_laws.specs.steps.Refinement.{EndedAlike}
use Rattle.pass_edit_laws.proofs.lemmas.steps.Steps.{frame, state, matches}
use Rattle.pass_edit_laws.proofs.lemmas.plan.Values.{assigned-other, read-agree}
use Rattle.bril_tree.proofs.HeldValues.{with_value-same}
use Rattle.pass_edit_laws.specs.names.Named.{SameLocation}
use Rattle.trace_paths.specs.Path.{Straight, Turn, Path, stopped, with_leg, Meeting, Over, To, Lays, Turns, Stops, item_met, chosen, path_by, path_from}
use Rattle.trace_laws.specs.lines.Laws.{IsQuiet}
use Rattle.trace_laws.specs.lines.Lines.{TraceNames, args_in, commit_line, end_lines, guard_line, leg_lines, not_line, speculate_line}
use Rattle.trace_laws.proofs.lemmas.lines.Quiet.{laid-quiet}
use Rattle.pass_edit_laws.specs.plan.Lines.{jmp_line, listed_item}
use Rattle.trace_laws.specs.refinement.Stitched.{Stands, StopsAt, Stitched}
use Rattle.pass_edit_laws.proofs.lemmas.steps.Attempts.{AttemptedAlike, Faults, Moves, attempted_alike}
use Rattle.trace_laws.proofs.lemmas.refinement.Straight.{lays-attempted, lays-goes, over-passed, to-jmp, IsBr, turns-br}
use Rattle.trace_laws.proofs.lemmas.refinement.Plans.{M, A, preserves}
use Rattle.bril_tree.specs.Membership.{In}
use Rattle.bril_tree.proofs.Members.{in_map, contains_in}
use Rattle.bril_tree.proofs.Shapes.{shape-parts}
use Rattle.pass_edit_laws.proofs.lemmas.steps.Shapes.{Shaped, shaped_here}
use Rattle.pass_edit_laws.proofs.lemmas.names.Items.{DestNamed, dest_named, first_named, first_same}
use Rattle.pass_edit_laws.proofs.lemmas.names.Points.{found, Differ-in}

-- the newest frame stands at an item that is no `speculate`
pub record Elsewhere (Q : Prog) (z : State) : Type 0 where
  pub frame : Frame
  pub older : List Frame
  pub frames : z.frames ≡ frame ∷ older
  pub line : Item
  pub at : tree_at Q frame.function frame.point ≡ Some line
  pub other : line ≡ speculate_line → ⊥

-- so it does for some steps
module _ (Q : Prog) (limits : Limits) where
  pub no-steps : (t : State) (n : ℕ) → n < 0 → Elsewhere Q (after (step Q limits) n t)
  no-steps t n less = absurd (omega arith)

  pub one-more : (m : ℕ) (t : State) → Elsewhere Q t → ((n : ℕ) → n < m → Elsewhere Q (after (step Q limits) n (step Q limits t))) → (n : ℕ) → n < suc m → Elsewhere Q (after (step Q limits) n t)
  one-more m t h rest zero less = h
  one-more m t h rest (suc n) less = rest n (omega arith)

  pub first-and : (m moves : ℕ) (t t' : State) → after (step Q limits) m t ≡ t' → ((n : ℕ) → n < m → Elsewhere Q (after (step Q limits) n t)) → ((n : ℕ) → n < moves → Elsewhere Q (after (step Q limits) n t')) → (n : ℕ) → n < m + moves → Elsewhere Q (after (step Q limits) n t)
  first-and zero moves t t' e front rest n less = subst (λ z. Elsewhere Q (after (step Q limits) n z)) (sym e) (rest n (omega arith))
  first-and (suc m) moves t t' e front rest zero less = front 0 (omega arith)
  first-and (suc m) moves t t' e front rest (suc n) less = first-and m moves (step Q limits t) t' e (λ i l. front (suc i) (omega arith)) rest n (omega arith)

module _ (P Q : Prog) (bool : Ty) (limits : Limits) (accepted : IsAccepted P) (st : Stitched P Q bool) where
  abbrev pub Met : State → State → Type 0
  Met s t = StatesMatch (M P Q bool accepted st) P Q s t ⊎ EndedAlike s t

  abbrev N : Plan
  N = M P Q bool accepted st

  -- an attempt of one trace, in a frame of function k over the saves qs
  module _ (k own : ℕ) (names : TraceNames) (apart : (n x : ℕ) → x < length (names_in (slice_get P.funcs k)) → named (names_in (slice_get P.funcs k)) x ≡ names.nots n → ⊥)
      (bail : ℕ) (bailed : tree_at Q k bail ≡ Some (item.Label names.bail))
      (ps qs : List Locals) (q0 : Locals) (fs gs : List Frame) (callers : StacksMatch N P Q k fs gs) (blocks : List Block) (printed : List ℕ) (x y : ℕ → ℕ → ℕ) where
    abbrev pub atP : ℕ → Locals → State
    atP i p = state (frame k i p ps ∷ fs) blocks printed None x

    abbrev pub atQ : ℕ → Locals → State
    atQ j q = state (frame k j q (q0 ∷ qs) ∷ gs) blocks printed None y

    abbrev V : List (List ℕ)
    V = names_in (slice_get P.funcs k)

    abbrev W : List (List ℕ)
    W = names_in (slice_get Q.funcs k)

    -- P came to the point
    pub record Reaches (i : ℕ) : Type 0 where
      pub walk : List Branch
      pub is : IsWalk (code_of P k) walk
      pub ends : end_of walk ≡ i
      pub saves : SavesMatch N P Q k (sites_of (code_of P k) walk) ps qs

    pub reach : (i : ℕ) (a : Instr) → item_at P k i ≡ Some a → Reaches i → (w : Branch) → w.from ≡ i → w.aborts ≡ false → In w (item_branches (code_of P k) i a) → item_change (Some a) false ≡ Keeps → Reaches w.to
    reach i a at r w from onwards among keeps =
        let code = code_of P k in
        let there : In w (branches_at code (end_of r.walk)) = subst (λ n. In w (branches_at code n)) (sym r.ends) (subst (λ o. In w (branches_from code i o)) (sym at) among) in
        let change : item_change (slice_get code w.from) w.aborts ≡ Keeps =
        ap (λ n. item_change (slice_get code n) w.aborts) from ∙ ap (λ o. item_change o w.aborts) at ∙ ap (λ b. item_change (Some a) b) onwards ∙ keeps in
        record {
          walk = w ∷ r.walk;
          is = (contains_in w (branches_at code (end_of r.walk)) there, r.is);
          ends = refl;
          saves = subst (λ c. SavesMatch N P Q k (sites_changed c w.from (sites_of code r.walk)) ps qs) (sym change) r.saves;
        }

    -- s runs, and its next step leads to s'
    pub record Before (s s' : State) : Type 0 where
      pub runs : s.ended ≡ None
      pub quiet : s.printed ≡ printed
      pub steps : step P limits s ≡ s'

    -- P makes early + 1 steps from s, and Q some from t
    pub record Later (s t : State) : Type 0 where
      pub early : ℕ
      pub moves : ℕ
      pub within : moves ≤ 2 * early + 2
      pub quiet : (after (step P limits) early s).printed ≡ printed
      pub running : (after (step P limits) early s).ended ≡ None
      pub between : (n : ℕ) → n < moves → Elsewhere Q (after (step Q limits) n t)
      pub again : Met (after (step P limits) (suc early) s) (after (step Q limits) moves t)

    -- a guard failed
    pub record Back (room : ℕ) (t : State) : Type 0 where
      pub moves : ℕ
      pub within : moves ≤ 2 * room
      pub between : (n : ℕ) → n < moves → Elsewhere Q (after (step Q limits) n t)
      pub failures : ℕ → ℕ → ℕ
      pub is : after (step Q limits) moves t ≡ state (frame k bail q0 qs ∷ gs) blocks printed None failures

    abbrev pub Outcome : ℕ → State → State → Type 0
    Outcome room s t = Later s t ⊎ Back room t

    -- ---- where Q stands

    at-line : (j : ℕ) (q : Locals) (line : Item) → tree_at Q k j ≡ Some line → (line ≡ speculate_line → ⊥) → Elsewhere Q (atQ j q)
    at-line j q line at other = record { frame = frame k j q (q0 ∷ qs); older = gs; frames = refl; line = line; at = at; other = other }

    -- ---- one step in front

    before : (i : ℕ) (p : Locals) (s' : State) → step P limits (atP i p) ≡ s' → Before (atP i p) s'
    before i p s' e = record { runs = refl; quiet = refl; steps = e }

    -- P makes a step, and Q some
    leg-later : (s : State) (i : ℕ) (p : Locals) (t t' : State) (m : ℕ) → m ≤ 2 → Before s (atP i p) → after (step Q limits) m t ≡ t' → ((n : ℕ) → n < m → Elsewhere Q (after (step Q limits) n t)) → Later (atP i p) t' → Later s t
    leg-later s i p t t' m few b e front l =
        let h = l.within in
        record {
          early = suc l.early;
          moves = m + l.moves;
          within = omega arith;
          quiet = ap (λ z. (after (step P limits) l.early z).printed) b.steps ∙ l.quiet;
          running = ap (λ z. (after (step P limits) l.early z).ended) b.steps ∙ l.running;
          between = first-and Q limits m l.moves t t' e front l.between;
          again = subst (λ z. Met (after (step P limits) (suc l.early) z) (after (step Q limits) (m + l.moves) t)) (sym b.steps)
              (subst (λ z. Met (after (step P limits) (suc l.early) (atP i p)) z) (sym (after-add (step Q limits) m l.moves t))
              (subst (λ z. Met (after (step P limits) (suc l.early) (atP i p)) (after (step Q limits) l.moves z)) (sym e) l.again));
        }

    leg-back : (room : ℕ) (t t' : State) (m : ℕ) → m ≤ 2 → after (step Q limits) m t ≡ t' → ((n : ℕ) → n < m → Elsewhere Q (after (step Q limits) n t)) → Back room t' → Back (suc room) t
    leg-back room t t' m few e front b =
        let h = b.within in
        record { moves = m + b.moves; within = omega arith; between = first-and Q limits m b.moves t t' e front b.between; failures = b.failures; is = after-add (step Q limits) m b.moves t ∙ ap (after (step Q limits) b.moves) e ∙ b.is }

    leg : (room : ℕ) (s : State) (i : ℕ) (p : Locals) (t t' : State) (m : ℕ) → m ≤ 2 → Before s (atP i p) → after (step Q limits) m t ≡ t' → ((n : ℕ) → n < m → Elsewhere Q (after (step Q limits) n t)) → Outcome room (atP i p) t' → Outcome (suc room) s t
    leg room s i p t t' m few b e front (inl l) = inl (leg-later s i p t t' m few b e front l)
    leg room s i p t t' m few b e front (inr l) = inr (leg-back room t t' m few e front l)

    -- P walks over an item
    over : (room : ℕ) (s : State) (i : ℕ) (p : Locals) (t : State) → Before s (atP i p) → Outcome room (atP i p) t → Outcome room s t
    over room s i p t b (inl l) = inl (leg-later s i p t t 0 (omega arith) b refl (no-steps Q limits t) l)
    over room s i p t b (inr l) = inr l

    -- both fault
    fault-leg : (room : ℕ) (s : State) (i j : ℕ) (p q : Locals) (kind : Fault) → Elsewhere Q (atQ j q) → Before s (atP i p) → step P limits (atP i p) ≡ faulted kind (atP i p) → step Q limits (atQ j q) ≡ faulted kind (atQ j q) → Outcome room s (atQ j q)
    fault-leg room s i j p q kind h b ep eq = inl (record {
      early = 1;
      moves = 1;
      within = omega arith;
      quiet = ap (λ (z : State). z.printed) b.steps;
      running = ap (λ (z : State). z.ended) b.steps;
      between = one-more Q limits 0 (atQ j q) h (no-steps Q limits (step Q limits (atQ j q)));
      again = subst (λ z. Met (step P limits z) (step Q limits (atQ j q))) (sym b.steps)
          (subst (λ z. Met z (step Q limits (atQ j q))) (sym ep)
          (subst (λ z. Met (faulted kind (atP i p)) z) (sym eq) (inr (record { final = refl; ended = refl; printed = refl }))));
    })

    -- ---- the end of the path

    stepQ : (j : ℕ) (q : Locals) (b : Instr) → item_at Q k j ≡ Some b → step Q limits (atQ j q) ≡ item_step Q limits (Some b) (frame k j q (q0 ∷ qs)) gs (atQ j q)
    stepQ j q b at = ap (λ o. item_step Q limits o (frame k j q (q0 ∷ qs)) gs (atQ j q)) at

    stepP : (i : ℕ) (p : Locals) (a : Instr) → item_at P k i ≡ Some a → step P limits (atP i p) ≡ item_step P limits (Some a) (frame k i p ps) fs (atP i p)
    stepP i p a at = ap (λ o. item_step P limits o (frame k i p ps) fs (atP i p)) at

    finish : (room : ℕ) (s : State) (i j : ℕ) (p q : Locals) → Before s (atP i p) → Reaches i → ValuesMatch (A P Q bool accepted st k) p q → Stands P Q bool k j (end_lines bool (tree_at P k) names) → StopsAt P Q bool st.old st.stops k i names.stop → Outcome room s (atQ j q)
    finish room s i j p q b r agree stands stop =
        let c = action_at Q k j None op.Commit [] [] [] stands.0 in
        let g = action_at Q k (suc j) None op.Jmp [] [] (names.stop ∷ []) stands.1.0 in
        let committed : State = state (frame k (suc j) q qs ∷ gs) blocks printed None y in
        let ended : State = state (frame k stop.point q qs ∷ gs) blocks printed None y in
        let to = first_target Q k (suc j) None op.Jmp [] [] names.stop g stop.point stop.at in
        let first : step Q limits (atQ j q) ≡ committed = stepQ j q _ c.at in
        let second : step Q limits committed ≡ ended = ap (λ o. item_step Q limits o (frame k (suc j) q qs) gs committed) g.at ∙ ap (λ n. state (frame k n q qs ∷ gs) blocks printed None y) to in
        let jumps : Elsewhere Q committed = record { frame = frame k (suc j) q qs; older = gs; frames = refl; line = jmp_line names.stop; at = stands.1.0; other = λ n. cc } in
        let there : StatesMatch N P Q (atP i p) ended =
        matches N P Q limits accepted (preserves P Q bool accepted st) (frame k i p ps) (frame k stop.point q qs) fs gs blocks printed None x y
        (record { function = refl; contents = record { walk = r.walk; is = r.is; ends = r.ends; points = stop.near; locations = agree; known = λ a v h. absurd h; saves = r.saves } }) callers in
        inl (record {
          early = 0;
          moves = 2;
          within = omega arith;
          quiet = b.quiet;
          running = b.runs;
          between = one-more Q limits 1 (atQ j q) (at-line j q commit_line stands.0 (λ n. cc)) (subst (λ z. (n : ℕ) → n < 1 → Elsewhere Q (after (step Q limits) n z)) (sym first) (one-more Q limits 0 committed jumps (no-steps Q limits (step Q limits committed))));
          again = subst (λ z. Met z (step Q limits (step Q limits (atQ j q)))) (sym b.steps) (inl (subst (λ z. StatesMatch N P Q (atP i p) z) (sym (ap (step Q limits) first ∙ second)) there));
        })

    -- ---- a br

    -- what is known of a br on the path
    record Turning (i : ℕ) (a : Instr) (on off : ℕ) : Type 0 where
      br : IsBr a on off
      one : length br.args ≡ 1
      two : length br.ls ≡ 2
      tree : args_in (tree_at P k i) ≡ map (named V) br.args
      below : AreBelow (length V) br.args

    branch : (i : ℕ) (a : Instr) (on off : ℕ) → item_at P k i ≡ Some a → item_met (Some a) ≡ Turns on off → Turning i a on off
    branch i a on off at met =
        let b = turns-br a on off met in
        let h = found P k i a at in
        let shaped = shaped_here P accepted k i a at in
        let fits = subst (λ z. Shaped P k z) b.is shaped in
        let parts = shape-parts (shape_of fits.ret op.Br) (is_some b.d) (length b.args) (length b.fns) (length b.ls) fits.shaped in
        record {
          br = b;
          one = parts.args_are;
          two = parts.labels_are;
          tree = ap args_in (h.tree ∙ ap (λ z. Some (item_tree (names_of_functions P.funcs) V h.function.labels z)) b.is);
          below = (AreBelow-append (length V) (listed b.d) b.args (subst (λ z. IsInRange (length (names_of_functions P.funcs)) (length V) (length h.function.labels) z) b.is h.range).variables).1;
        }

    taken : Bool → ℕ → ℕ → ℕ
    taken c on off = point_of (chosen c on off) (code_of P k)

    -- P takes the branch of its condition
    turned : (i : ℕ) (p : Locals) (a : Instr) (on off : ℕ) (at : item_at P k i ≡ Some a) (h : Turning i a on off) (c : Bool) → bool_of (argument p h.br.args 0) ≡ c → step P limits (atP i p) ≡ atP (point_of (chosen c on off) (code_of P k)) p
    turned i p a on off at h true e =
        stepP i p a at ∙ ap (λ z. item_step P limits (Some z) (frame k i p ps) fs (atP i p)) h.br.is
        ∙ ap (λ b. atP (point_of (slice_index h.br.ls (cond b 0 1)) (code_of P k)) p) e ∙ ap (λ l. atP (point_of l (code_of P k)) p) h.br.first
    turned i p a on off at h false e =
        stepP i p a at ∙ ap (λ z. item_step P limits (Some z) (frame k i p ps) fs (atP i p)) h.br.is
        ∙ ap (λ b. atP (point_of (slice_index h.br.ls (cond b 0 1)) (code_of P k)) p) e ∙ ap (λ l. atP (point_of l (code_of P k)) p) h.br.second

    reach-turned : (i : ℕ) (a : Instr) (on off : ℕ) (at : item_at P k i ≡ Some a) (h : Turning i a on off) (c : Bool) → Reaches i → Reaches (point_of (chosen c on off) (code_of P k))
    reach-turned i a on off at h c r =
        let at' : item_at P k i ≡ Some (Act h.br.d h.br.s op.Br h.br.args h.br.fns h.br.ls) = at ∙ ap Some h.br.is in
        by c at'
      where
        by : (c : Bool) → item_at P k i ≡ Some (Act h.br.d h.br.s op.Br h.br.args h.br.fns h.br.ls) → Reaches (point_of (chosen c on off) (code_of P k))
        by true at' =
            subst (λ l. Reaches (point_of l (code_of P k))) h.br.first
            (reach i (Act h.br.d h.br.s op.Br h.br.args h.br.fns h.br.ls) at' r (jump (code_of P k) i (slice_index h.br.ls 0)) refl refl (in_map (jump (code_of P k) i) (slice_index h.br.ls 0) h.br.ls (in_index h.br.ls 0 (let t = h.two in omega arith))) refl)
        by false at' =
            subst (λ l. Reaches (point_of l (code_of P k))) h.br.second
            (reach i (Act h.br.d h.br.s op.Br h.br.args h.br.fns h.br.ls) at' r (jump (code_of P k) i (slice_index h.br.ls 1)) refl refl (in_map (jump (code_of P k) i) (slice_index h.br.ls 1) h.br.ls (in_index h.br.ls 1 (let t = h.two in omega arith))) refl)

    -- Q's guard
    guard_label : (j : ℕ) (args : List (List ℕ)) (g : ActionAt Q k j None op.Guard args [] (names.bail ∷ [])) → point_of (slice_index g.targets 0) (code_of Q k) ≡ bail
    guard_label j args g = first_target Q k j None op.Guard args [] names.bail g bail bailed

    guard-holds : (j : ℕ) (q : Locals) (args : List (List ℕ)) (g : ActionAt Q k j None op.Guard args [] (names.bail ∷ [])) → bool_of (argument q g.arguments 0) ≡ true → step Q limits (atQ j q) ≡ atQ (suc j) q
    guard-holds j q args g e = stepQ j q _ g.at ∙ ap (λ b. guards Q limits b (slice_index g.targets 0) (frame k j q (q0 ∷ qs)) gs (atQ j q)) e

    record Failed (t' : State) : Type 0 where
      failures : ℕ → ℕ → ℕ
      is : t' ≡ state (frame k bail q0 qs ∷ gs) blocks printed None failures

    guard-fails : (j : ℕ) (q : Locals) (args : List (List ℕ)) (g : ActionAt Q k j None op.Guard args [] (names.bail ∷ [])) → bool_of (argument q g.arguments 0) ≡ false → Failed (step Q limits (atQ j q))
    guard-fails j q args g e = record {
      failures = (guards Q limits false (slice_index g.targets 0) (frame k j q (q0 ∷ qs)) gs (atQ j q)).failures;
      is = stepQ j q _ g.at ∙ ap (λ b. guards Q limits b (slice_index g.targets 0) (frame k j q (q0 ∷ qs)) gs (atQ j q)) e
          ∙ ap (λ n. state (frame k n q0 qs ∷ gs) blocks printed None (guards Q limits false (slice_index g.targets 0) (frame k j q (q0 ∷ qs)) gs (atQ j q)).failures) (guard_label j args g);
    }

    -- the condition is the same on both sides
    condition : (i j : ℕ) (p q : Locals) (a : Instr) (on off : ℕ) (h : Turning i a on off) → ValuesMatch (A P Q bool accepted st k) p q → (xs : List ℕ) → map (named W) xs ≡ args_in (tree_at P k i) → AreBelow (length W) xs → argument p h.br.args 0 ≡ argument q xs 0
    condition i j p q a on off h agree xs e below =
        read-agree (A P Q bool accepted st k) (A P Q bool accepted st k) p q agree (slice_index h.br.args 0) (slice_index xs 0)
        (first_same V W h.br.args xs (sym (e ∙ h.tree)) h.below below (let o = h.one in omega arith), tt)

    below_args : (j : ℕ) (dest : Option Dest) (o : Op) (args funcs labels : List (List ℕ)) (n : ActionAt Q k j dest o args funcs labels) → AreBelow (length W) n.arguments
    below_args j dest o args funcs labels n = (AreBelow-append (length W) (listed n.assigned) n.arguments n.range.variables).1

    -- ---- a not and its guard

    abbrev negation : Value → Value
    negation v = Boolean (not (bool_of v))

    -- the fresh variable holds the negation, and no place of P has its name
    record NotMade (n : ℕ) (p q : Locals) (v : Value) (d : Option ℕ) : Type 0 where
      agree : ValuesMatch (A P Q bool accepted st k) p (assigned d (negation v) q)
      holds : (xs : List ℕ) → map (named W) xs ≡ names.nots n ∷ [] → AreBelow (length W) xs → argument (assigned d (negation v) q) xs 0 ≡ negation v

    not-made : (n : ℕ) (p q : Locals) (v : Value) (d : Option ℕ) → ValuesMatch (A P Q bool accepted st k) p q → DestNamed W d (names.nots n) → NotMade n p q v d
    not-made n p q v d agree h =
        subst (λ e. NotMade n p q v e) (sym h.is) (record {
          agree = λ a b same. agree a b same ∙ sym (assigned-other h.x (negation v) q b (λ e. other a b same.0 e));
          holds = λ xs e below.
              let f = first_named W xs (names.nots n) e below in
              let one : slice_index xs 0 ≡ h.x = one_number W (Differ-in (slice_get Q.funcs k)) (slice_index xs 0) h.x f.0 h.within (f.1 ∙ sym h.named_so) in
              ap (λ z. read (assigned (Some h.x) (negation v) q).vars z) one ∙ ap (λ (o : Option Value). unwrap_or o (Int (pos 0))) (with_value-same q.vars h.x h.x (negation v) refl);
        })
      where
        other : (a b : Location) → SameLocation V W a b → b ≡ Variable h.x → ⊥
        other (Variable z) (Variable w) same e = let s : w ≡ h.x = cc in apart n z same.0 (same.2 ∙ ap (named W) s ∙ h.named_so)
        other (Variable z) (Shadow w) same e = absurd same
        other (Shadow z) (Variable w) same e = absurd same
        other (Shadow z) (Shadow w) same e = absurd (cc)

    -- ---- the induction

    pub record Facts (path : Path) (j n : ℕ) : Type 0 where
      pub stands : Stands P Q bool k j (leg_lines bool (tree_at P k) names n path.legs ++ end_lines bool (tree_at P k) names)
      pub stop : StopsAt P Q bool st.old st.stops k path.stop names.stop

    abbrev Along : (fuel : ℕ) → Type 0
    Along fuel = (room : ℕ) (choices : List Bool) (i j n : ℕ) (p q : Locals) (s : State) → Before s (atP i p) → Reaches i → ValuesMatch (A P Q bool accepted st k) p q → Facts (path_from (code_of P k) own fuel room choices i) j n → Outcome room s (atQ j q)

    -- by what the path does at an item
    module _ (fuel : ℕ) (rest : Along fuel) (i j n : ℕ) (p q : Locals) (s : State) (b : Before s (atP i p)) (r : Reaches i) (agree : ValuesMatch (A P Q bool accepted st k) p q) where
      abbrev next : ℕ → List Bool → ℕ → Path
      next = path_from (code_of P k) own fuel

      stops-here : (room : ℕ) → Facts (stopped i) j n → Outcome room s (atQ j q)
      stops-here room facts = finish room s i j p q b r agree facts.stands facts.stop

      straight : (room : ℕ) (choices : List Bool) (a : Instr) → item_at P k i ≡ Some a → item_met (Some a) ≡ Lays → Facts (with_leg (Straight i) (next room choices (suc i))) j n → Outcome (suc room) s (atQ j q)
      straight room choices a at met facts =
          let h = found P k i a at in
          let stands : Stands P Q bool k j (listed_item (Some (item_tree (names_of_functions P.funcs) V h.function.labels a)) ++ leg_lines bool (tree_at P k) names n (next room choices (suc i)).legs ++ end_lines bool (tree_at P k) names) =
          subst (λ o. Stands P Q bool k j ((listed_item o ++ leg_lines bool (tree_at P k) names n (next room choices (suc i)).legs) ++ end_lines bool (tree_at P k) names)) h.tree facts.stands in
          let both = same_item P Q accepted st.heads.names k i j a at (h.tree ∙ sym stands.0) in
          let goes = lays-goes a met in
          by both (at-line j q (item_tree (names_of_functions P.funcs) V h.function.labels a) stands.0 (λ e. subst (IsQuiet names.bail) e (laid-quiet names.bail (names_of_functions P.funcs) V h.function.labels a met))) stands.1 (subst (λ z. AttemptedAlike (A P Q bool accepted st k) P Q limits (atP i p) (atQ j q) (λ p'. atP (suc i) p') (λ q'. atQ (suc j) q') (step P limits (atP i p)) z) (sym (stepQ j q both.item both.at))
          (subst (λ z. AttemptedAlike (A P Q bool accepted st k) P Q limits (atP i p) (atQ j q) (λ p'. atP (suc i) p') (λ q'. atQ (suc j) q') z (item_step Q limits (Some both.item) (frame k j q (q0 ∷ qs)) gs (atQ j q))) (sym (stepP i p a at))
          (attempted_alike (A P Q bool accepted st k) P Q limits k i j p q agree ps (q0 ∷ qs) fs gs blocks printed x y a both.item both.same (shaped_here P accepted k i a at) both.kept (lays-attempted a met))))
        where
          by : SameItem P Q k j a → Elsewhere Q (atQ j q) → Stands P Q bool k (suc j) (leg_lines bool (tree_at P k) names n (next room choices (suc i)).legs ++ end_lines bool (tree_at P k) names)
              → AttemptedAlike (A P Q bool accepted st k) P Q limits (atP i p) (atQ j q) (λ p'. atP (suc i) p') (λ q'. atQ (suc j) q') (step P limits (atP i p)) (step Q limits (atQ j q)) → Outcome (suc room) s (atQ j q)
          by both here stands (Faults kind ep eq) = fault-leg (suc room) s i j p q kind here b ep eq
          by both here stands (Moves p' q' ep eq agree') =
              let goes = lays-goes a met in
              leg room s i p (atQ j q) (atQ (suc j) q') 1 (omega arith) b eq (one-more Q limits 0 (atQ j q) here (no-steps Q limits (step Q limits (atQ j q))))
              (rest room choices (suc i) (suc j) n p' q' (atP i p) (before i p (atP (suc i) p') ep)
              (reach i a at r (onward i) refl refl (subst (λ l. In (onward i) l) (sym (goes.branches (code_of P k) i)) (inl refl)) goes.keeps) agree' (record { stands = stands; stop = facts.stop }))

      turn-true : (room : ℕ) (choices : List Bool) (a : Instr) (on off : ℕ) → item_at P k i ≡ Some a → Turning i a on off → Facts (with_leg (Turn i true) (next room choices (point_of (chosen true on off) (code_of P k)))) j n → Outcome (suc room) s (atQ j q)
      turn-true room choices a on off at h facts = by (bool_of (argument p h.br.args 0)) refl
        where
          g : ActionAt Q k j None op.Guard (args_in (tree_at P k i)) [] (names.bail ∷ [])
          g = action_at Q k j None op.Guard (args_in (tree_at P k i)) [] (names.bail ∷ []) facts.stands.0

          same : bool_of (argument p h.br.args 0) ≡ bool_of (argument q g.arguments 0)
          same = ap bool_of (condition i j p q a on off h agree g.arguments g.has_args (below_args j None op.Guard (args_in (tree_at P k i)) [] (names.bail ∷ []) g))

          front : (n : ℕ) → n < 1 → Elsewhere Q (after (step Q limits) n (atQ j q))
          front = one-more Q limits 0 (atQ j q) (at-line j q (guard_line (args_in (tree_at P k i)) names.bail) facts.stands.0 (λ n. cc)) (no-steps Q limits (step Q limits (atQ j q)))

          by : (c : Bool) → bool_of (argument p h.br.args 0) ≡ c → Outcome (suc room) s (atQ j q)
          by true e =
              leg room s i p (atQ j q) (atQ (suc j) q) 1 (omega arith) b (guard-holds j q (args_in (tree_at P k i)) g (sym same ∙ e)) front
              (rest room choices (point_of (chosen true on off) (code_of P k)) (suc j) n p q (atP i p) (before i p (atP (point_of (chosen true on off) (code_of P k)) p) (turned i p a on off at h true e))
              (reach-turned i a on off at h true r) agree (record { stands = facts.stands.1; stop = facts.stop }))
          by false e =
              let f = guard-fails j q (args_in (tree_at P k i)) g (sym same ∙ e) in
              inr (record { moves = 1; within = omega arith; between = front; failures = f.failures; is = f.is })

      turn-false : (room : ℕ) (choices : List Bool) (a : Instr) (on off : ℕ) → item_at P k i ≡ Some a → Turning i a on off → Facts (with_leg (Turn i false) (next room choices (point_of (chosen false on off) (code_of P k)))) j n → Outcome (suc room) s (atQ j q)
      turn-false room choices a on off at h facts = by (bool_of (argument p h.br.args 0)) refl
        where
          m : ActionAt Q k j (Some (record { name = names.nots n; ty = bool })) op.Not (args_in (tree_at P k i)) [] []
          m = action_at Q k j (Some (record { name = names.nots n; ty = bool })) op.Not (args_in (tree_at P k i)) [] [] facts.stands.0

          g : ActionAt Q k (suc j) None op.Guard (names.nots n ∷ []) [] (names.bail ∷ [])
          g = action_at Q k (suc j) None op.Guard (names.nots n ∷ []) [] (names.bail ∷ []) facts.stands.1.0

          v : Value
          v = argument q m.arguments 0

          made : NotMade n p q (argument q m.arguments 0) m.assigned
          made = not-made n p q (argument q m.arguments 0) m.assigned agree (dest_named W m.assigned m.ty (names.nots n) bool m.has_dest (AreBelow-append (length W) (listed m.assigned) m.arguments m.range.variables).0)

          negated : step Q limits (atQ j q) ≡ atQ (suc j) (assigned m.assigned (negation (argument q m.arguments 0)) q)
          negated = stepQ j q _ m.at

          same : bool_of (argument p h.br.args 0) ≡ bool_of (argument q m.arguments 0)
          same = ap bool_of (condition i j p q a on off h agree m.arguments m.has_args (below_args j (Some (record { name = names.nots n; ty = bool })) op.Not (args_in (tree_at P k i)) [] [] m))

          read_back : bool_of (argument (assigned m.assigned (negation (argument q m.arguments 0)) q) g.arguments 0) ≡ not (bool_of (argument p h.br.args 0))
          read_back = ap bool_of (made.holds g.arguments g.has_args (below_args (suc j) None op.Guard (names.nots n ∷ []) [] (names.bail ∷ []) g)) ∙ ap not (sym same)

          front : (n : ℕ) → n < 2 → Elsewhere Q (after (step Q limits) n (atQ j q))
          front =
              let q' = assigned m.assigned (negation (argument q m.arguments 0)) q in
              one-more Q limits 1 (atQ j q) (at-line j q (not_line bool (names.nots n) (args_in (tree_at P k i))) facts.stands.0 (λ n. cc))
              (subst (λ z. (n : ℕ) → n < 1 → Elsewhere Q (after (step Q limits) n z)) (sym negated)
              (one-more Q limits 0 (atQ (suc j) q') (at-line (suc j) q' (guard_line (names.nots n ∷ []) names.bail) facts.stands.1.0 (λ n. cc)) (no-steps Q limits (step Q limits (atQ (suc j) q')))))

          by : (c : Bool) → bool_of (argument p h.br.args 0) ≡ c → Outcome (suc room) s (atQ j q)
          by false e =
              let q' = assigned m.assigned (negation (argument q m.arguments 0)) q in
              leg room s i p (atQ j q) (atQ (suc (suc j)) q') 2 (omega arith) b
              (ap (step Q limits) negated ∙ guard-holds (suc j) q' (names.nots n ∷ []) g (read_back ∙ ap not e)) front
              (rest room choices (point_of (chosen false on off) (code_of P k)) (suc (suc j)) (suc n) p q' (atP i p) (before i p (atP (point_of (chosen false on off) (code_of P k)) p) (turned i p a on off at h false e))
              (reach-turned i a on off at h false r) made.agree (record { stands = facts.stands.1.1; stop = facts.stop }))
          by true e =
              let q' = assigned m.assigned (negation (argument q m.arguments 0)) q in
              let f = guard-fails (suc j) q' (names.nots n ∷ []) g (read_back ∙ ap not e) in
              inr (record { moves = 2; within = omega arith; between = front; failures = f.failures; is = ap (step Q limits) negated ∙ f.is })

      by_meeting : (room : ℕ) (choices : List Bool) (a : Instr) → item_at P k i ≡ Some a → (met : Meeting) → item_met (Some a) ≡ met → Facts (path_by (code_of P k) next met room choices i) j n → Outcome room s (atQ j q)
      by_meeting room choices a at Over met facts =
          let h = over-passed P limits a met in
          over room s i p (atQ j q) b
          (rest room choices (suc i) j n p q (atP i p) (before i p (atP (suc i) p) (stepP i p a at ∙ h.steps (frame k i p ps) fs (atP i p)))
          (reach i a at r (onward i) refl refl (subst (λ l. In (onward i) l) (sym (h.goes.branches (code_of P k) i)) (inl refl)) h.goes.keeps) agree facts)
      by_meeting room choices a at (To l) met facts =
          let h = to-jmp a l met in
          let code = code_of P k in
          let at' : item_at P k i ≡ Some (Act h.d h.s op.Jmp h.args h.fns h.ls) = at ∙ ap Some h.is in
          let shaped = shaped_here P accepted k i (Act h.d h.s op.Jmp h.args h.fns h.ls) at' in
          let one = (shape-parts (shape_of shaped.ret op.Jmp) (is_some h.d) (length h.args) (length h.fns) (length h.ls) shaped.shaped).labels_are in
          over room s i p (atQ j q) b
          (rest room choices (point_of l code) j n p q (atP i p) (before i p (atP (point_of l code) p) (stepP i p _ at' ∙ ap (λ z. atP (point_of z code) p) h.label))
          (subst (λ z. Reaches (point_of z code)) h.label
          (reach i (Act h.d h.s op.Jmp h.args h.fns h.ls) at' r (jump code i (slice_index h.ls 0)) refl refl (in_map (jump code i) (slice_index h.ls 0) h.ls (in_index h.ls 0 (omega arith))) refl)) agree facts)
      by_meeting zero choices a at Lays met facts = stops-here zero facts
      by_meeting (suc room) choices a at Lays met facts = straight room choices a at met facts
      by_meeting zero choices a at (Turns on off) met facts = stops-here zero facts
      by_meeting (suc room) [] a at (Turns on off) met facts = stops-here (suc room) facts
      by_meeting (suc room) (true ∷ choices) a at (Turns on off) met facts = turn-true room choices a on off at (branch i a on off at met) facts
      by_meeting (suc room) (false ∷ choices) a at (Turns on off) met facts = turn-false room choices a on off at (branch i a on off at met) facts
      by_meeting room choices a at Stops met facts = stops-here room facts

      by_item : (room : ℕ) (choices : List Bool) (o : Option Instr) → item_at P k i ≡ o → Facts (path_by (code_of P k) next (item_met o) room choices i) j n → Outcome room s (atQ j q)
      by_item room choices None at facts = stops-here room facts
      by_item room choices (Some a) at facts = by_meeting room choices a at (item_met (Some a)) refl facts

      by_own : (room : ℕ) (choices : List Bool) (own? : Bool) → Facts (cond own? (stopped i) (path_by (code_of P k) next (item_met (slice_get (code_of P k) i)) room choices i)) j n → Outcome room s (atQ j q)
      by_own room choices true facts = stops-here room facts
      by_own room choices false facts = by_item room choices (slice_get (code_of P k) i) refl facts

    pub along : (fuel : ℕ) → Along fuel
    along zero room choices i j n p q s b r agree facts = finish room s i j p q b r agree facts.stands facts.stop
    along (suc fuel) room choices i j n p q s b r agree facts = by_own fuel (along fuel) i j n p q s b r agree room choices (i == own) facts
