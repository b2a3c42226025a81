-- What an attempt of a quiet trace does to the state.
use Rattle.bril_tree.specs.declared.function_tree.Item.TheVariants as item
use Rattle.bril_tree.specs.declared.operation.Op.TheVariants as op
use Rattle.std.proofs.Common.{◌≡◌, ◌⊎◌, ℕ, zero, suc, ◌+◌, ◌<◌, ◌≤◌, Bool, true, false, List, [], ◌∷◌, map, Option, Some, None, refl, sym, ap, subst, ◌∙◌, inl, inr, arith}
use Rattle.std.specs.Prelude.{slice_get, slice_index}
use Rattle.std.specs.List.{AllZip}
use Rattle.std.proofs.lemmas.Bool.{true≢false}
use Rattle.std.proofs.lemmas.Option.{slice_get_within}
use Rattle.simulation.specs.System.{after}
use Rattle.bril_tree.specs.declared.limits.Fault.{Fault}
use Rattle.bril_tree.specs.declared.limits.Fault.TheVariants as fault
use Rattle.bril_tree.specs.declared.limits.Limits.{Limits}
use Rattle.bril_tree.specs.declared.numbered.Instr.{Instr}
use Rattle.bril_tree.specs.declared.numbered.Instr.TheVariants.{Label, Const, Act}
use Rattle.bril_tree.specs.declared.operation.Op.{Op}
use Rattle.bril_tree.specs.declared.program.Prog.{Prog}
use Rattle.bril_tree.specs.declared.types.Ty.{Ty}
use Rattle.bril_tree.specs.declared.value.Value.{Value}
use Rattle.bril_tree.specs.Memory.{cell_at, held}
use Rattle.bril_tree.specs.Numbered.{item_tree, named, names_in, names_of_functions, tree_at}
use Rattle.bril_tree.specs.Outcome.{Outcome, Yields, FaultsWith, HasEffect, action_outcome, argument, bool_of}
use Rattle.bril_tree.specs.State.{Frame, Locals, State}
use Rattle.bril_tree.specs.Step.{acts, assigned, by_outcome, code_of, dropped, faulted, frames_step, guards, item_at, item_step, loads, loads_held, point_of, running_step, saved, shadowed, step}
use Rattle.bril_tree.specs.Value.{literal_value}
use Rattle.bril_tree.proofs.Elements.{get_inside}
use Rattle.pass_edit_laws.proofs.lemmas.names.Points.{Found, found}
use Rattle.pass_edit_laws.proofs.lemmas.names.Standing.{action_at, first_target}
use Rattle.trace_laws.specs.lines.Laws.{IsQuiet}
use Rattle.trace_laws.specs.lines.Traced.{Trace}
use Rattle.trace_laws.specs.refinement.Attempts.{FailsGuard, FramesAlike, IsAttempt, IsBack, IsFailing, IsFaulted, IsInside, RunsIn, SameEffects}
use Rattle.trace_laws.specs.refinement.Laws.{HasQuietTrace, TracesGiveBack}

-- ---- one item

-- the labels that an item names
abbrev targets_in : Instr → List ℕ
targets_in (Label l) = []
targets_in (Const d ty v) = []
targets_in (Act d ty o args fns ls) = ls

-- a quiet item changes locations alone, or faults, or is a guard that fails
data Quietly (bail : ℕ) (a : Instr) (frame : Frame) (older : List Frame) (s s' : State) : Type 0 where
  Moves : (now : Locals) → (IsFailing (Some a) frame.locations → ⊥) → s' ≡ record s { frames = record frame { point = suc frame.point; locations = now } ∷ older } → Quietly bail a frame older s s'
  Faults : (kind : Fault) → (IsFailing (Some a) frame.locations → ⊥) → s' ≡ faulted kind s → Quietly bail a frame older s s'
  Fails : (failures : ℕ → ℕ → ℕ) → s' ≡ record s { frames = record frame { point = bail; locations = saved frame.saves frame.locations; saves = dropped frame.saves } ∷ older; failures = failures } → Quietly bail a frame older s s'

module _ (Q : Prog) (limits : Limits) (bail : ℕ) (frame : Frame) (older : List Frame) (s : State) where
  abbrev Does : Instr → State → Type 0
  Does a s' = Quietly bail a frame older s s'

  module _ (d : Option ℕ) (ty : Option Ty) (args fns ls : List ℕ) where
    abbrev act : Op → Instr
    act o = Act d ty o args fns ls

    loaded : (v : Option Value) → Does (act op.Load) (loads_held Q limits v d frame older s)
    loaded None = Faults fault.Uninit (λ h. h) refl
    loaded (Some v) = Moves (assigned d v frame.locations) (λ h. h) refl

    loading : (n : Option ℕ) (pointer : Value) → Does (act op.Load) (loads Q limits n pointer d frame older s)
    loading None pointer = Faults fault.Access (λ h. h) refl
    loading (Some n) pointer = loaded (held s.blocks pointer n)

    guarding : (holds : Bool) → bool_of (argument frame.locations args 0) ≡ holds → point_of (slice_index ls 0) (code_of Q frame.function) ≡ bail → Does (act op.Guard) (guards Q limits holds (slice_index ls 0) frame older s)
    guarding true e at = Moves frame.locations (λ h. true≢false (sym e ∙ h)) refl
    guarding false e at =
        Fails (guards Q limits false (slice_index ls 0) frame older s).failures
        (ap (λ n. record s { frames = record frame { point = n; locations = saved frame.saves frame.locations; saves = dropped frame.saves } ∷ older; failures = (guards Q limits false (slice_index ls 0) frame older s).failures }) at)

    -- what computes fails no guard
    computes : (o : Op) → (action_outcome o d ty args frame.locations ≡ HasEffect → ⊥) → IsFailing (Some (act o)) frame.locations → ⊥
    computes op.Guard other h = other refl
    computes _ other h = h

    module _ (name : List ℕ) (fs vs labels : List (List ℕ)) (lands : map (named labels) ls ≡ name ∷ [] → point_of (slice_index ls 0) (code_of Q frame.function) ≡ bail) where
      acting : (o : Op) → IsQuiet name (item_tree fs vs labels (act o)) → Does (act o) (acts Q limits o d args fns ls frame older s)
      acting op.Load quiet = loading (cell_at s.blocks (argument frame.locations args 0)) (argument frame.locations args 0)
      acting op.Set quiet = Moves (shadowed (slice_index args 0) (argument frame.locations args 1) frame.locations) (λ h. h) refl
      acting op.Guard quiet = guarding (bool_of (argument frame.locations args 0)) refl (lands quiet)
      acting op.Print quiet = absurd quiet
      acting op.Store quiet = absurd quiet
      acting op.Alloc quiet = absurd quiet
      acting op.Free quiet = absurd quiet
      acting op.Call quiet = absurd quiet
      acting op.Ret quiet = absurd quiet
      acting op.Speculate quiet = absurd quiet
      acting op.Commit quiet = absurd quiet
      acting op.Jmp quiet = absurd quiet
      acting op.Br quiet = absurd quiet
      acting _ quiet = Moves frame.locations (λ h. h) refl

      by-outcome : (o : Op) (w : Outcome) → action_outcome o d ty args frame.locations ≡ w → IsQuiet name (item_tree fs vs labels (act o)) → Does (act o) (by_outcome Q limits w (act o) frame older s)
      by-outcome o (Yields v) e quiet = Moves (assigned d v frame.locations) (computes o (λ g. let n : Yields v ≡ HasEffect = sym e ∙ g in cc)) refl
      by-outcome o (FaultsWith kind) e quiet = Faults kind (computes o (λ g. let n : FaultsWith kind ≡ HasEffect = sym e ∙ g in cc)) refl
      by-outcome o HasEffect e quiet = acting o quiet

  quiet-item : (name : List ℕ) (fs vs labels : List (List ℕ)) (a : Instr) → (map (named labels) (targets_in a) ≡ name ∷ [] → point_of (slice_index (targets_in a) 0) (code_of Q frame.function) ≡ bail)
      → IsQuiet name (item_tree fs vs labels a) → Does a (item_step Q limits (Some a) frame older s)
  quiet-item name fs vs labels (Label l) lands quiet = absurd quiet
  quiet-item name fs vs labels (Const d ty v) lands quiet = Moves (assigned (Some d) (literal_value v) frame.locations) (λ h. h) refl
  quiet-item name fs vs labels (Act d ty o args fns ls) lands quiet = by-outcome d ty args fns ls name fs vs labels lands o (action_outcome o d ty args frame.locations) refl quiet

-- where an item names one label alone, its first target stands where that label does
lands-at : (Q : Prog) (f i : ℕ) (a : Instr) (h : Found Q f i a) → item_at Q f i ≡ Some a → (name : List ℕ) (bail : ℕ) → tree_at Q f bail ≡ Some (item.Label name) → map (named h.function.labels) (targets_in a) ≡ name ∷ [] → point_of (slice_index (targets_in a) 0) (code_of Q f) ≡ bail
lands-at Q f i (Label l) h at name bail is e = absurd (cc)
lands-at Q f i (Const d ty v) h at name bail is e = absurd (cc)
lands-at Q f i (Act d ty o args fns ls) h at name bail is e = first_target Q f i _ o _ _ name (record { assigned = d; ty = ty; arguments = args; callees = fns; targets = ls; at = at; function = h.function; there = h.there; range = h.range; has_dest = refl; has_args = refl; has_funcs = refl; has_labels = e }) bail is

-- ---- one attempt

-- what is told of frames by the names in them doesn't look at the newest one's point
at-any_point : (P Q : Prog) (f i j : ℕ) (q : Locals) (saves : List Locals) (older given : List Frame) → AllZip (FramesAlike P Q) given (record { function = f; point = i; locations = q; saves = saves } ∷ older) → AllZip (FramesAlike P Q) given (record { function = f; point = j; locations = q; saves = saves } ∷ older)
at-any_point P Q f i j q saves older [] h = h
at-any_point P Q f i j q saves older (g ∷ given) h = (record { function = h.0.function; locations = h.0.locations; saves = h.0.saves }, h.1)

module _ (P Q : Prog) (f point : ℕ) (t : Trace) (place : HasQuietTrace P Q f point t) (limits : Limits) (u : State) (locations : Locals) (saves : List Locals) (older : List Frame)
    (runs : RunsIn (record { function = f; point = suc place.label; locations = locations; saves = saves }) older u) where
  abbrev opens : ℕ
  opens = suc place.label

  abbrev bail : ℕ
  bail = suc opens + place.size + 2

  abbrev Inside : ℕ → State → Type 0
  Inside = IsInside P Q limits f opens place.size u locations saves older

  abbrev Back : State → Type 0
  Back = IsBack P Q limits f opens place.size u locations saves older

  abbrev Faulty : State → Type 0
  Faulty = IsFaulted P Q limits f opens place.size u locations saves older

  abbrev next : State → State
  next = step Q limits

  step-in : (frame : Frame) (s : State) → RunsIn frame older s → (a : Instr) → item_at Q frame.function frame.point ≡ Some a → next s ≡ item_step Q limits (Some a) frame older s
  step-in frame s r a at = ap (λ e. running_step Q limits e s) r.ended ∙ ap (λ fs. frames_step Q limits fs s) r.frames ∙ ap (λ o. item_step Q limits o frame older s) at

  inside-at : (n j : ℕ) (now : Locals) (s : State) → j ≡ suc opens + n → s.frames ≡ record { function = f; point = j; locations = now; saves = locations ∷ saves } ∷ older → s.ended ≡ None → SameEffects s u → Inside n s
  inside-at n j now s e frames ended effects = record { now = now; runs = record { frames = subst (λ k. s.frames ≡ record { function = f; point = k; locations = now; saves = locations ∷ saves } ∷ older) e frames; ended = ended }; effects = effects }

  begins : Inside 0 (next u)
  begins =
      let a = action_at Q f opens None op.Speculate [] [] [] place.opens in
      let e = step-in (record { function = f; point = opens; locations = locations; saves = saves }) u runs _ a.at in
      inside-at 0 (suc opens) locations (next u) (omega arith) (ap (λ (z : State). z.frames) e) (ap (λ (z : State). z.ended) e ∙ runs.ended) (record { blocks = ap (λ (z : State). z.blocks) e; printed = ap (λ (z : State). z.printed) e })

  -- ---- one step

  data Next (n : ℕ) (s : State) : Type 0 where
    Stays : (FailsGuard Q s.frames → ⊥) → Inside (suc n) (next s) → Next n s
    Returns : Back (next s) → Next n s
    Breaks : (FailsGuard Q s.frames → ⊥) → Faulty (next s) → Next n s

  again : (s : State) → RunsIn (record { function = f; point = bail; locations = locations; saves = saves }) older s → SameEffects s u → Back s
  again s r effects = record {
    runs = r;
    effects = effects;
    alike = λ given h. record {
      frames = subst (λ fs. AllZip (FramesAlike P Q) given.frames fs) (sym r.frames)
          (at-any_point P Q f opens bail locations saves older given.frames (subst (λ fs. AllZip (FramesAlike P Q) given.frames fs) runs.frames h.frames));
      effects = record { blocks = h.effects.blocks ∙ sym effects.blocks; printed = h.effects.printed ∙ sym effects.printed };
      ended = h.ended ∙ runs.ended ∙ sym r.ended;
    };
  }

  module _ (n : ℕ) (s : State) (less : n < place.size) (i : Inside n s) where
    abbrev newest : Frame
    newest = record { function = f; point = suc opens + n; locations = i.now; saves = locations ∷ saves }

    here : (a : Instr) × (item_at Q f (suc opens + n) ≡ Some a)
    here =
        let c = action_at Q f (suc opens + place.size) None op.Commit [] [] [] place.closes in
        let w = slice_get_within (code_of Q f) (suc opens + place.size) _ c.at in
        get_inside (code_of Q f) (suc opens + n) (omega (arith, less, w))

    not-failing : (a : Instr) → item_at Q f (suc opens + n) ≡ Some a → (IsFailing (Some a) i.now → ⊥) → FailsGuard Q s.frames → ⊥
    not-failing a at not h = not (subst (λ o. IsFailing o i.now) at (subst (FailsGuard Q) i.runs.frames h))

    kept : (next s).blocks ≡ s.blocks → (next s).printed ≡ s.printed → SameEffects (next s) u
    kept blocks printed = record { blocks = blocks ∙ i.effects.blocks; printed = printed ∙ i.effects.printed }

    by-item : (a : Instr) → item_at Q f (suc opens + n) ≡ Some a → Quietly bail a newest older s (next s) → Next n s
    by-item a at (Moves now not e) =
        Stays (not-failing a at not) (inside-at (suc n) (suc (suc opens + n)) now (next s) (omega arith) (ap (λ (z : State). z.frames) e) (ap (λ (z : State). z.ended) e ∙ i.runs.ended) (kept (ap (λ (z : State). z.blocks) e) (ap (λ (z : State). z.printed) e)))
    by-item a at (Faults kind not e) =
        Breaks (not-failing a at not) (record { kind = kind; ended = ap (λ (z : State). z.ended) e; effects = kept (ap (λ (z : State). z.blocks) e) (ap (λ (z : State). z.printed) e) })
    by-item a at (Fails failures e) =
        Returns (again (next s) (record { frames = ap (λ (z : State). z.frames) e; ended = ap (λ (z : State). z.ended) e ∙ i.runs.ended }) (kept (ap (λ (z : State). z.blocks) e) (ap (λ (z : State). z.printed) e)))

    one-step : Next n s
    one-step =
        let a = here in
        let h = found Q f (suc opens + n) a.0 a.1 in
        let quiet = place.quiet n (item_tree (names_of_functions Q.funcs) (names_in (slice_get Q.funcs f)) h.function.labels a.0) less h.tree in
        by-item a.0 a.1 (subst (λ z. Quietly bail a.0 newest older s z) (sym (step-in newest s i.runs a.0 a.1))
        (quiet-item Q limits bail newest older s t.names.bail (names_of_functions Q.funcs) (names_in (slice_get Q.funcs f)) h.function.labels a.0 (lands-at Q f (suc opens + n) a.0 h a.1 t.names.bail bail place.bails) quiet))

  -- ---- all steps

  -- from the item of number n on
  record Course (n : ℕ) (s : State) : Type 0 where
    more : ℕ
    few : n + more ≤ place.size
    inside : (k : ℕ) → k ≤ more → Inside (n + k) (after next k s)
    gives_back : (k : ℕ) → k ≤ more → FailsGuard Q (after next k s).frames → Back (after next (suc k) s)
    ends : (n + more ≡ place.size) ⊎ (Back (after next (suc more) s) ⊎ Faulty (after next (suc more) s))

  leaves : (n : ℕ) (s : State) → n ≤ place.size → Inside n s → (FailsGuard Q s.frames → Back (next s)) → ((n ≡ place.size) ⊎ (Back (next s) ⊎ Faulty (next s))) → Course n s
  leaves n s few i back ends = record { more = 0; few = omega arith; inside = inside; gives_back = gives_back; ends = subst (λ k. (k ≡ place.size) ⊎ (Back (next s) ⊎ Faulty (next s))) (let z : n ≡ n + 0 = omega arith in z) ends }
    where
      inside : (k : ℕ) → k ≤ 0 → Inside (n + k) (after next k s)
      inside zero less = subst (λ k. Inside k s) (let z : n ≡ n + 0 = omega arith in z) i
      inside (suc k) less = absurd (omega arith)

      gives_back : (k : ℕ) → k ≤ 0 → FailsGuard Q (after next k s).frames → Back (after next (suc k) s)
      gives_back zero less h = back h
      gives_back (suc k) less h = absurd (omega arith)

  goes-on : (n : ℕ) (s : State) → Inside n s → (FailsGuard Q s.frames → ⊥) → Course (suc n) (next s) → Course n s
  goes-on n s i not c = record { more = suc c.more; few = (let few = c.few in omega arith); inside = inside; gives_back = gives_back; ends = ends c.ends }
    where
      inside : (k : ℕ) → k ≤ suc c.more → Inside (n + k) (after next k s)
      inside zero less = subst (λ k. Inside k s) (let z : n ≡ n + 0 = omega arith in z) i
      inside (suc k) less = subst (λ j. Inside j (after next k (next s))) (let z : suc n + k ≡ n + suc k = omega arith in z) (c.inside k (omega arith))

      gives_back : (k : ℕ) → k ≤ suc c.more → FailsGuard Q (after next k s).frames → Back (after next (suc k) s)
      gives_back zero less h = absurd (not h)
      gives_back (suc k) less h = c.gives_back k (omega arith) h

      ends : (suc n + c.more ≡ place.size) ⊎ (Back (after next (suc c.more) (next s)) ⊎ Faulty (after next (suc c.more) (next s))) → (n + suc c.more ≡ place.size) ⊎ (Back (after next (suc (suc c.more)) s) ⊎ Faulty (after next (suc (suc c.more)) s))
      ends (inl e) = inl (omega arith)
      ends (inr h) = inr h

  -- no guard stands at the end of the trace
  at-commit : (n : ℕ) (s : State) → n ≡ place.size → Inside n s → FailsGuard Q s.frames → ⊥
  at-commit n s e i h =
      let c = action_at Q f (suc opens + place.size) None op.Commit [] [] [] place.closes in
      let at : item_at Q f (suc opens + n) ≡ Some (Act c.assigned c.ty op.Commit c.arguments c.callees c.targets) = ap (λ k. item_at Q f (suc opens + k)) e ∙ c.at in
      subst (λ o. IsFailing o i.now) at (subst (FailsGuard Q) i.runs.frames h)

  course : (rest n : ℕ) (s : State) → n + rest ≡ place.size → Inside n s → Course n s
  course zero n s e i = let same : n ≡ place.size = omega arith in leaves n s (omega arith) i (λ h. absurd (at-commit n s same i h)) (inl same)
  course (suc rest) n s e i = by (λ inside. course rest (suc n) (next s) (omega arith) inside) (one-step n s (omega arith) i)
    where
      by : (Inside (suc n) (next s) → Course (suc n) (next s)) → Next n s → Course n s
      by later (Stays not inside) = goes-on n s i not (later inside)
      by later (Returns back) = leaves n s (omega arith) i (λ h. back) (inr (inl back))
      by later (Breaks not faulty) = leaves n s (omega arith) i (λ h. absurd (not h)) (inr (inr faulty))

  attempt : IsAttempt P Q limits f opens place.size u locations saves older
  attempt =
      let c = course place.size 0 (next u) (omega arith) begins in record {
        steps = c.more;
        few = (let few = c.few in omega arith);
        inside = λ n less. subst (λ k. Inside k (after next n (next u))) (let z : 0 + n ≡ n = omega arith in z) (c.inside n less);
        gives_back = c.gives_back;
        ends = subst (λ k. (k ≡ place.size) ⊎ (Back (after next (suc c.more) (next u)) ⊎ Faulty (after next (suc c.more) (next u)))) (let z : 0 + c.more ≡ c.more = omega arith in z) c.ends;
      }

pub traces-give_back : TracesGiveBack
traces-give_back P Q f point t place limits u locations saves older runs = attempt P Q f point t place limits u locations saves older runs
