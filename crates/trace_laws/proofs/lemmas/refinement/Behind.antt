-- Where the `speculate`s of traces stand, and that states which match hold the same.
use Rattle.std.proofs.Common.{◌≡◌, ℕ, zero, suc, ◌+◌, ◌-◌, ◌<◌, ◌≤◌, List, [], ◌∷◌, length, Option, Some, None, refl, sym, ap, subst, ◌∙◌, ⊎_elim, arith}
use Rattle.std.specs.List.{AllZip}
use Rattle.std.proofs.lemmas.Bool.{cases_lt}
use Rattle.std.proofs.lemmas.Option.{same_Some, slice_get_within}
use Rattle.bril_tree.specs.declared.numbered.Instr.TheVariants.{Label}
use Rattle.bril_tree.specs.declared.program.Prog.{Prog}
use Rattle.bril_tree.specs.declared.types.Ty.{Ty}
use Rattle.bril_tree.specs.Accepted.{IsAccepted}
use Rattle.bril_tree.specs.Numbered.{tree_at}
use Rattle.bril_tree.specs.Sites.{sites_of}
use Rattle.bril_tree.specs.State.{Frame, Locals, State}
use Rattle.bril_tree.specs.Step.{code_of}
use Rattle.bril_tree.proofs.Elements.{get_inside}
use Rattle.pass_edit_laws.specs.plan.Plan.{ContentsMatch, SavesMatch, StacksMatch}
use Rattle.pass_edit_laws.proofs.lemmas.names.Standing.{label_at}
use Rattle.pass_edit_laws.proofs.lemmas.steps.Steps.{frame}
use Rattle.trace_laws.specs.lines.Lines.{speculate_line}
use Rattle.trace_laws.specs.lines.Traced.{Trace}
use Rattle.trace_laws.specs.refinement.Attempts.{FramesAlike, LocalsAlike, RunsIn}
use Rattle.trace_laws.specs.refinement.Stitched.{Stitched}
use Rattle.trace_laws.proofs.lemmas.refinement.Along.{Elsewhere}
use Rattle.trace_laws.proofs.lemmas.refinement.Plans.{M}

-- the newest of some frames
pub newest-same : (F G : Frame) (fs gs frames : List Frame) → frames ≡ F ∷ fs → frames ≡ G ∷ gs → F ≡ G
newest-same F G fs gs frames a b = let e : F ∷ fs ≡ G ∷ gs = sym a ∙ b in cc

module _ (P Q : Prog) (bool : Ty) (st : Stitched P Q bool) where
  -- a state of Q at the `speculate` of the trace of a label of P
  pub record AtTrace (f point : ℕ) (z : State) : Type 0 where
    pub trace : Trace
    pub is : st.traces f point ≡ Some trace
    pub locations : Locals
    pub saves : List Locals
    pub older : List Frame
    pub runs : RunsIn (frame f (suc (st.old f point)) locations saves) older z

  -- no other item is a `speculate`
  pub not-elsewhere : (f point : ℕ) (z : State) → Elsewhere Q z → AtTrace f point z → ⊥
  not-elsewhere f point z h a =
      let same = newest-same h.frame (frame f (suc (st.old f point)) a.locations a.saves) h.older a.older z.frames h.frames a.runs.frames in
      let opens = (st.traced f point a.trace a.is).lines.0 in
      h.other (same_Some h.line speculate_line (sym h.at ∙ ap (λ (F : Frame). tree_at Q F.function F.point) same ∙ opens))

  -- old items stand in their order
  step-up : (f i : ℕ) → i < length (code_of P f) → suc (st.old f i) ≤ st.old f (suc i)
  step-up f i less = by (st.traces f i) refl
    where
      by : (o : Option Trace) → st.traces f i ≡ o → suc (st.old f i) ≤ st.old f (suc i)
      by None none = let a = get_inside (code_of P f) i less in let e = st.next f i a.0 a.1 none in omega arith
      by (Some t) is = let e = (st.traced f i t is).behind in omega arith

  climb : (f i d : ℕ) → i + d ≤ length (code_of P f) → st.old f i + d ≤ st.old f (i + d)
  climb f i zero less = let e : i ≡ i + 0 = omega arith in subst (λ n. st.old f i + 0 ≤ st.old f n) e (omega arith)
  climb f i (suc d) less =
      let rest = climb f i d (omega arith) in
      let up = step-up f (i + d) (omega arith) in
      let e : suc (i + d) ≡ i + suc d = omega arith in
      subst (λ n. st.old f i + suc d ≤ st.old f n) e (omega (arith, rest, up))

  rises : (f i j : ℕ) → i ≤ j → j ≤ length (code_of P f) → st.old f i + (j - i) ≤ st.old f j
  rises f i j le less = let e : i + (j - i) ≡ j = omega arith in subst (λ n. st.old f i + (j - i) ≤ st.old f n) e (climb f i (j - i) (omega arith))

  module _ (f point : ℕ) (trace : Trace) (is : st.traces f point ≡ Some trace) where
    inside-code : suc point ≤ length (code_of P f)
    inside-code = let h = st.traced f point trace is in let l = label_at P f point h.label h.labelled in slice_get_within (code_of P f) point (Label l.number) l.at

    -- no old item stands there
    pub not-old : (i : ℕ) → i ≤ length (code_of P f) → st.old f i ≡ suc (st.old f point) → ⊥
    not-old i less e = ⊎_elim
        (λ low. let r = rises f i point (omega (arith, low)) (let h = inside-code in omega (arith, h)) in omega (arith, e, r))
        (λ high. let r = rises f (suc point) i high less in let b = (st.traced f point trace is).behind in omega (arith, e, r, b))
        (cases_lt i (suc point))

    -- and each is that of one label
    pub one-point : (i : ℕ) → i ≤ length (code_of P f) → suc (st.old f i) ≡ suc (st.old f point) → i ≡ point
    one-point i less e = ⊎_elim
        (λ low. let r = rises f i point (omega (arith, low)) (let h = inside-code in omega (arith, h)) in omega (arith, e, r, low))
        (λ high. let r = rises f (suc point) i high less in let u = step-up f point inside-code in omega (arith, e, r, u))
        (cases_lt i (suc point))

-- ---- states that match

module _ (P Q : Prog) (bool : Ty) (accepted : IsAccepted P) (st : Stitched P Q bool) where
  -- states that match hold the same
  saves-alike : (f : ℕ) (sites : List ℕ) (ps qs : List Locals) → SavesMatch (M P Q bool accepted st) P Q f sites ps qs → AllZip (LocalsAlike P Q f) ps qs
  saves-alike f [] [] [] h = tt
  saves-alike f [] [] (q ∷ qs) h = absurd h
  saves-alike f [] (p ∷ ps) qs h = absurd h
  saves-alike f (s ∷ sites) [] qs h = absurd h
  saves-alike f (s ∷ sites) (p ∷ ps) [] h = absurd h
  saves-alike f (s ∷ sites) (p ∷ ps) (q ∷ qs) h = ((λ a b same. h.0.3 a b (same, tt)), saves-alike f sites ps qs h.1)

  pub contents-alike : (f i j n m : ℕ) (p q : Locals) (ps qs : List Locals) → ContentsMatch (M P Q bool accepted st) P Q f i j p q ps qs → FramesAlike P Q (frame f n p ps) (frame f m q qs)
  contents-alike f i j n m p q ps qs h = record { function = refl; locations = λ a b same. h.locations a b (same, tt); saves = saves-alike f (sites_of (code_of P f) h.walk) ps qs h.saves }

  pub stacks-alike : (above : ℕ) (fs gs : List Frame) → StacksMatch (M P Q bool accepted st) P Q above fs gs → AllZip (FramesAlike P Q) fs gs
  stacks-alike above [] [] h = tt
  stacks-alike above [] (g ∷ gs) h = absurd h
  stacks-alike above (f ∷ fs) [] h = absurd h
  stacks-alike above (f ∷ fs) (g ∷ gs) h =
      let c = h.0.frames.contents in
      (record { function = h.0.frames.function; locations = λ a b same. c.locations a b (same, tt); saves = saves-alike f.function (sites_of (code_of P f.function) c.walk) f.saves g.saves c.saves }, stacks-alike f.function fs gs h.1)
