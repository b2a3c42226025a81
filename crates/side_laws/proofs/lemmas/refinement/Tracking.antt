-- While a run goes on, the walk that P would make from the failed guards' label is known.
use Rattle.std.proofs.Common.{◌≡◌, ◌⊎◌, ℕ, zero, suc, ◌+◌, ◌-◌, ◌<◌, ◌≤◌, Bool, true, false, List, [], ◌∷◌, ◌++◌, length, Option, Some, None, refl, sym, ap, subst, ◌∙◌, inl, inr, cond, arith}
use Rattle.std.specs.Prelude.{slice_get, slice_index, not}
use Rattle.std.specs.List.{AllZip}
use Rattle.std.proofs.lemmas.List.{length-append}
use Rattle.simulation.specs.System.{after}
use Rattle.simulation.specs.Simulation.{Chunk}
use Rattle.simulation.proofs.After.{after-suc, after-add}
use Rattle.bril_tree.specs.declared.limits.Fault.{Fault}
use Rattle.bril_tree.specs.declared.limits.Limits.{Limits}
use Rattle.bril_tree.specs.declared.numbered.Instr.{Instr}
use Rattle.bril_tree.specs.declared.numbered.Instr.TheVariants.{Label, Const, Act}
use Rattle.bril_tree.specs.declared.operation.Op.{Op}
use Rattle.bril_tree.specs.declared.program.Prog.{Prog}
use Rattle.bril_tree.specs.declared.types.Ty.{Ty}
use Rattle.bril_tree.specs.declared.value.Value.TheVariants.{Bool as Boolean}
use Rattle.bril_tree.specs.declared.operation.Op.TheVariants as op
use Rattle.bril_tree.specs.Run.{program}
use Rattle.bril_tree.specs.Accepted.{IsAccepted}
use Rattle.bril_tree.specs.Assigned.{assigns_of}
use Rattle.bril_tree.specs.Locals.{value_at}
use Rattle.bril_tree.specs.Membership.{In}
use Rattle.bril_tree.specs.Operand.{Location, Variable, reads_of, locations_read, reading_of}
use Rattle.bril_tree.specs.Outcome.{argument, bool_of}
use Rattle.bril_tree.specs.State.{Locals, Frame, Block, State, read}
use Rattle.bril_tree.specs.Step.{code_of, point_of, assigned, faulted, guards, item_step, step}
use Rattle.bril_tree.proofs.Assignments.{in_or_not}
use Rattle.pass_edit_laws.specs.plan.Plan.{ValuesMatch, StaysMatched, ItemsMatch}
use Rattle.pass_edit_laws.proofs.lemmas.plan.Values.{assigned-other, assigned-same}
use Rattle.pass_edit_laws.proofs.lemmas.steps.Attempts.{AttemptedAlike, Faults, Moves, attempted_alike, is_attempted, is_attempted_operation}
use Rattle.pass_edit_laws.proofs.lemmas.steps.Shapes.{shaped_here}
use Rattle.pass_edit_laws.proofs.lemmas.steps.Steps.{frame, state}
use Rattle.side_laws.specs.Paired.{item_place, operation_place, Within, is_guard, is_nop, labels_of_item, Run, IsRun, Inverts, Pairs, Keeps, Ends, Pair, Pairing, BeginsWith, stands, pairs_by, PairsFrom, PairsOf, operation_passing, item_passing, Walker, passing, settled, ReadAlone, IsBranchOn, IsGuardOn, IsInverted, IsDirect, IsKept}

-- ---- what matters

module _ (code : List Instr) where
  -- the location is no variable that a guard alone reads
  abbrev pub Matters : Location → Type 0
  Matters x = (n g : ℕ) → x ≡ Variable n → ReadAlone code n g → IsGuardOn (slice_get code g) n → ⊥

  abbrev pub Same : Location → Location → Type 0
  Same x y = (x ≡ y) × Matters x

  -- what an item other than a guard reads matters
  pub read-matters : (i : ℕ) (a : Instr) → slice_get code i ≡ Some a → is_guard (Some a) ≡ false → (x : Location) → In x (reads_of a) → Matters x
  read-matters i a at plain x among n g is alone guards =
      let here : i ≡ g = alone i a at (subst (λ y. In y (reads_of a)) is among) in
      let both : Some a ≡ Some (Act None None op.Guard (n ∷ []) [] (guards.0 ∷ [])) = sym at ∙ ap (slice_get code) here ∙ guards.1 in
      let on_guard : is_guard (Some a) ≡ true = ap is_guard both in
      absurd (let h = sym plain ∙ on_guard in cc)

  zip-same : (xs : List Location) → ((x : Location) → In x xs → Matters x) → AllZip Same xs xs
  zip-same [] h = tt
  zip-same (x ∷ xs) h = ((refl, h x (inl refl)), zip-same xs (λ y i. h y (inr i)))

  pub same-items : (i : ℕ) (a : Instr) → slice_get code i ≡ Some a → is_guard (Some a) ≡ false → is_attempted a ≡ true → ItemsMatch Same a a
  same-items i (Label l) at plain attempted = absurd cc
  same-items i (Const d ty v) at plain attempted = refl
  same-items i (Act d ty o args fns ls) at plain attempted = record {
    operation = refl;
    ty = refl;
    dest = refl;
    count = refl;
    funcs = refl;
    reads = zip-same (locations_read (reading_of o) d args) (read-matters i (Act d ty o args fns ls) at plain);
  }

  pub same-stays : (a : Instr) (x y : Location) → Same x y → StaysMatched (assigns_of a) (assigns_of a) Same x y
  same-stays a x y s = by (in_or_not x (assigns_of a))
    where
      by : In x (assigns_of a) ⊎ (In x (assigns_of a) → ⊥) → StaysMatched (assigns_of a) (assigns_of a) Same x y
      by (inl i) = inl (i, subst (λ z. In z (assigns_of a)) s.0 i)
      by (inr n) = inr (n, (λ i. n (subst (λ z. In z (assigns_of a)) (sym s.0) i)), s)

-- what a run keeps looks at no saves
act-attempted : (o : Op) (d : Option ℕ) (ty : Option Ty) (args fns ls : List ℕ) → operation_place o ≡ Within → is_guard (Some (Act d ty o args fns ls)) ≡ false → is_nop (Some (Act d ty o args fns ls)) ≡ false → is_attempted_operation o ≡ true
act-attempted op.Nop d ty args fns ls e g n = absurd cc
act-attempted op.Jmp d ty args fns ls e g n = absurd cc
act-attempted op.Br d ty args fns ls e g n = absurd cc
act-attempted op.Print d ty args fns ls e g n = absurd cc
act-attempted op.Store d ty args fns ls e g n = absurd cc
act-attempted op.Alloc d ty args fns ls e g n = absurd cc
act-attempted op.Free d ty args fns ls e g n = absurd cc
act-attempted op.Call d ty args fns ls e g n = absurd cc
act-attempted op.Ret d ty args fns ls e g n = absurd cc
act-attempted op.Speculate d ty args fns ls e g n = absurd cc
act-attempted op.Commit d ty args fns ls e g n = absurd cc
act-attempted op.Guard d ty args fns ls e g n = absurd cc
act-attempted _ d ty args fns ls e g n = refl

pub within-attempted : (a : Instr) → item_place (Some a) ≡ Within → is_guard (Some a) ≡ false → is_nop (Some a) ≡ false → is_attempted a ≡ true
within-attempted (Label l) e g n = absurd cc
within-attempted (Const d ty v) e g n = refl
within-attempted (Act d ty o args fns ls) e g n = act-attempted o d ty args fns ls e g n

pub nop-steps : (P : Prog) (limits : Limits) (a : Instr) → is_nop (Some a) ≡ true → (f : Frame) (older : List Frame) (s : State) → item_step P limits (Some a) f older s ≡ record s { frames = record f { point = suc f.point } ∷ older }
nop-steps P limits (Label l) e f older s = absurd cc
nop-steps P limits (Const d ty v) e f older s = absurd cc
nop-steps P limits (Act d ty op.Nop args fns ls) e f older s = refl
nop-steps P limits (Act d ty _ args fns ls) e f older s = absurd cc

module _ (P : Prog) (limits : Limits) (accepted : IsAccepted P) (k bail : ℕ) (p0 : Locals) (ps : List Locals) (fs : List Frame) (blocks : List Block) (printed : List ℕ) (x : ℕ → ℕ → ℕ)
    -- what Q makes of its save by the kept lines of a side exit goes with what the walk makes of P's
    (Made : List ℕ → Locals → Type 0) where
  abbrev code : List Instr
  code = code_of P k

  -- in the run, over the save of its `speculate`
  abbrev pub atR : ℕ → Locals → State
  atR i p = state (frame k i p (p0 ∷ ps) ∷ fs) blocks printed None x

  -- on the walk, after the save was put back; y counts the failures
  abbrev pub atW : (ℕ → ℕ → ℕ) → ℕ → Locals → State
  atW y a w = state (frame k a w ps ∷ fs) blocks printed None y

  -- The walk from the label comes to a by m steps, with locations w that hold what the run's hold, where it matters.
  pub record Tracked (y : ℕ → ℕ → ℕ) (a : ℕ) (kept : List ℕ) (p : Locals) : Type 0 where
    pub w : Locals
    pub m : ℕ
    pub long : suc (length kept) ≤ m
    pub steps : after (step P limits) m (atW y bail p0) ≡ atW y a w
    pub alike : ValuesMatch (Same code) p w
    pub made : Made kept w

  -- A guard failed: from the label P comes to the other label, by more steps than there are kept items and two.
  pub record Turned (y : ℕ → ℕ → ℕ) (kept : List ℕ) (other : ℕ) (p : Locals) : Type 0 where
    pub w : Locals
    pub m : ℕ
    pub long : suc (length kept) ≤ m
    pub stands : ℕ
    pub before : after (step P limits) m (atW y bail p0) ≡ atW y stands w
    pub steps : after (step P limits) (suc m) (atW y bail p0) ≡ atW y (point_of other code) w
    pub made : Made kept w

  stepW : (y : ℕ → ℕ → ℕ) (a : ℕ) (w : Locals) (b : Instr) → slice_get code a ≡ Some b → step P limits (atW y a w) ≡ item_step P limits (Some b) (frame k a w ps) fs (atW y a w)
  stepW y a w b at = ap (λ o. item_step P limits o (frame k a w ps) fs (atW y a w)) at

  stepR : (i : ℕ) (p : Locals) (b : Instr) → slice_get code i ≡ Some b → step P limits (atR i p) ≡ item_step P limits (Some b) (frame k i p (p0 ∷ ps)) fs (atR i p)
  stepR i p b at = ap (λ o. item_step P limits o (frame k i p (p0 ∷ ps)) fs (atR i p)) at

  -- the walk makes a kept item's step, so Q's side exit does
  abbrev pub MakesMore : Type 0
  MakesMore = (y : ℕ → ℕ → ℕ) (i a : ℕ) (kept : List ℕ) (w w' : Locals) (h : IsKept code i a) → is_attempted h.item ≡ true → Made kept w → step P limits (atW y a w) ≡ atW y (suc a) w' → Made (kept ++ i ∷ []) w'

  module _ (makes_more : MakesMore) (y : ℕ → ℕ → ℕ) where
    -- the walk passes over an item
    passed : (a a' : ℕ) (kept : List ℕ) (p : Locals) (t : Tracked y a kept p) → step P limits (atW y a t.w) ≡ atW y a' t.w → Tracked y a' kept p
    passed a a' kept p t e =
        let long = t.long in
        record {
          w = t.w;
          m = suc t.m;
          long = omega arith;
          steps = after-suc (step P limits) t.m (atW y bail p0) ∙ ap (step P limits) t.steps ∙ e;
          alike = t.alike;
          made = t.made;
        }

    pub settle : (left a : ℕ) (kept : List ℕ) (p : Locals) → Tracked y a kept p → Tracked y (settled code left a).point kept p
    settle zero a kept p t = t
    settle (suc left) a kept p t = by (slice_get code a) refl (λ a' u. settle left a' kept p u)
      where
        operations : (o : Op) (d : Option ℕ) (ty : Option Ty) (args fns ls : List ℕ) → slice_get code a ≡ Some (Act d ty o args fns ls) → ((a' : ℕ) → Tracked y a' kept p → Tracked y (settled code left a').point kept p)
            → Tracked y (passing code (settled code left) (suc left) a (operation_passing o ls)).point kept p
        operations op.Nop d ty args fns ls at rest = rest (suc a) (passed a (suc a) kept p t (stepW y a t.w _ at))
        operations op.Jmp d ty args fns ls at rest = rest (point_of (slice_index ls 0) code) (passed a _ kept p t (stepW y a t.w _ at))
        operations _ d ty args fns ls at rest = t

        by : (o : Option Instr) → slice_get code a ≡ o → ((a' : ℕ) → Tracked y a' kept p → Tracked y (settled code left a').point kept p)
            → Tracked y (passing code (settled code left) (suc left) a (item_passing o)).point kept p
        by None at rest = t
        by (Some (Label l)) at rest = rest (suc a) (passed a (suc a) kept p t (stepW y a t.w _ at))
        by (Some (Const d ty v)) at rest = t
        by (Some (Act d ty o args fns ls)) at rest = operations o d ty args fns ls at rest

    -- the walk takes a branch by its condition
    turns : (a c on off : ℕ) (w : Locals) → IsBranchOn (slice_get code a) c on off → (b : Bool) → bool_of (read w.vars c) ≡ b → step P limits (atW y a w) ≡ atW y (point_of (cond b on off) code) w
    turns a c on off w at true e = stepW y a w _ at ∙ ap (λ b. atW y (point_of (slice_index (on ∷ off ∷ []) (cond b 0 1)) code) w) e
    turns a c on off w at false e = stepW y a w _ at ∙ ap (λ b. atW y (point_of (slice_index (on ∷ off ∷ []) (cond b 0 1)) code) w) e

    turned : (a c on off : ℕ) (kept : List ℕ) (p : Locals) (t : Tracked y a kept p) → IsBranchOn (slice_get code a) c on off → (b : Bool) → bool_of (read p.vars c) ≡ b → step P limits (atW y a t.w) ≡ atW y (point_of (cond b on off) code) t.w
    turned a c on off kept p t at b e =
        let same : read p.vars c ≡ read t.w.vars c = t.alike (Variable c) (Variable c) (refl, read-matters code a _ at refl (Variable c) (inl refl)) in
        turns a c on off t.w at b (ap bool_of (sym same) ∙ e)

    goes_on : (a c on off : ℕ) (kept : List ℕ) (p : Locals) (t : Tracked y a kept p) → IsBranchOn (slice_get code a) c on off → (b : Bool) → bool_of (read p.vars c) ≡ b → Tracked y (point_of (cond b on off) code) kept p
    goes_on a c on off kept p t at b e = passed a (point_of (cond b on off) code) kept p t (turned a c on off kept p t at b e)

    leaves : (a c on off : ℕ) (kept : List ℕ) (p : Locals) (t : Tracked y a kept p) → IsBranchOn (slice_get code a) c on off → (b : Bool) → bool_of (read p.vars c) ≡ b → (q : Locals) → Turned y kept (cond b on off) q
    leaves a c on off kept p t at b e q = record {
      w = t.w;
      m = t.m;
      long = t.long;
      stands = a;
      before = t.steps;
      made = t.made;
      steps = after-suc (step P limits) t.m (atW y bail p0) ∙ ap (step P limits) t.steps ∙ turned a c on off kept p t at b e;
    }

    -- ---- a guard that is paired

    pub plain-holds : (i a c on off : ℕ) (kept : List ℕ) (p : Locals) → IsDirect code i a c on off → Tracked y a kept p → bool_of (read p.vars c) ≡ true → Tracked y (point_of on code) kept p
    plain-holds i a c on off kept p h t e = goes_on a c on off kept p t h.turns true e

    pub plain-fails : (i a c on off : ℕ) (kept : List ℕ) (p : Locals) → IsDirect code i a c on off → Tracked y a kept p → bool_of (read p.vars c) ≡ false → Turned y kept off p
    plain-fails i a c on off kept p h t e = leaves a c on off kept p t h.turns false e p

    abbrev pub negated : ℕ → ℕ → Locals → Locals
    negated n c p = assigned (Some n) (Boolean (not (bool_of (read p.vars c)))) p

    -- the `not` changes nothing that matters
    unaltered : (i a c on off : ℕ) (p w : Locals) (h : IsInverted code i a c on off) → ValuesMatch (Same code) p w → ValuesMatch (Same code) (negated h.n c p) w
    unaltered i a c on off p w h alike l r s =
        assigned-other h.n _ p l (λ e. s.1 h.n (suc i) e h.alone h.guards) ∙ alike l r s

    pub inverted-holds : (i a c on off : ℕ) (kept : List ℕ) (p : Locals) (h : IsInverted code i a c on off) → Tracked y a kept p → bool_of (read p.vars c) ≡ false → Tracked y (point_of off code) kept (negated h.n c p)
    inverted-holds i a c on off kept p h t e =
        let u = goes_on a c on off kept p t h.turns false e in
        record { w = u.w; m = u.m; long = u.long; steps = u.steps; alike = unaltered i a c on off p u.w h u.alike; made = u.made }

    pub inverted-fails : (i a c on off : ℕ) (kept : List ℕ) (p : Locals) (h : IsInverted code i a c on off) → Tracked y a kept p → bool_of (read p.vars c) ≡ true → Turned y kept on (negated h.n c p)
    inverted-fails i a c on off kept p h t e = leaves a c on off kept p t h.turns true e (negated h.n c p)

    -- ---- a kept item

    abbrev newest : List Frame → Locals
    newest [] = p0
    newest (f ∷ older) = f.locations

    -- The run made its step, so the walk makes it too: it can't fault there.
    pub keeps-tracked : (i a : ℕ) (kept : List ℕ) (p p' : Locals) (h : IsKept code i a) → is_attempted h.item ≡ true → Tracked y a kept p → step P limits (atR i p) ≡ atR (suc i) p' → Tracked y (suc a) (kept ++ i ∷ []) p'
    keeps-tracked i a kept p p' h attempted t moved =
        by (attempted_alike (Same code) P P limits k i a p t.w t.alike (p0 ∷ ps) ps fs fs blocks printed x y h.item h.item
        (same-items code i h.item h.at h.no_guard attempted) (shaped_here P accepted k i h.item h.at) (same-stays code h.item) attempted)
      where
        by : AttemptedAlike (Same code) P P limits (atR i p) (atW y a t.w) (λ z. atR (suc i) z) (λ z. atW y (suc a) z)
            (item_step P limits (Some h.item) (frame k i p (p0 ∷ ps)) fs (atR i p)) (item_step P limits (Some h.item) (frame k a t.w ps) fs (atW y a t.w)) → Tracked y (suc a) (kept ++ i ∷ []) p'
        by (Faults kind e1 e2) = absurd (let z = ap (λ (s : State). s.ended) (sym (sym (stepR i p h.item h.at) ∙ moved) ∙ e1) in cc)
        by (Moves p2 w2 e1 e2 agree) =
            let same : p2 ≡ p' = ap (λ (s : State). newest s.frames) (sym e1 ∙ sym (stepR i p h.item h.at) ∙ moved) in
            let long = t.long in
            let more = length-append kept (i ∷ []) in
            record {
              w = w2;
              m = suc t.m;
              long = omega (arith, more, long);
              steps = after-suc (step P limits) t.m (atW y bail p0) ∙ ap (step P limits) t.steps ∙ stepW y a t.w h.item h.same ∙ e2;
              alike = subst (λ z. ValuesMatch (Same code) z w2) same agree;
              made = makes_more y i a kept t.w w2 h attempted t.made (stepW y a t.w h.item h.same ∙ e2);
            }

  -- ---- a run as long as its guards are paired

  -- Q's steps in the run: its state goes with P's point and locations
  module _ (makes_more : MakesMore) (r : Run) (is : IsRun code r) (at_bail : point_of r.bail code ≡ bail) (T : State → State) (Lock : ℕ → Locals → State → Type 0)
      (locked : (i : ℕ) (p p' : Locals) (t : State) → suc r.start ≤ i → i < suc (r.start + r.size) → Lock i p t → step P limits (atR i p) ≡ atR (suc i) p' → Lock (suc i) p' (T t)) where
    -- How a run goes on from an item, whose pairs from there on are these. In each case P has made some steps and printed nothing.
    pub data Outcome (pairs : List Pair) (i : ℕ) (p : Locals) (t : State) : Type 0 where
      -- it faults
      Faulted : (n : ℕ) (kind : Fault) (i' : ℕ) (p' : Locals) → suc r.start ≤ i' → i' < suc (r.start + r.size) → Lock i' p' (after T n t) → after (step P limits) n (atR i p) ≡ atR i' p' → step P limits (atR i' p') ≡ faulted kind (atR i' p') → Outcome pairs i p t
      -- a paired guard fails
      Failed : (pair : Pair) → In pair pairs → (n : ℕ) (p' : Locals) (y : ℕ → ℕ → ℕ) → Lock pair.guard p' (after T n t) → after (step P limits) n (atR i p) ≡ atR pair.guard p' → step P limits (atR pair.guard p') ≡ atW y bail p0
          → Turned y pair.kept pair.other p' → Outcome pairs i p t
      -- it comes to where pairing ends
      Passed : (n room i' : ℕ) (w : Walker) (kept : List ℕ) (p' : Locals) → i ≤ i' → ((q : Pair) → In q pairs → q.guard < i') → Lock i' p' (after T n t) → after (step P limits) n (atR i p) ≡ atR i' p' → (i' + room ≡ suc (r.start + r.size)) → PairsFrom code r.bail room i' w kept [] → Outcome pairs i p t

    abbrev Starts : Pairing → ℕ → Type 0
    Starts X room = (i : ℕ) (w : Walker) (kept : List ℕ) (pairs : List Pair) (p : Locals) → i + room ≡ suc (r.start + r.size) → suc r.start ≤ i → X i w kept pairs → ((y : ℕ → ℕ → ℕ) → Tracked y w.point kept p) → (t : State) → Lock i p t → Outcome pairs i p t

    place_here : (i room : ℕ) → i + suc room ≡ suc (r.start + r.size) → suc r.start ≤ i → (n : ℕ) × (n < r.size) × (i ≡ suc (r.start + n))
    place_here i room e l = (i - suc r.start, omega arith, omega arith)

    lock_on : (m n j : ℕ) (q : Locals) (t : State) → Lock j q (after T n (after T m t)) → Lock j q (after T (m + n) t)
    lock_on m n j q t h = subst (Lock j q) (sym (after-add T m n t)) h

    -- some steps in front
    further : (pairs : List Pair) (m i j : ℕ) (p q : Locals) (t : State) → i ≤ j → after (step P limits) m (atR i p) ≡ atR j q → Outcome pairs j q (after T m t) → Outcome pairs i p t
    further pairs m i j p q t low e (Faulted n kind i' p' lo hi k es ef) = Faulted (m + n) kind i' p' lo hi (lock_on m n i' p' t k) (after-add (step P limits) m n (atR i p) ∙ ap (after (step P limits) n) e ∙ es) ef
    further pairs m i j p q t low e (Failed pair among n p' y k es ef u) = Failed pair among (m + n) p' y (lock_on m n pair.guard p' t k) (after-add (step P limits) m n (atR i p) ∙ ap (after (step P limits) n) e ∙ es) ef u
    further pairs m i j p q t low e (Passed n room i' w kept p' up below k es er rest) = Passed (m + n) room i' w kept p' (omega (arith, low, up)) below (lock_on m n i' p' t k) (after-add (step P limits) m n (atR i p) ∙ ap (after (step P limits) n) e ∙ es) er rest

    more : (pair : Pair) (pairs : List Pair) (i : ℕ) (p : Locals) (t : State) → pair.guard < i → Outcome pairs i p t → Outcome (pair ∷ pairs) i p t
    more pair pairs i p t low (Faulted n kind i' p' lo hi k es ef) = Faulted n kind i' p' lo hi k es ef
    more pair pairs i p t low (Failed q among n p' y k es ef u) = Failed q (inr among) n p' y k es ef u
    more pair pairs i p t low (Passed n room i' w kept p' up below k es er rest) = Passed n room i' w kept p' up all k es er rest
      where
        all : (q : Pair) → In q (pair ∷ pairs) → q.guard < i'
        all q (inl e) = let g = ap (λ (z : Pair). z.guard) e in omega (arith, g, low, up)
        all q (inr m) = below q m

    -- a guard of the run
    guard-step : (i c label : ℕ) (p : Locals) → slice_get code i ≡ Some (Act None None op.Guard (c ∷ []) [] (label ∷ [])) → bool_of (read p.vars c) ≡ true → step P limits (atR i p) ≡ atR (suc i) p
    guard-step i c label p at e = stepR i p _ at ∙ ap (λ b. guards P limits b label (frame k i p (p0 ∷ ps)) fs (atR i p)) e

    record Fails (i : ℕ) (p : Locals) : Type 0 where
      y : ℕ → ℕ → ℕ
      steps : step P limits (atR i p) ≡ atW y bail p0

    guard-fails : (i c label room : ℕ) (p : Locals) → i + suc room ≡ suc (r.start + r.size) → suc r.start ≤ i → slice_get code i ≡ Some (Act None None op.Guard (c ∷ []) [] (label ∷ [])) → bool_of (read p.vars c) ≡ false → Fails i p
    guard-fails i c label room p er l at e =
        let here = place_here i room er l in
        let at_n : slice_get code (suc (r.start + here.0)) ≡ Some (Act None None op.Guard (c ∷ []) [] (label ∷ [])) = ap (slice_get code) (sym here.2) ∙ at in
        let named : label ∷ [] ≡ r.bail ∷ [] = ap labels_of_item (sym at_n) ∙ is.guards here.0 here.1 (ap is_guard at_n) in
        let to : point_of label code ≡ bail = ap (λ l. point_of (slice_index l 0) code) named ∙ at_bail in
        record {
          y = (guards P limits false label (frame k i p (p0 ∷ ps)) fs (atR i p)).failures;
          steps = stepR i p _ at ∙ ap (λ b. guards P limits b label (frame k i p (p0 ∷ ps)) fs (atR i p)) e
              ∙ ap (λ n. atW (guards P limits false label (frame k i p (p0 ∷ ps)) fs (atR i p)).failures n p0) to;
        }

    -- an item of the run that looks at no saves faults, or goes on
    record Goes (i : ℕ) (p : Locals) : Type 0 where
      p' : Locals
      steps : step P limits (atR i p) ≡ atR (suc i) p'

    faults_or_goes : (i : ℕ) (p : Locals) (a : Instr) → slice_get code i ≡ Some a → is_guard (Some a) ≡ false → is_attempted a ≡ true → ((kind : Fault) × (step P limits (atR i p) ≡ faulted kind (atR i p))) ⊎ Goes i p
    faults_or_goes i p a at plain attempted =
        by (attempted_alike (Same code) P P limits k i i p p (λ u v s. ap (value_at p) s.0) (p0 ∷ ps) (p0 ∷ ps) fs fs blocks printed x x a a
        (same-items code i a at plain attempted) (shaped_here P accepted k i a at) (same-stays code a) attempted)
      where
        by : AttemptedAlike (Same code) P P limits (atR i p) (atR i p) (λ z. atR (suc i) z) (λ z. atR (suc i) z) (item_step P limits (Some a) (frame k i p (p0 ∷ ps)) fs (atR i p)) (item_step P limits (Some a) (frame k i p (p0 ∷ ps)) fs (atR i p))
            → ((kind : Fault) × (step P limits (atR i p) ≡ faulted kind (atR i p))) ⊎ Goes i p
        by (Faults kind e1 e2) = inl (kind, stepR i p a at ∙ e1)
        by (Moves p2 q2 e1 e2 agree) = inr (record { p' = p2; steps = stepR i p a at ∙ e1 })

    keeping : (X : Pairing) (room : ℕ) → Starts X room → (i a left : ℕ) (kept : List ℕ) (pairs : List Pair) (p : Locals) → i + suc room ≡ suc (r.start + r.size) → suc r.start ≤ i → is_nop (slice_get code i) ≡ false → (h : IsKept code i a)
        → X (suc i) (record { left = left; point = suc a }) (kept ++ i ∷ []) pairs → ((y : ℕ → ℕ → ℕ) → Tracked y a kept p) → (t : State) → Lock i p t → Outcome pairs i p t
    keeping X room rest i a left kept pairs p er l nn h x' u t lk =
        let here = place_here i room er l in
        let within : item_place (Some h.item) ≡ Within = ap item_place (sym h.at ∙ ap (slice_get code) here.2) ∙ is.within here.0 here.1 in
        let plain_nop : is_nop (Some h.item) ≡ false = ap is_nop (sym h.at) ∙ nn in
        let attempted = within-attempted h.item within h.no_guard plain_nop in
        by attempted (faults_or_goes i p h.item h.at h.no_guard attempted)
      where
        by : is_attempted h.item ≡ true → ((kind : Fault) × (step P limits (atR i p) ≡ faulted kind (atR i p))) ⊎ Goes i p → Outcome pairs i p t
        by attempted (inl f) = Faulted 0 f.0 i p l (omega arith) lk refl f.1
        by attempted (inr g) = further pairs 1 i (suc i) p g.p' t (omega arith) g.steps
            (rest (suc i) (record { left = left; point = suc a }) (kept ++ i ∷ []) pairs g.p' (omega arith) (omega arith) x' (λ y. keeps-tracked makes_more y i a kept p g.p' h attempted (u y) g.steps) (T t) (locked i p g.p' t l (omega arith) lk g.steps))

    plain : (X : Pairing) (room : ℕ) → Starts X room → (i a left c on off : ℕ) (kept : List ℕ) (pairs : List Pair) (p : Locals) → i + suc room ≡ suc (r.start + r.size) → suc r.start ≤ i → (h : IsDirect code i a c on off)
        → BeginsWith (record { guard = i; bail = r.bail; kept = kept; other = off }) (X (suc i) (record { left = left; point = point_of on code }) kept) pairs → ((y : ℕ → ℕ → ℕ) → Tracked y a kept p) → (t : State) → Lock i p t → Outcome pairs i p t
    plain X room rest i a left c on off kept [] p er l h x' u t lk = absurd x'
    plain X room rest i a left c on off kept (pair ∷ pairs) p er l h x' u t lk = by (bool_of (read p.vars c)) refl
      where
        by : (b : Bool) → bool_of (read p.vars c) ≡ b → Outcome (pair ∷ pairs) i p t
        by true e = further (pair ∷ pairs) 1 i (suc i) p p t (omega arith) (guard-step i c h.guards.0 p h.guards.1 e)
            (more pair pairs (suc i) p (T t) (let g = ap (λ (z : Pair). z.guard) x'.0 in omega (arith, g)) (rest (suc i) (record { left = left; point = point_of on code }) kept pairs p (omega arith) (omega arith) x'.1 (λ y. plain-holds makes_more y i a c on off kept p h (u y) e) (T t) (locked i p p t l (omega arith) lk (guard-step i c h.guards.0 p h.guards.1 e))))
        by false e =
            let f = guard-fails i c h.guards.0 room p er l h.guards.1 e in
            Failed pair (inl refl) 0 p f.y (subst (λ (z : Pair). Lock z.guard p t) (sym x'.0) lk) (ap (λ (z : Pair). atR z.guard p) (sym x'.0)) (subst (λ (z : Pair). step P limits (atR z.guard p) ≡ atW f.y bail p0) (sym x'.0) f.steps)
            (subst (λ (z : Pair). Turned f.y z.kept z.other p) (sym x'.0) (plain-fails makes_more f.y i a c on off kept p h (u f.y) e))

    negation-reads : (n c : ℕ) (p : Locals) (y : ℕ → ℕ → ℕ) → bool_of (read (negated makes_more y n c p).vars n) ≡ not (bool_of (read p.vars c))
    negation-reads n c p y = ap bool_of (assigned-same n (Boolean (not (bool_of (read p.vars c)))) p (Variable n) refl)

    inverted : (X : Pairing) (room : ℕ) → Starts X room → (i a left c on off : ℕ) (kept : List ℕ) (pairs : List Pair) (p : Locals) → i + suc (suc room) ≡ suc (r.start + r.size) → suc r.start ≤ i → (h : IsInverted code i a c on off)
        → BeginsWith (record { guard = suc i; bail = r.bail; kept = kept; other = on }) (X (suc (suc i)) (record { left = left; point = point_of off code }) kept) pairs → ((y : ℕ → ℕ → ℕ) → Tracked y a kept p) → (t : State) → Lock i p t → Outcome pairs i p t
    inverted X room rest i a left c on off kept [] p er l h x' u t lk = absurd x'
    inverted X room rest i a left c on off kept (pair ∷ pairs) p er l h x' u t lk = by (bool_of (read p.vars c)) refl
      where
        q : Locals
        q = negated makes_more x h.n c p

        first : step P limits (atR i p) ≡ atR (suc i) q
        first = stepR i p _ h.nots

        by : (b : Bool) → bool_of (read p.vars c) ≡ b → Outcome (pair ∷ pairs) i p t
        by false e = further (pair ∷ pairs) 2 i (suc (suc i)) p q t (omega arith)
            (ap (step P limits) first ∙ guard-step (suc i) h.n h.guards.0 q h.guards.1 (negation-reads h.n c p x ∙ ap not e))
            (more pair pairs (suc (suc i)) q (T (T t)) (let g = ap (λ (z : Pair). z.guard) x'.0 in omega (arith, g)) (rest (suc (suc i)) (record { left = left; point = point_of off code }) kept pairs q (omega arith) (omega arith) x'.1 (λ y. inverted-holds makes_more y i a c on off kept p h (u y) e) (T (T t))
            (locked (suc i) q q (T t) (omega arith) (omega arith) (locked i p q t l (omega arith) lk first) (guard-step (suc i) h.n h.guards.0 q h.guards.1 (negation-reads h.n c p x ∙ ap not e)))))
        by true e =
            let f = guard-fails (suc i) h.n h.guards.0 room q (omega arith) (omega arith) h.guards.1 (negation-reads h.n c p x ∙ ap not e) in
            Failed pair (inl refl) 1 q f.y (subst (λ (z : Pair). Lock z.guard q (T t)) (sym x'.0) (locked i p q t l (omega arith) lk first)) (first ∙ ap (λ (z : Pair). atR z.guard q) (sym x'.0)) (subst (λ (z : Pair). step P limits (atR z.guard q) ≡ atW f.y bail p0) (sym x'.0) f.steps)
            (subst (λ (z : Pair). Turned f.y z.kept z.other q) (sym x'.0) (inverted-fails makes_more f.y i a c on off kept p h (u f.y) e))

    -- what `not`s and their guards need of what comes two items further
    abbrev Skips : Pairing → ℕ → Type 0
    Skips Y room = (i a left c on off : ℕ) (kept : List ℕ) (pairs : List Pair) (p : Locals) → i + suc room ≡ suc (r.start + r.size) → suc r.start ≤ i → (h : IsInverted code i a c on off)
        → BeginsWith (record { guard = suc i; bail = r.bail; kept = kept; other = on }) (Y (suc (suc i)) (record { left = left; point = point_of off code }) kept) pairs → ((y : ℕ → ℕ → ℕ) → Tracked y a kept p) → (t : State) → Lock i p t → Outcome pairs i p t

    met : (X Y : Pairing) (room : ℕ) → Starts X room → Skips Y room → (i : ℕ) (w : Walker) (kept : List ℕ) (pairs : List Pair) (p : Locals) → i + suc room ≡ suc (r.start + r.size) → suc r.start ≤ i
        → PairsFrom code r.bail (suc room) i w kept pairs → pairs_by code r.bail X Y i w kept pairs → ((y : ℕ → ℕ → ℕ) → Tracked y w.point kept p) → (t : State) → Lock i p t → Outcome pairs i p t
    met X Y room rest skip i w kept pairs p er l whole by_item u t lk = by by_item
      where
        ended : pairs ≡ [] → Outcome pairs i p t
        ended e = Passed 0 (suc room) i w kept p (omega arith) (λ q among. absurd (subst (In q) e among)) lk refl er (subst (PairsFrom code r.bail (suc room) i w kept) e whole)

        standing : (left : ℕ) → is_nop (slice_get code i) ≡ false → stands code r.bail X Y i left (settled code w.left w.point).point kept pairs → Outcome pairs i p t
        standing zero nn e = ended e
        standing (suc left) nn (Inverts c on off h, x') = skip i (settled code w.left w.point).point left c on off kept pairs p er l h x' (λ y. settle makes_more y w.left w.point kept p (u y)) t lk
        standing (suc left) nn (Pairs c on off n h, x') = plain X room rest i (settled code w.left w.point).point left c on off kept pairs p er l h x' (λ y. settle makes_more y w.left w.point kept p (u y)) t lk
        standing (suc left) nn (Keeps n m h, x') = keeping X room rest i (settled code w.left w.point).point left kept pairs p er l nn h x' (λ y. settle makes_more y w.left w.point kept p (u y)) t lk
        standing (suc left) nn (Ends n m h, x') = ended x'

        nops : (o : Option Instr) → slice_get code i ≡ o → is_nop o ≡ true → X (suc i) w kept pairs → Outcome pairs i p t
        nops None at e x' = absurd cc
        nops (Some a) at e x' = further pairs 1 i (suc i) p p t (omega arith) (stepR i p a at ∙ nop-steps P limits a e (frame k i p (p0 ∷ ps)) fs (atR i p)) (rest (suc i) w kept pairs p (omega arith) (omega arith) x' u (T t) (locked i p p t l (omega arith) lk (stepR i p a at ∙ nop-steps P limits a e (frame k i p (p0 ∷ ps)) fs (atR i p))))

        by : pairs_by code r.bail X Y i w kept pairs → Outcome pairs i p t
        by (inl h) = nops (slice_get code i) refl h.0 h.1
        by (inr h) = standing (settled code w.left w.point).left h.0 h.1

    no_skip : Skips (λ i w kept pairs. ⊥) 0
    no_skip i a left c on off kept [] p er l h x' u t lk = absurd x'
    no_skip i a left c on off kept (pair ∷ pairs) p er l h x' u t lk = absurd x'.1

    -- A run from its items' pairs on: it faults, a paired guard fails and its branch goes the other way, or it comes to where pairing ends.
    pub decides : (room : ℕ) → Starts (PairsFrom code r.bail room) room
    decides zero i w kept pairs p er l h u t lk = Passed 0 0 i w kept p (omega arith) (λ q among. absurd (subst (In q) h among)) lk refl er refl
    decides (suc zero) i w kept pairs p er l h u t lk = met (PairsFrom code r.bail zero) (λ i w kept pairs. ⊥) 0 (decides zero) no_skip i w kept pairs p er l h h u t lk
    decides (suc (suc room)) i w kept pairs p er l h u t lk =
        met (PairsFrom code r.bail (suc room)) (PairsFrom code r.bail room) (suc room) (decides (suc room)) (inverted (PairsFrom code r.bail room) room (decides room)) i w kept pairs p er l h h u t lk

    -- the walk's first step is over the label
    pub run_decides : (l : ℕ) → slice_get code bail ≡ Some (Label l) → (pairs : List Pair) → PairsOf code r pairs → Made [] p0 → (t : State) → Lock (suc r.start) p0 t → Outcome pairs (suc r.start) p0 t
    run_decides l at pairs h made t lk = decides r.size (suc r.start) (record { left = 1023; point = suc (point_of r.bail code) }) [] pairs p0 (omega arith) (omega arith) h
        (λ y. record {
          w = p0;
          m = 1;
          long = omega arith;
          steps = stepW y bail p0 (Label l) at ∙ ap (λ n. atW y (suc n) p0) (sym at_bail);
          alike = λ u v s. ap (value_at p0) s.0;
          made = made;
        }) t lk

    -- ---- behind the last pair

    -- how the rest of a run goes
    pub data Rest (i : ℕ) (p : Locals) (t : State) : Type 0 where
      RestFaults : (n : ℕ) (kind : Fault) (i' : ℕ) (p' : Locals) → suc r.start ≤ i' → i' < suc (r.start + r.size) → Lock i' p' (after T n t) → after (step P limits) n (atR i p) ≡ atR i' p' → step P limits (atR i' p') ≡ faulted kind (atR i' p') → Rest i p t
      RestFails : (n i' : ℕ) (p' : Locals) (y : ℕ → ℕ → ℕ) → i ≤ i' → i' < suc (r.start + r.size) → is_guard (slice_get code i') ≡ true → Lock i' p' (after T n t) → after (step P limits) n (atR i p) ≡ atR i' p' → step P limits (atR i' p') ≡ atW y bail p0 → Rest i p t
      RestCommits : (n : ℕ) (p' : Locals) → Lock (suc (r.start + r.size)) p' (after T n t) → after (step P limits) n (atR i p) ≡ atR (suc (r.start + r.size)) p' → Rest i p t

    rest_further : (i : ℕ) (p q : Locals) (t : State) → step P limits (atR i p) ≡ atR (suc i) q → Rest (suc i) q (T t) → Rest i p t
    rest_further i p q t e (RestFaults n kind i' p' lo hi k es ef) = RestFaults (1 + n) kind i' p' lo hi (lock_on 1 n i' p' t k) (after-add (step P limits) 1 n (atR i p) ∙ ap (after (step P limits) n) e ∙ es) ef
    rest_further i p q t e (RestFails n i' p' y l u g k es ef) = RestFails (1 + n) i' p' y (omega arith) u g (lock_on 1 n i' p' t k) (after-add (step P limits) 1 n (atR i p) ∙ ap (after (step P limits) n) e ∙ es) ef
    rest_further i p q t e (RestCommits n p' k es) = RestCommits (1 + n) p' (lock_on 1 n (suc (r.start + r.size)) p' t k) (after-add (step P limits) 1 n (atR i p) ∙ ap (after (step P limits) n) e ∙ es)

    -- a guard of an accepted program
    record GuardParts (a : Instr) : Type 0 where
      d : Option ℕ
      ty : Option Ty
      args : List ℕ
      fns : List ℕ
      ls : List ℕ
      same : a ≡ Act d ty op.Guard args fns ls

    guard_parts : (a : Instr) → is_guard (Some a) ≡ true → GuardParts a
    guard_parts (Label l) e = absurd cc
    guard_parts (Const d ty v) e = absurd cc
    guard_parts (Act d ty op.Guard args fns ls) e = record { d = d; ty = ty; args = args; fns = fns; ls = ls; same = refl }
    guard_parts (Act d ty _ args fns ls) e = absurd cc

    rest_by : (room i : ℕ) (p : Locals) (t : State) → i + suc room ≡ suc (r.start + r.size) → suc r.start ≤ i → Lock i p t → ((q : Locals) → step P limits (atR i p) ≡ atR (suc i) q → Rest i p t) → Rest i p t
    rest_by room i p t er l lk on = items (slice_get code i) refl
      where
        here : (n : ℕ) × (n < r.size) × (i ≡ suc (r.start + n))
        here = place_here i room er l

        guard : (a : Instr) → slice_get code i ≡ Some a → (g : GuardParts a) → (b : Bool) → bool_of (argument p g.args 0) ≡ b → Rest i p t
        guard a at g true e = on p (stepR i p a at ∙ ap (λ z. item_step P limits (Some z) (frame k i p (p0 ∷ ps)) fs (atR i p)) g.same ∙ ap (λ b. guards P limits b (slice_index g.ls 0) (frame k i p (p0 ∷ ps)) fs (atR i p)) e)
        guard a at g false e =
            let is_one : is_guard (slice_get code i) ≡ true = ap is_guard (at ∙ ap Some g.same) in
            let named : g.ls ≡ r.bail ∷ [] = ap labels_of_item (sym (ap Some g.same) ∙ sym at ∙ ap (slice_get code) here.2) ∙ is.guards here.0 here.1 (ap is_guard (sym (ap (slice_get code) here.2) ∙ at ∙ ap Some g.same)) in
            let to : point_of (slice_index g.ls 0) code ≡ bail = ap (λ z. point_of (slice_index z 0) code) named ∙ at_bail in
            let failed = (guards P limits false (slice_index g.ls 0) (frame k i p (p0 ∷ ps)) fs (atR i p)).failures in
            RestFails 0 i p failed (omega arith) (omega (arith, er)) is_one lk refl
            (stepR i p a at ∙ ap (λ z. item_step P limits (Some z) (frame k i p (p0 ∷ ps)) fs (atR i p)) g.same ∙ ap (λ b. guards P limits b (slice_index g.ls 0) (frame k i p (p0 ∷ ps)) fs (atR i p)) e ∙ ap (λ n. atW failed n p0) to)

        straight : (a : Instr) → ((kind : Fault) × (step P limits (atR i p) ≡ faulted kind (atR i p))) ⊎ Goes i p → Rest i p t
        straight a (inl f) = RestFaults 0 f.0 i p l (omega arith) lk refl f.1
        straight a (inr g) = on g.p' g.steps

        no_guard : (a : Instr) → slice_get code i ≡ Some a → is_guard (Some a) ≡ false → (b : Bool) → is_nop (Some a) ≡ b → Rest i p t
        no_guard a at plain true e = on p (stepR i p a at ∙ nop-steps P limits a e (frame k i p (p0 ∷ ps)) fs (atR i p))
        no_guard a at plain false e =
            let within : item_place (Some a) ≡ Within = ap item_place (sym at ∙ ap (slice_get code) here.2) ∙ is.within here.0 here.1 in
            straight a (faults_or_goes i p a at plain (within-attempted a within plain e))

        either : (a : Instr) → slice_get code i ≡ Some a → (b : Bool) → is_guard (Some a) ≡ b → Rest i p t
        either a at true e = let g = guard_parts a e in guard a at g (bool_of (argument p g.args 0)) refl
        either a at false e = no_guard a at e (is_nop (Some a)) refl

        items : (o : Option Instr) → slice_get code i ≡ o → Rest i p t
        items None at = absurd (let h : item_place None ≡ Within = ap item_place (sym at ∙ ap (slice_get code) here.2) ∙ is.within here.0 here.1 in cc)
        items (Some a) at = either a at (is_guard (Some a)) refl

    -- the rest of a run, in step: it faults, a guard fails, or the run comes to its commit
    pub finishes : (room i : ℕ) (p : Locals) (t : State) → i + room ≡ suc (r.start + r.size) → suc r.start ≤ i → Lock i p t → Rest i p t
    finishes zero i p t er l lk =
        let e : i ≡ suc (r.start + r.size) = omega arith in
        RestCommits 0 p (subst (λ n. Lock n p t) e lk) (ap (λ n. atR n p) e)
    finishes (suc room) i p t er l lk = rest_by room i p t er l lk (λ q e. rest_further i p q t e (finishes room (suc i) q (T t) (omega arith) (omega arith) (locked i p q t l (omega arith) lk e)))

    -- ---- a chunk from the `speculate` on

    -- A paired guard fails: P walks to the other label, and Q goes there by its side exit, in no more steps.
    pub failed_chunk : (Q : Prog) (R : State → State → Type 0) (s0 t0 t4 : State) → s0.ended ≡ None → s0.printed ≡ printed → step P limits s0 ≡ atR (suc r.start) p0
        → (pair : Pair) (n : ℕ) (p' : Locals) (y : ℕ → ℕ → ℕ) → after (step P limits) n (atR (suc r.start) p0) ≡ atR pair.guard p' → step P limits (atR pair.guard p') ≡ atW y bail p0 → (u : Turned y pair.kept pair.other p')
        → after (step Q limits) (suc (n + suc (length pair.kept + 2))) t0 ≡ t4 → R (atW y (point_of pair.other code) u.w) t4 → Chunk (program P limits) (program Q limits) 1 R s0 t0
    failed_chunk Q R s0 t0 t4 runs quiet opens pair n p' y es ef u qs again =
        let to_walk : after (step P limits) (suc (suc n)) s0 ≡ atW y bail p0 =
        after-suc (step P limits) (suc n) s0 ∙ ap (step P limits) (ap (λ e. after (step P limits) e s0) (flip n) ∙ after-add (step P limits) 1 n s0 ∙ ap (after (step P limits) n) opens ∙ es) ∙ ef in
        let stands : after (step P limits) (suc (suc n) + u.m) s0 ≡ atW y u.stands u.w = after-add (step P limits) (suc (suc n)) u.m s0 ∙ ap (after (step P limits) u.m) to_walk ∙ u.before in
        let long = u.long in
        record {
          early = suc (suc n) + u.m;
          moves = n + suc (length pair.kept + 2);
          within = omega (arith, long);
          quiet = ap (λ (z : State). z.printed) stands ∙ sym quiet;
          running = ap (λ (z : State). z.ended) stands;
          again = subst (λ z. R z (after (step Q limits) (suc (n + suc (length pair.kept + 2))) t0))
              (sym (ap (λ e. after (step P limits) e s0) (sums (suc (suc n)) u.m) ∙ after-add (step P limits) (suc (suc n)) (suc u.m) s0 ∙ ap (after (step P limits) (suc u.m)) to_walk ∙ u.steps))
              (subst (R (atW y (point_of pair.other code) u.w)) (sym qs) again);
        }
      where
        sums : (a b : ℕ) → suc (a + b) ≡ a + suc b
        sums a b = omega arith

        flip : (a : ℕ) → suc a ≡ 1 + a
        flip a = omega arith
