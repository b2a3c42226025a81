-- Two plans. One matches all points, for walks. One matches the points to which walks along the table lead, for runs: there
-- a location that is live holds the one value that the table has of it.
use Rattle.std.proofs.Common.{◌≡◌, ℕ, suc, ◌<◌, Bool, true, false, cond, List, [], ◌∷◌, length, map, Option, Some, None, refl, sym, ap, subst, ◌∙◌, inl, inr, ⊎_elim, arith}
use Rattle.std.specs.Prelude.{slice_get, slice_index, is_some}
use Rattle.std.specs.List.{range_with_len}
use Rattle.bril_tree.specs.declared.numbered.Instr.{Instr}
use Rattle.bril_tree.specs.declared.numbered.Instr.TheVariants.{Label, Const, Act}
use Rattle.bril_tree.specs.declared.numbered_function.Func.{Func}
use Rattle.bril_tree.specs.declared.operation.Op.{Op}
use Rattle.bril_tree.specs.declared.operation.Op.TheVariants as op
use Rattle.bril_tree.specs.declared.program.Prog.{Prog}
use Rattle.bril_tree.specs.declared.types.Ty.{Ty}
use Rattle.bril_tree.specs.declared.value.Value.{Value}
use Rattle.bril_tree.specs.Accepted.{IsAccepted, AreWalksAccepted}
use Rattle.bril_tree.specs.Assigned.{assigns_of, assigns_at}
use Rattle.bril_tree.specs.Edge.{Branch, branches_at, branches_from, item_branches, onward, jump, abort}
use Rattle.bril_tree.specs.Live.{IsLive}
use Rattle.bril_tree.specs.Locals.{value_at}
use Rattle.bril_tree.specs.Membership.{In}
use Rattle.bril_tree.specs.Numbered.{tree_at}
use Rattle.bril_tree.specs.Operand.{Location, Variable, reads_of}
use Rattle.bril_tree.specs.Outcome.{Yields, argument, bool_of}
use Rattle.bril_tree.specs.Shape.{is_shaped, shape_of}
use Rattle.bril_tree.specs.Sites.{sites_of}
use Rattle.bril_tree.specs.State.{Locals}
use Rattle.bril_tree.specs.Step.{code_of, items_of, item_at, point_of}
use Rattle.bril_tree.specs.Typing.{return_type}
use Rattle.bril_tree.specs.Walk.{IsWalk, end_of}
use Rattle.bril_tree.proofs.Acceptance.{walks_of}
use Rattle.bril_tree.proofs.Assignments.{in_or_not}
use Rattle.bril_tree.proofs.LabelPoints.{range_high}
use Rattle.bril_tree.proofs.Liveness.{live-reads, live-flows, live-back, live_assigned}
use Rattle.bril_tree.proofs.Members.{contains_in, in_map, in_map_source}
use Rattle.bril_tree.proofs.Shapes.{shape-parts}
use Rattle.bril_tree.proofs.Trees.{found_at}
use Rattle.pass_edit_laws.specs.names.NamedPlan.{NamePlan, plan, KeepsNames}
use Rattle.pass_edit_laws.proofs.lemmas.names.Points.{label_once}
use Rattle.pass_edit_laws.proofs.lemmas.names.Preserving.{names_preserve, knows_nothing}
use Rattle.pass_edit_laws.specs.plan.Narrowing.{Narrows, narrow}
use Rattle.pass_edit_laws.specs.plan.Plan.{Plan, HoldsKnown, Writes, IsLearned, Preserves}
use Rattle.pass_edit_laws.proofs.lemmas.plan.Narrowing.{narrowed}
use Rattle.pass_edit_laws.proofs.lemmas.steps.Shapes.{shaped_here, site_assigns}
use Rattle.constant_pass.specs.declared.constants.known.Known.{Known}
use Rattle.constant_pass.specs.declared.constants.known.Known.TheVariants.{Nothing, One, Many}
use Rattle.constant_pass.specs.constants.Known.{IsBelow, is_nothing}
use Rattle.constant_pass.specs.constants.Answer.{Knowledge, answer, given}
use Rattle.constant_pass.specs.constants.Ways.{chosen, item_ways}
use Rattle.constant_pass.specs.constants.Consistent.{IsConsistent, Table}
use Rattle.constant_pass.proofs.lemmas.constants.Rules.{first-read}
use Rattle.constant_pass.specs.Items.{condition, folded_item, jump_or, nop_or}
use Rattle.constant_pass.specs.Folded.{becomes}
use Rattle.constant_pass.proofs.Fates.{gives-known}
use Rattle.constant_pass.proofs.Points.{Folded, IsKept, kept_tree, label_kept}
use Rattle.constant_pass.proofs.Along.{IsVisited, reads-some, answer-some}

-- ---- conditions

abbrev pub is_no : Option Bool → Bool
is_no None = false
is_no (Some b) = cond b false true

-- the item is a guard that is known to fail
abbrev pub never_passes : Knowledge → Instr → Bool
never_passes k (Label l) = false
never_passes k (Const d ty l) = false
never_passes k (Act d ty op.Guard args fs ls) = is_no (condition (k (Variable (slice_index args 0))))
never_passes k (Act d ty o args fs ls) = false

-- the operation of an item, where it has one
abbrev operation_of : Instr → Option Op
operation_of (Label l) = None
operation_of (Const d ty l) = None
operation_of (Act d ty o args fs ls) = Some o

-- the condition of a branch that stays isn't known
jump-undecided : (d : Option ℕ) (ty : Option Ty) (args fs ls : List ℕ) (c : Known) → jump_or (condition c) ls (Act d ty op.Br args fs ls) ≡ Act d ty op.Br args fs ls → is_nothing c ≡ false → c ≡ Many
jump-undecided d ty args fs ls Nothing same some = absurd cc
jump-undecided d ty args fs ls (One v) same some = absurd (let h : Some op.Jmp ≡ Some op.Br = ap operation_of same in cc)
jump-undecided d ty args fs ls Many same some = refl

-- nor that of a guard, unless the guard never passes
guard-undecided : (d : Option ℕ) (ty : Option Ty) (args fs ls : List ℕ) (c : Known) → nop_or (condition c) (Act d ty op.Guard args fs ls) ≡ Act d ty op.Guard args fs ls → is_no (condition c) ≡ false → is_nothing c ≡ false → c ≡ Many
guard-undecided d ty args fs ls Nothing same passes some = absurd cc
guard-undecided d ty args fs ls (One v) same passes some = by (bool_of v) same passes
  where
    by : (b : Bool) → nop_or (Some b) (Act d ty op.Guard args fs ls) ≡ Act d ty op.Guard args fs ls → cond b false true ≡ false → One v ≡ Many
    by true s e = absurd (let h : Some op.Nop ≡ Some op.Guard = ap operation_of s in cc)
    by false s e = absurd cc
guard-undecided d ty args fs ls Many same passes some = refl

-- ---- the ways of an item whose condition isn't known

one-of : (A : Type 0) (x y : A) → In x (y ∷ []) → x ≡ y
one-of A x y (inl e) = e
one-of A x y (inr i) = absurd i

jump-way : (code : List Instr) (i : ℕ) (w : Branch) (ls : List ℕ) → length ls ≡ 2 → In w (map (jump code i) ls) → In w.to (point_of (slice_index ls 0) code ∷ point_of (slice_index ls 1) code ∷ [])
jump-way code i w [] e h = absurd h
jump-way code i w (a ∷ []) e h = absurd (omega arith)
jump-way code i w (a ∷ b ∷ []) e (inl s) = inl (ap (λ (z : Branch). z.to) s)
jump-way code i w (a ∷ b ∷ []) e (inr h) = inr (inl (ap (λ (z : Branch). z.to) (one-of Branch w (jump code i b) h)))
jump-way code i w (a ∷ b ∷ c ∷ ls) e h = absurd (omega arith)

abort-way : (code : List Instr) (i : ℕ) (w : Branch) (ls : List ℕ) → length ls ≡ 1 → In w (map (abort code i) ls) → w.to ≡ point_of (slice_index ls 0) code
abort-way code i w [] e h = absurd h
abort-way code i w (a ∷ []) e h = ap (λ (z : Branch). z.to) (one-of Branch w (abort code i a) h)
abort-way code i w (a ∷ b ∷ ls) e h = absurd (omega arith)

guard-way : (code : List Instr) (i : ℕ) (w : Branch) (ls : List ℕ) → length ls ≡ 1 → In w (onward i ∷ map (abort code i) ls) → In w.to (suc i ∷ point_of (slice_index ls 0) code ∷ [])
guard-way code i w ls e (inl s) = inl (ap (λ (z : Branch). z.to) s)
guard-way code i w ls e (inr h) = inr (inl (abort-way code i w ls e h))

-- a branch of an item that stays is one of its ways
pub way-there : (ret : Bool) (k : Knowledge) (code : List Instr) (i : ℕ) (a : Instr) (w : Branch) → is_shaped ret a ≡ true → folded_item k a ≡ a → never_passes k a ≡ false → ((x : Location) → In x (reads_of a) → is_nothing (k x) ≡ false) → In w (item_branches code i a) → In w.to (item_ways k code i a)
way-there ret k code i (Label l) w shaped same passes some h = inl (ap (λ (z : Branch). z.to) (one-of Branch w (onward i) h))
way-there ret k code i (Const d ty l) w shaped same passes some h = inl (ap (λ (z : Branch). z.to) (one-of Branch w (onward i) h))
way-there ret k code i (Act d ty op.Br args fs ls) w shaped same passes some h =
    let parts = shape-parts (shape_of ret op.Br) (is_some d) (length args) (length fs) (length ls) shaped in
    let c = jump-undecided d ty args fs ls (k (Variable (slice_index args 0))) same (some (Variable (slice_index args 0)) (first-read args parts.args_are)) in
    subst (λ z. In w.to (chosen z (point_of (slice_index ls 0) code) (point_of (slice_index ls 1) code))) (sym c) (jump-way code i w ls parts.labels_are h)
way-there ret k code i (Act d ty op.Guard args fs ls) w shaped same passes some h =
    let parts = shape-parts (shape_of ret op.Guard) (is_some d) (length args) (length fs) (length ls) shaped in
    let c = guard-undecided d ty args fs ls (k (Variable (slice_index args 0))) same passes (some (Variable (slice_index args 0)) (first-read args parts.args_are)) in
    subst (λ z. In w.to (chosen z (suc i) (point_of (slice_index ls 0) code))) (sym c) (guard-way code i w ls parts.labels_are h)
way-there ret k code i (Act d ty o args fs ls) w shaped same passes some h = in_map (λ (z : Branch). z.to) w (item_branches code i (Act d ty o args fs ls)) h

-- ---- what is learned

below-one : (k : Known) (v : Value) → is_nothing k ≡ false → IsBelow k (One v) → k ≡ One v
below-one Nothing v some h = absurd cc
below-one (One w) v some h = ap One h
below-one Many v some h = absurd h

writes-given : (a : Instr) (x : Location) (p : Locals) (v : Value) → In x (assigns_of a) → given a p ≡ Yields v → Writes (Some a) p v
writes-given (Label l) x p v i e = absurd i
writes-given (Const d ty l) x p v i e = e
writes-given (Act d ty op.Set args fs ls) x p v i e = let s : argument p args 1 ≡ v = cc in s
writes-given (Act d ty o args fs ls) x p v i e = e

module _ (P Q : Prog) (T : ℕ → Table) (t : Folded P Q T) where
  -- ---- the plan for walks

  abbrev pub folding : NamePlan
  folding = record {
    PointsMatch = λ f i j. i ≡ j;
    Matters = λ f i x. Unit {0};
    IsRegular = λ f i j. IsKept P Q T t f i;
    IsKnown = λ f i x v. ⊥;
  }

  abbrev pub walk_plan : Plan
  walk_plan = plan P Q folding

  keeps : KeepsNames P Q folding
  keeps = record {
    heads = t.heads;
    start = λ f. refl;
    same = λ f i j reached points regular. kept_tree P Q T t f i regular ∙ ap (tree_at Q f) points;
    next = λ f i j a reached points regular at stays. ap suc points;
    labels = λ f i j name reached at bt. label_once Q f i j name (sym (kept_tree P Q T t f i (label_kept P Q T t f i name at)) ∙ at) bt;
    reads = λ f i j a x reached points regular at h. tt;
    flows = λ f i w x reached among plain m none. tt;
    back = λ f w x walk is among aborts s sites same m. tt;
    known = knows_nothing P Q folding (λ f i x v h. h);
  }

  pub walks_preserve : IsAccepted P → Preserves walk_plan P Q
  walks_preserve accepted = names_preserve P Q folding accepted keeps

  -- ---- the plan for runs

  abbrev pub Visits : (f i : ℕ) → Type 0
  Visits f i = IsVisited (code_of P f) (T f) i

  abbrev pub Plain : (f i j : ℕ) → Type 0
  Plain f i j = (a : Instr) → item_at P f i ≡ Some a → never_passes (T f).known a ≡ false

  -- the location has one value by the table, and is live
  pub record IsTold (f i : ℕ) (x : Location) (v : Value) : Type 0 where
    pub function : Func
    pub there : slice_get P.funcs f ≡ Some function
    pub one : (T f).known x ≡ One v
    pub live : IsLive (code_of P f) x i

  abbrev pub run_plan : Plan
  run_plan = narrow walk_plan Visits Plain IsTold

  -- what is known of the function of an item
  pub record Facts (f : ℕ) (a : Instr) : Type 0 where
    pub function : Func
    pub there : slice_get P.funcs f ≡ Some function
    pub args : ℕ
    pub ret : Bool
    pub consistent : IsConsistent (code_of P f) args (T f)
    pub walks : AreWalksAccepted (code_of P f) args ret
    pub shaped : is_shaped ret a ≡ true

  module _ (accepted : IsAccepted P) where
    facts_of : (f : ℕ) (F : Func) → slice_get P.funcs f ≡ Some F → IsConsistent (code_of P f) F.args (T f)
    facts_of f F p = subst (λ code. IsConsistent code F.args (T f)) (sym (ap items_of p)) (t.least f F p).consistent

    pub facts : (f i : ℕ) (a : Instr) → item_at P f i ≡ Some a → Facts f a
    facts f i a at =
        let h = found_at P f i a at in
        let s = shaped_here P accepted f i a at in
        record {
          function = h.function;
          there = h.there;
          args = h.function.args;
          ret = is_some h.function.ret;
          consistent = facts_of f h.function h.there;
          walks = walks_of P accepted f h.function h.there;
          shaped = subst (λ b. is_shaped b a ≡ true) (s.returns ∙ ap (λ o. is_some (return_type o)) h.there) s.shaped;
        }

    -- what the item at a visited point reads is something
    pub some-here : (f i : ℕ) → Visits f i → (a : Instr) → item_at P f i ≡ Some a → (x : Location) → In x (reads_of a) → is_nothing ((T f).known x) ≡ false
    some-here f i v a at x h = let k = facts f i a at in reads-some (code_of P f) (T f) k.args k.ret k.walks k.consistent i v a at x h

    -- a way of the item leads to a visited point
    pub visits_on : (f i : ℕ) → Visits f i → (a : Instr) → item_at P f i ≡ Some a → (w : Branch) → In w (branches_at (code_of P f) i) → In w.to (item_ways (T f).known (code_of P f) i a) → Visits f w.to
    visits_on f i v a at w among way = record {
      walk = w ∷ v.walk;
      is = (contains_in w (branches_at (code_of P f) (end_of v.walk)) (subst (λ n. In w (branches_at (code_of P f) n)) (sym v.ends) among), v.is);
      ends = refl;
      along = (subst (λ n. (T f).reached n ≡ true) (sym v.ends) v.reached, v.along);
      reached = (facts f i a at).consistent.leads i a at v.reached w.to way;
    }

    some-item : (f i : ℕ) (w : Branch) → In w (branches_at (code_of P f) i) → (a : Instr) × (item_at P f i ≡ Some a)
    some-item f i w among = by (item_at P f i) refl among
      where
        by : (o : Option Instr) → item_at P f i ≡ o → In w (branches_from (code_of P f) i o) → (a : Instr) × (item_at P f i ≡ Some a)
        by None e h = absurd h
        by (Some a) e h = (a, e)

    kept-folded : (f i : ℕ) (a : Instr) → (T f).reached i ≡ true → becomes (T f) i a ≡ a → folded_item (T f).known a ≡ a
    kept-folded f i a e same = subst (λ b. cond b (folded_item (T f).known a) a ≡ a) e same

    visits : (f i j : ℕ) → Visits f i → IsKept P Q T t f i → Plain f i j → (w : Branch) → In w (branches_at (code_of P f) i) → Visits f w.to
    visits f i j v kept plain w among =
        let s = some-item f i w among in
        let k = facts f i s.0 s.1 in
        visits_on f i v s.0 s.1 w among
        (way-there k.ret (T f).known (code_of P f) i s.0 w k.shaped (kept-folded f i s.0 v.reached (kept s.0 s.1)) (plain s.0 s.1) (some-here f i v s.0 s.1) (subst (λ o. In w (branches_from (code_of P f) i o)) s.1 among))

    -- where what is told holds, so does the answer of the item
    pub told-gives : (f i : ℕ) (a : Instr) → item_at P f i ≡ Some a → (p : Locals) → HoldsKnown (IsTold f i) p → (v : Value) → answer (T f).known a ≡ One v → given a p ≡ Yields v
    told-gives f i a at p holds v e =
        let k = facts f i a at in
        gives-known k.ret (T f).known a v p k.shaped e (λ x w h one. holds x w (record { function = k.function; there = k.there; one = one; live = live-reads (code_of P f) i a x at h }))

    pub told-read : (f i : ℕ) (a : Instr) → item_at P f i ≡ Some a → (p : Locals) → HoldsKnown (IsTold f i) p → (x : Location) → In x (reads_of a) → (v : Value) → (T f).known x ≡ One v → value_at p x ≡ v
    told-read f i a at p holds x h v one = let k = facts f i a at in holds x v (record { function = k.function; there = k.there; one = one; live = live-reads (code_of P f) i a x at h })

    -- what is told after an item is learned there
    pub told-learned : (f i : ℕ) → Visits f i → (w : Branch) → In w (branches_at (code_of P f) i) → w.aborts ≡ false → (x : Location) (v : Value) → IsTold f w.to x v → IsLearned (item_at P f i) (IsTold f i) x v
    told-learned f i vis w among plain x v told = ⊎_elim assigned other (in_or_not x (assigns_at (item_at P f i)))
      where
        s : (a : Instr) × (item_at P f i ≡ Some a)
        s = some-item f i w among

        assigned : In x (assigns_at (item_at P f i)) → IsLearned (item_at P f i) (IsTold f i) x v
        assigned h =
            let a = s.0 in
            let k = facts f i a s.1 in
            let here : In x (assigns_of a) = subst (λ o. In x (assigns_at o)) s.1 h in
            let one : answer (T f).known a ≡ One v = below-one (answer (T f).known a) v (answer-some (T f).known a (some-here f i vis a s.1)) (subst (IsBelow (answer (T f).known a)) told.one (k.consistent.assigned i a s.1 vis.reached x here)) in
            inr (h, λ p holds. subst (λ o. Writes o p v) (sym s.1) (writes-given a x p v here (told-gives f i a s.1 p holds v one)))

        other : (In x (assigns_at (item_at P f i)) → ⊥) → IsLearned (item_at P f i) (IsTold f i) x v
        other n = inl (n, record { function = told.function; there = told.there; one = told.one; live = live-flows (code_of P f) i w x among plain told.live n })

    -- what is told after an abort was told at its site
    pub told-remembered : (f : ℕ) (w : Branch) (walk : List Branch) → IsWalk (code_of P f) walk → In w (branches_at (code_of P f) (end_of walk)) → w.aborts ≡ true → (s : ℕ) (sites : List ℕ) → sites_of (code_of P f) walk ≡ s ∷ sites → (x : Location) (v : Value) → IsTold f w.to x v → IsTold f s x v
    told-remembered f w walk is among aborts s sites e x v told = record { function = told.function; there = told.there; one = told.one; live = live-back (code_of P f) w x walk is among aborts s sites e told.live (site_assigns P accepted f walk s sites e) }

    told-start : (f : ℕ) (x : Location) (v : Value) → IsTold f 0 x v → ⊥
    told-start f x v told =
        let F = told.function in
        let walks = walks_of P accepted f F told.there in
        let i = live_assigned (code_of P f) F.args (is_some F.ret) walks x 0 told.live [] tt refl in
        let s = in_map_source Variable x (range_with_len 0 F.args) i in
        let high = range_high 0 F.args s.0 s.1 in
        let low : s.0 < F.args = omega arith in
        let e : One v ≡ Many = sym told.one ∙ ap (T f).known s.2 ∙ (facts_of f F told.there).arguments s.0 low in
        cc

    narrows : Narrows walk_plan Visits Plain IsTold P Q
    narrows = record {
      start = λ f. record { walk = []; is = tt; ends = refl; along = tt; reached = t.start f };
      start_known = λ f vs count x v told. absurd (told-start f x v told);
      visits = λ f i j reached points regular w among. visits f i j points.1 regular.0 regular.1 w among;
      learns = λ f i j reached points regular w among e x u told. told-learned f i points.1 w among e x u told;
      remembers = told-remembered;
    }

    pub runs_preserve : Preserves run_plan P Q
    runs_preserve = narrowed walk_plan Visits Plain IsTold P Q (walks_preserve accepted) narrows
