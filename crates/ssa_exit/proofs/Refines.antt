-- A program whose shadows became variables refines the one that it is made from: both make the same steps, and a shadow holds
-- what the variable does that stands for it.
use Rattle.std.proofs.Common.{◌≡◌, ℕ, suc, ◌<◌, false, List, [], ◌∷◌, length, pos, Option, Some, None, refl, sym, ap, subst, ◌∙◌, inl, inr, ⊎_elim, arith}
use Rattle.std.specs.Prelude.{slice_get, unwrap_or}
use Rattle.std.specs.List.{AllZip}
use Rattle.std.proofs.lemmas.Bool.{cases_eq, cases_lt}
use Rattle.bril_tree.specs.declared.function_tree.Item.TheVariants as item
use Rattle.bril_tree.specs.declared.limits.Limits.{Limits}
use Rattle.bril_tree.specs.declared.numbered.Instr.{Instr}
use Rattle.bril_tree.specs.declared.numbered.Instr.TheVariants.{Label, Const, Act}
use Rattle.bril_tree.specs.declared.numbered_function.Func.{Func}
use Rattle.bril_tree.specs.declared.operation.Op.TheVariants as op
use Rattle.bril_tree.specs.declared.program.Prog.{Prog}
use Rattle.bril_tree.specs.declared.types.Ty.{Ty}
use Rattle.bril_tree.specs.declared.value.Value.{Value}
use Rattle.bril_tree.specs.declared.value.Value.TheVariants.{Int}
use Rattle.bril_tree.specs.Accepted.{IsAccepted}
use Rattle.bril_tree.specs.Assigned.{assigns_at}
use Rattle.bril_tree.specs.Locals.{value_at}
use Rattle.bril_tree.specs.Membership.{In}
use Rattle.bril_tree.specs.Numbered.{named, names_in, names_of_functions, nop, tree_at, variable_names}
use Rattle.bril_tree.specs.Operand.{Location, Variable, Shadow}
use Rattle.bril_tree.specs.Outcome.{argument}
use Rattle.bril_tree.specs.Run.{Refines, types_of}
use Rattle.bril_tree.specs.State.{Locals, State, read, no_values}
use Rattle.bril_tree.specs.Step.{assigned, code_of, item_at, new_frame, shadowed, step}
use Rattle.bril_tree.specs.Walk.{IsReached}
use Rattle.bril_tree.proofs.HeldValues.{arguments-past}
use Rattle.bril_tree.proofs.Trees.{found_at, nop-at, nothing_at}
use Rattle.bril_names.proofs.Naming.{one_number}
use Rattle.pass_edit_laws.specs.plan.Plan.{Plan, Preserves, StatesMatch, StaysMatched, ValuesMatch}
use Rattle.pass_edit_laws.specs.plan.Widening.{wide, Widens}
use Rattle.pass_edit_laws.proofs.lemmas.plan.Values.{agree-assigned, assigned-other, assigned-same, shadowed-other, shadowed-same}
use Rattle.pass_edit_laws.proofs.lemmas.plan.Widening.{kept-wider, widened}
use Rattle.pass_edit_laws.specs.steps.Refinement.{BothMove, CatchUp, Progress}
use Rattle.pass_edit_laws.proofs.lemmas.steps.Moves.{both_move}
use Rattle.pass_edit_laws.proofs.lemmas.steps.Refinement.{plan_refines}
use Rattle.pass_edit_laws.specs.names.Named.{SameLocation}
use Rattle.pass_edit_laws.specs.names.NamedPlan.{KeepsNames, NamePlan, plan}
use Rattle.pass_edit_laws.proofs.lemmas.names.Heads.{first_names, many, partner}
use Rattle.pass_edit_laws.proofs.lemmas.names.Locations.{kept-apart, to_left}
use Rattle.pass_edit_laws.proofs.lemmas.names.Points.{Differ-in, found, label_once}
use Rattle.pass_edit_laws.proofs.lemmas.names.Preserving.{knows_nothing, names_preserve, own_tree}
use Rattle.pass_edit_laws.proofs.lemmas.names.Renaming.{items_share}
use Rattle.ssa_exit.specs.Unssaed.{names_a_shadow}
use Rattle.ssa_exit.proofs.Items.{IsVariable, assigns_variables, copy_there, in_variables, names-long, reads_variables}
use Rattle.ssa_exit.proofs.Points.{Unssaed, Kind, Stays, Gets, Sets, kind, kept, new-name, Got, Copied, Undefined, got, Put, Given, Gone, put, reached-written}
use Rattle.ssa_exit.proofs.Variables.{none-stands}

module _ (P Q : Prog) (fresh : ℕ → ℕ → List ℕ) (accepted : IsAccepted P) (t : Unssaed P Q fresh) where
  -- Both stand at the same point. Variables of one name match, and both make the same step at what names no shadow.
  abbrev pub by_names : NamePlan
  by_names = record {
    PointsMatch = λ f i j. i ≡ j;
    Matters = λ f i x. IsVariable x;
    IsRegular = λ f i j. names_a_shadow (item_at P f i) ≡ false;
    IsKnown = λ f i x v. ⊥;
  }

  abbrev V : ℕ → List (List ℕ)
  V f = names_in (slice_get P.funcs f)

  abbrev W : ℕ → List (List ℕ)
  W f = names_in (slice_get Q.funcs f)

  -- a shadow matches the variable that stands for it
  abbrev pub Stands : (f i j : ℕ) → Location → Location → Type 0
  Stands f i j (Variable x) b = ⊥
  Stands f i j (Shadow x) (Variable y) = (x < length (V f)) × (y < length (W f)) × (named (W f) y ≡ fresh f x)
  Stands f i j (Shadow x) (Shadow y) = ⊥

  abbrev pub unssa_plan : Plan
  unssa_plan = wide (plan P Q by_names) Stands

  abbrev N : Plan
  N = plan P Q by_names

  abbrev M : Plan
  M = unssa_plan

  -- ---- names

  -- the function of a point, where it has variables
  function-of : (f x : ℕ) → x < length (V f) → (F : Func) × (slice_get P.funcs f ≡ Some F)
  function-of f x low = by (slice_get P.funcs f) refl
    where
      by : (o : Option Func) → slice_get P.funcs f ≡ o → (F : Func) × (slice_get P.funcs f ≡ Some F)
      by None e = absurd (let n : length (V f) ≡ 0 = ap (λ o. length (names_in o)) e in omega (arith, n))
      by (Some F) e = (F, e)

  -- what stands for a shadow has no name of P
  new : (f x y : ℕ) → x < length (V f) → y < length (V f) → fresh f x ≡ named (V f) y → ⊥
  new f x y low high e =
      let s = function-of f x low in
      let same : V f ≡ variable_names s.0.vars = ap names_in s.1 in
      new-name P Q fresh t f s.0 s.1 x y (subst (λ l. x < length l) same low) (subst (λ l. y < length l) same high) (subst (λ l. fresh f x ≡ named l y) same e)

  -- and for no two shadows is it one
  differ : (f x y : ℕ) → x < length (V f) → y < length (V f) → fresh f x ≡ fresh f y → x ≡ y
  differ f x y low high e =
      let s = function-of f x low in
      let same : V f ≡ variable_names s.0.vars = ap names_in s.1 in
      (t.are f s.0 s.1).differ x y (subst (λ l. x < length l) same low) (subst (λ l. y < length l) same high) e

  -- ---- the plan by names

  label_stays : (f i : ℕ) (name : List ℕ) → tree_at P f i ≡ Some (item.Label name) → names_a_shadow (item_at P f i) ≡ false
  label_stays f i name at = by (item_at P f i) refl
    where
      by : (o : Option Instr) → item_at P f i ≡ o → names_a_shadow (item_at P f i) ≡ false
      by None here = ap names_a_shadow here
      by (Some (Label l)) here = ap names_a_shadow here
      by (Some (Const d ty v)) here = ap names_a_shadow here
      by (Some (Act d ty o args fns ls)) here = absurd (let h = sym (found P f i (Act d ty o args fns ls) here).tree ∙ at in cc)

  keeps : KeepsNames P Q by_names
  keeps = record {
    heads = t.heads;
    start = λ f. refl;
    same = λ f i j reached points regular. kept P Q fresh t f i regular ∙ ap (tree_at Q f) points;
    next = λ f i j a reached points regular at stays. ap suc points;
    labels = λ f i j name reached at bt. label_once Q f i j name (sym (kept P Q fresh t f i (label_stays f i name at)) ∙ at) bt;
    reads = λ f i j a x reached points regular at h. reads_variables a x (subst (λ o. names_a_shadow o ≡ false) at regular) h;
    flows = λ f i w x reached h e m n. m;
    back = λ f w x walk is h e s sites same m. m;
    known = knows_nothing P Q by_names (λ f i a v h. h);
  }

  named-preserves : Preserves N P Q
  named-preserves = names_preserve P Q by_names accepted keeps

  -- ---- the plan with what stands for shadows

  apart : (f : ℕ) (a b c d : Location) → Stands f 0 0 a b → SameLocation (V f) (W f) c d → d ≡ b → ⊥
  apart f (Variable x) b c d h k e = h
  apart f (Shadow x) (Shadow y) c d h k e = h
  apart f (Shadow x) (Variable y) (Variable z) (Variable u) h k e = let s : u ≡ y = cc in new f x z h.0 k.0 (sym h.2 ∙ sym (ap (named (W f)) s) ∙ sym k.2)
  apart f (Shadow x) (Variable y) (Variable z) (Shadow u) h k e = k
  apart f (Shadow x) (Variable y) (Shadow z) (Variable u) h k e = k
  apart f (Shadow x) (Variable y) (Shadow z) (Shadow u) h k e = cc

  -- what stands for a shadow is in no list of locations that have one name
  not_among : (f : ℕ) (a b : Location) → Stands f 0 0 a b → (ps qs : List Location) → AllZip (SameLocation (V f) (W f)) ps qs → In b qs → ⊥
  not_among f a b h [] [] z i = i
  not_among f a b h [] (q ∷ qs) z i = z
  not_among f a b h (p ∷ ps) [] z i = z
  not_among f a b h (p ∷ ps) (q ∷ qs) z (inl e) = apart f a b p q h z.0 (sym e)
  not_among f a b h (p ∷ ps) (q ∷ qs) z (inr i) = not_among f a b h ps qs z.1 i

  no_variable : (f : ℕ) (a b : Location) → Stands f 0 0 a b → IsVariable a → ⊥
  no_variable f (Variable x) b h v = h
  no_variable f (Shadow x) b h v = v

  assigned-zip : (f i j : ℕ) → IsReached (code_of P f) i → i ≡ j → names_a_shadow (item_at P f i) ≡ false → (o u : Option Instr) → item_at P f i ≡ o → item_at Q f j ≡ u → AllZip (SameLocation (V f) (W f)) (assigns_at o) (assigns_at u)
  assigned-zip f i j reached points regular None None at bt = tt
  assigned-zip f i j reached points regular None (Some b) at bt = absurd (let h = sym (nothing_at P f i at) ∙ keeps.same f i j reached points regular ∙ (found Q f j b bt).tree in cc)
  assigned-zip f i j reached points regular (Some a) None at bt = absurd (let h = sym (nothing_at Q f j bt) ∙ sym (keeps.same f i j reached points regular) ∙ (found P f i a at).tree in cc)
  assigned-zip f i j reached points regular (Some a) (Some b) at bt =
      (items_share P Q accepted t.heads.names f i j (V f) refl (by_names.Matters f i) (own_tree (names_of_functions P.funcs) (slice_get P.funcs f) i ∙ keeps.same f i j reached points regular) a b at bt (λ z m. keeps.reads f i j a z reached points regular at m)).assigns

  -- what stands for a shadow is no argument
  past : (f : ℕ) (vs : List Value) → length vs ≡ length (types_of (slice_get P.funcs f)) → (x y : ℕ) → Stands f 0 0 (Shadow x) (Variable y) → None ≡ (new_frame f vs).locations.vars y
  past f vs count x y h = ⊎_elim inside (λ l. sym (arguments-past 0 vs no_values y (omega arith))) (cases_lt y (length vs))
    where
      inside : y < length vs → None ≡ (new_frame f vs).locations.vars y
      inside l =
          let s = function-of f x h.0 in
          let F = s.0 in
          let g = partner P Q t.heads f F s.1 in
          let all = many P Q t.heads f F g.0 s.1 g.1 vs (subst (λ o. length vs ≡ length (types_of o)) s.1 count) in
          let names : named (V f) y ≡ named (W f) y = ap (λ o. named (names_in o) y) s.1 ∙ first_names P Q t.heads f F g.0 s.1 g.1 y (omega (arith, all)) ∙ sym (ap (λ o. named (names_in o) y) g.1) in
          let few = F.formed.few_args in
          let size : length (V f) ≡ length F.vars = ap (λ o. length (names_in o)) s.1 ∙ names-long P f F s.1 in
          absurd (new f x y h.0 (omega (arith, size, all)) (sym h.2 ∙ sym names))

  widens : Widens N Stands P Q
  widens = record {
    fresh = λ f vs count a b h. first f vs count a b h;
    kept = λ f i j reached points regular w v iw iv e a b h. inr (
      (λ k. no_variable f a b h (assigns_variables (item_at P f i) a regular k)),
      (λ k. not_among f a b h (assigns_at (item_at P f i)) (assigns_at (item_at Q f j)) (assigned-zip f i j reached points regular _ _ refl refl) k),
      inr h,
    );
    back = λ f i j reached points regular w v iw iv e walk is ends s u sites es bs rg a b h. inr h;
  }
    where
      first : (f : ℕ) (vs : List Value) → length vs ≡ length (types_of (slice_get P.funcs f)) → (a b : Location) → Stands f 0 0 a b → value_at (new_frame f vs).locations a ≡ value_at (new_frame f vs).locations b
      first f vs count (Variable x) b h = absurd h
      first f vs count (Shadow x) (Variable y) h = ap (λ (o : Option Value). unwrap_or o (Int (pos 0))) (past f vs count x y h)
      first f vs count (Shadow x) (Shadow y) h = absurd h

  pub preserves : Preserves unssa_plan P Q
  preserves = widened N Stands P Q named-preserves widens

  -- ---- a `get`

  module _ (f i : ℕ) (p q : Locals) (agree : ValuesMatch (M.LocationsMatch f i i) p q) where
    got-agrees : (x d s : ℕ) → x < length (V f) → d < length (W f) → named (V f) x ≡ named (W f) d → s < length (W f) → named (W f) s ≡ fresh f x
        → ValuesMatch (M.LocationsMatch f i i) (assigned (Some x) (read p.shadows x) p) (assigned (Some d) (argument q (s ∷ []) 0) q)
    got-agrees x d s xl dl xd sl sx =
        let same : read p.shadows x ≡ read q.vars s = agree (Shadow x) (Variable s) (inr (xl, sl, sx)) in
        subst (λ v. ValuesMatch (M.LocationsMatch f i i) (assigned (Some x) (read p.shadows x) p) (assigned (Some d) v q)) same
        (agree-assigned (M.LocationsMatch f i i) (M.LocationsMatch f i i) p q agree (Some x) (Some d) (read p.shadows x) refl stays)
      where
        stays : (a b : Location) → M.LocationsMatch f i i a b → StaysMatched (Variable x ∷ []) (Variable d ∷ []) (M.LocationsMatch f i i) a b
        stays a b h = ⊎_elim by_name stood h
          where
            zip : AllZip (SameLocation (V f) (W f)) (Variable x ∷ []) (Variable d ∷ [])
            zip = ((xl, dl, xd), tt)

            by_name : N.LocationsMatch f i i a b → StaysMatched (Variable x ∷ []) (Variable d ∷ []) (M.LocationsMatch f i i) a b
            by_name s = kept-wider N Stands (Variable x ∷ []) (Variable d ∷ []) (N.LocationsMatch f i i) (M.LocationsMatch f i i) a b (λ z. inl z)
                (kept-apart (V f) (W f) (Differ-in (slice_get Q.funcs f)) IsVariable (Variable x ∷ []) (Variable d ∷ []) zip a b s.0 (λ n. s.1) (to_left (V f) (W f) (Differ-in (slice_get P.funcs f)) a b s.0 (Variable x ∷ []) (Variable d ∷ []) zip))

            stood : Stands f i i a b → StaysMatched (Variable x ∷ []) (Variable d ∷ []) (M.LocationsMatch f i i) a b
            stood s = inr ((λ k. no_variable f a b s (in_variables (x ∷ []) a k)), (λ k. not_among f a b s (Variable x ∷ []) (Variable d ∷ []) zip k), inr s)

    -- ---- a `set`

    module _ (x y : ℕ) where
      put-agrees : (d s : ℕ) → d < length (W f) → named (W f) d ≡ fresh f x → y < length (V f) → s < length (W f) → named (V f) y ≡ named (W f) s → x < length (V f)
          → ValuesMatch (M.LocationsMatch f i i) (shadowed x (read p.vars y) p) (assigned (Some d) (argument q (s ∷ []) 0) q)
      put-agrees d s dl dx yl sl ys xl a b h = by a b h
        where
          same : read p.vars y ≡ read q.vars s
          same = agree (Variable y) (Variable s) (inl ((yl, sl, ys), tt))

          by : (a b : Location) → M.LocationsMatch f i i a b → value_at (shadowed x (read p.vars y) p) a ≡ value_at (assigned (Some d) (read q.vars s) q) b
          by (Variable u) (Variable v) (inl h) =
              agree (Variable u) (Variable v) (inl h) ∙ sym (assigned-other d (read q.vars s) q (Variable v) (λ e. apart f (Shadow x) (Variable d) (Variable u) (Variable v) (xl, dl, dx) h.0 e))
          by (Variable u) (Variable v) (inr h) = absurd h
          by (Variable u) (Shadow v) (inl h) = absurd h.0
          by (Variable u) (Shadow v) (inr h) = absurd h
          by (Shadow u) (Shadow v) (inl h) = absurd h.1
          by (Shadow u) (Shadow v) (inr h) = absurd h
          by (Shadow u) (Variable v) (inl h) = absurd h.0
          by (Shadow u) (Variable v) (inr h) = ⊎_elim here other (cases_eq u x)
            where
              here : u ≡ x → value_at (shadowed x (read p.vars y) p) (Shadow u) ≡ value_at (assigned (Some d) (read q.vars s) q) (Variable v)
              here e =
                  let one : v ≡ d = one_number (W f) (Differ-in (slice_get Q.funcs f)) v d h.1 dl (h.2 ∙ ap (fresh f) e ∙ sym dx) in
                  shadowed-same x (read p.vars y) p (Shadow u) (ap Shadow e) ∙ same ∙ sym (assigned-same d (read q.vars s) q (Variable v) (ap Variable one))

              other : (u ≡ x → ⊥) → value_at (shadowed x (read p.vars y) p) (Shadow u) ≡ value_at (assigned (Some d) (read q.vars s) q) (Variable v)
              other n =
                  shadowed-other x (read p.vars y) p (Shadow u) (λ e. n (cc)) ∙ agree (Shadow u) (Variable v) (inr h)
                  ∙ sym (assigned-other d (read q.vars s) q (Variable v) (λ e. let one : v ≡ d = cc in n (differ f u x h.0 xl (sym h.2 ∙ ap (named (W f)) one ∙ dx))))

      unread : ((z : ℕ) → z < length (W f) → named (W f) z ≡ fresh f x → ⊥) → ValuesMatch (M.LocationsMatch f i i) (shadowed x (read p.vars y) p) q
      unread none (Variable u) b h = agree (Variable u) b h
      unread none (Shadow u) (Shadow v) (inl h) = absurd h.1
      unread none (Shadow u) (Shadow v) (inr h) = absurd h
      unread none (Shadow u) (Variable v) (inl h) = absurd h.0
      unread none (Shadow u) (Variable v) (inr h) =
          shadowed-other x (read p.vars y) p (Shadow u) (λ e. let s : u ≡ x = cc in none v h.1 (h.2 ∙ ap (fresh f) s)) ∙ agree (Shadow u) (Variable v) (inr h)

  -- ---- states

  module _ (limits : Limits) (s u : State) (r : StatesMatch M P Q s u) (runs : s.ended ≡ None) where
    abbrev f : ℕ
    f = r.frame.function

    abbrev i : ℕ
    i = r.frame.point

    abbrev Next : Type 0
    Next = StatesMatch M P Q (step P limits s) (step Q limits u)

    reached : IsReached (code_of P f) i
    reached = record { walk = r.newest.contents.walk; is = r.newest.contents.is; ends = r.newest.contents.ends }

    there : item_at Q r.result_frame.function r.result_frame.point ≡ item_at Q f i
    there = ap (λ n. item_at Q n r.result_frame.point) (sym r.newest.function) ∙ ap (item_at Q f) (sym r.newest.contents.points)

    agree : ValuesMatch (M.LocationsMatch f i i) r.frame.locations r.result_frame.locations
    agree = r.newest.contents.locations

    module _ (F : Func) (p : slice_get P.funcs f ≡ Some F) where
      names-in : variable_names F.vars ≡ V f
      names-in = sym (ap names_in p)

      gets : (x : ℕ) (ty : Ty) (args fns ls : List ℕ) → item_at P f i ≡ Some (Act (Some x) (Some ty) op.Get args fns ls) → Next
      gets x ty args fns ls at = by (got P Q fresh t f F p i x ty args fns ls at)
        where
          by : Got P Q fresh t f F p i x ty → Next
          by (Copied w tree) =
              let c = copy_there Q f i (named (variable_names F.vars) x) ty (fresh f x) tree in
              let low = (found P f i _ at).range.variables.0 in
              both_move M P Q limits accepted preserves s u r runs (Act (Some x) (Some ty) op.Get args fns ls) (Act (Some c.dest) (Some ty) op.Id (c.source ∷ []) [] []) at (there ∙ c.at) refl refl
              (assigned (Some x) (read r.frame.locations.shadows x) r.frame.locations) (assigned (Some c.dest) (argument r.result_frame.locations (c.source ∷ []) 0) r.result_frame.locations) (λ older v. refl) (λ older v. refl) (ap suc r.newest.contents.points)
              (got-agrees f i r.frame.locations r.result_frame.locations agree x c.dest c.source low c.dest_in (ap (λ l. named l x) (sym names-in) ∙ sym c.dest_is) c.source_in c.source_is) (λ k v known. absurd known)
          by (Undefined w tree) = absurd (let h = sym w ∙ reached-written P Q fresh t f F p i accepted reached x (Some ty) args fns ls at in cc)

      sets : (ty : Option Ty) (x y : ℕ) (fns ls : List ℕ) → item_at P f i ≡ Some (Act None ty op.Set (x ∷ y ∷ []) fns ls) → Next
      sets ty x y fns ls at = by (put P Q fresh t f F p i ty x y fns ls at)
        where
          range : (x < length (V f)) × (y < length (V f))
          range = let b = (found P f i _ at).range.variables in (b.0, b.1.0)

          by : Put P Q fresh t f F p i x y → Next
          by (Given sty typed tree) =
              let c = copy_there Q f i (fresh f x) sty (named (variable_names F.vars) y) tree in
              both_move M P Q limits accepted preserves s u r runs (Act None ty op.Set (x ∷ y ∷ []) fns ls) (Act (Some c.dest) (Some sty) op.Id (c.source ∷ []) [] []) at (there ∙ c.at) refl refl
              (shadowed x (read r.frame.locations.vars y) r.frame.locations) (assigned (Some c.dest) (argument r.result_frame.locations (c.source ∷ []) 0) r.result_frame.locations) (λ older v. refl) (λ older v. refl) (ap suc r.newest.contents.points)
              (put-agrees f i r.frame.locations r.result_frame.locations agree x y c.dest c.source c.dest_in c.dest_is range.1 c.source_in (ap (λ l. named l y) (sym names-in) ∙ sym c.source_is) range.0) (λ k v known. absurd known)
          by (Gone none tree) =
              let g = partner P Q t.heads f F p in
              let size : length (V f) ≡ length F.vars = ap length (sym names-in) ∙ names-long P f F p in
              let unstood : (z : ℕ) → z < length (W f) → named (W f) z ≡ fresh f x → ⊥ = λ z low e.
              none-stands P Q fresh accepted t f F g.0 p g.1 x (omega (arith, size, range.0)) none z (subst (λ n. z < n) (ap (λ o. length (names_in o)) g.1 ∙ names-long Q f g.0 g.1) low) (sym (ap (λ o. named (names_in o) z) g.1) ∙ e) in
              both_move M P Q limits accepted preserves s u r runs (Act None ty op.Set (x ∷ y ∷ []) fns ls) nop at (there ∙ nop-at Q f i tree) refl refl
              (shadowed x (read r.frame.locations.vars y) r.frame.locations) r.result_frame.locations (λ older v. refl) (λ older v. refl) (ap suc r.newest.contents.points)
              (unread f i r.frame.locations r.result_frame.locations agree x y unstood) (λ k v known. absurd known)

    progress : Progress M P Q limits 1 (λ z. 0) s u
    progress = by (kind P accepted f i)
      where
        both : Next → Progress M P Q limits 1 (λ z. 0) s u
        both next = BothMove (record { early = 0; moves = 0; within = omega arith; quiet = refl; running = runs; again = inl next })

        by : Kind (item_at P f i) → Progress M P Q limits 1 (λ z. 0) s u
        by (Stays e) = CatchUp 0 (omega arith) (record { count = 0; few = omega arith; matched = r; regular = e })
        by (Gets x ty args fns ls at) = let h = found_at P f i _ at in both (gets h.function h.there x ty args fns ls at)
        by (Sets ty x y fns ls at) = let h = found_at P f i _ at in both (sets h.function h.there ty x y fns ls at)

  pub unssaed-refines : Refines P Q 1
  unssaed-refines = plan_refines (λ _ _. unssa_plan) P Q 1 accepted preserves (omega arith) (λ limits. record { distance = λ z. 0; progress = progress limits })
