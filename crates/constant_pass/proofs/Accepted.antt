-- A folded program is accepted: each walk of the result is one of the program, and each literal has the type of its variable.
use Rattle.std.proofs.Common.{◌≡◌, ◌⊎◌, ℕ, suc, ◌<◌, Bool, true, false, cond, ◌&&◌, List, [], ◌∷◌, ◌++◌, length, map, Option, Some, None, refl, sym, ap, subst, ◌∙◌, inl, inr, ⊎_elim, arith}
use Rattle.std.specs.Prelude.{slice_get, slice_index, is_some}
use Rattle.std.proofs.lemmas.Option.{same_Some}
use Rattle.bril_tree.specs.declared.numbered.Instr.{Instr}
use Rattle.bril_tree.specs.declared.numbered.Instr.TheVariants.{Label, Const, Act}
use Rattle.bril_tree.specs.declared.numbered_function.Func.{Func}
use Rattle.bril_tree.specs.declared.operation.Op.TheVariants as op
use Rattle.bril_tree.specs.declared.program.Prog.{Prog}
use Rattle.bril_tree.specs.declared.types.Ty.{Ty}
use Rattle.bril_tree.specs.declared.value.Lit.{Lit}
use Rattle.bril_tree.specs.Accepted.{IsAccepted, IsAcceptedFunction}
use Rattle.bril_tree.specs.Assigned.{assigned_of, assigns_of}
use Rattle.bril_tree.specs.Edge.{Branch, branches_at, branches_from, item_branches, onward, jump}
use Rattle.bril_tree.specs.FunctionForm.{listed}
use Rattle.bril_tree.specs.Membership.{In}
use Rattle.bril_tree.specs.Numbered.{named, names_in, nop, variable_names}
use Rattle.bril_tree.specs.Operand.{Location, Variable, dest_of}
use Rattle.bril_tree.specs.Outcome.{bool_of}
use Rattle.bril_tree.specs.Shape.{is_shaped, shape_of}
use Rattle.bril_tree.specs.Sites.{Keeps, item_change}
use Rattle.bril_tree.specs.Step.{code_of, items_of, item_at, point_of}
use Rattle.bril_tree.specs.Typing.{both_typed, same_type, is_dest_typed, is_literal_typed, type_fault, variable_type, wrong_unless}
use Rattle.bril_tree.specs.Value.{literal_value}
use Rattle.bril_tree.specs.Walk.{IsWalk, end_of}
use Rattle.bril_tree.proofs.Acceptance.{accepted_function, shaped_at, typed_at}
use Rattle.bril_tree.proofs.Elements.{in_index}
use Rattle.bril_tree.proofs.Members.{in_append_left, in_map}
use Rattle.bril_tree.proofs.Outcomes.{giver-goes_on}
use Rattle.bril_tree.proofs.Shapes.{dest_none, shape-parts}
use Rattle.bril_tree.proofs.Trees.{nothing_at}
use Rattle.bril_tree.proofs.Typings.{IsDestination, both_typed-is, type_of}
use Rattle.bril_names.proofs.Naming.{one_number}
use Rattle.pass_edit_laws.specs.acceptance.Edited.{IsNew, IsOld, Edits}
use Rattle.pass_edit_laws.proofs.lemmas.acceptance.Alone.{both_along}
use Rattle.pass_edit_laws.proofs.lemmas.acceptance.Edited.{bare-new, nop-new, edit_accepted}
use Rattle.pass_edit_laws.proofs.lemmas.acceptance.Heads.{start_matched}
use Rattle.pass_edit_laws.proofs.lemmas.acceptance.Left.{dest-there}
use Rattle.pass_edit_laws.specs.names.Named.{SameName, SameLocation}
use Rattle.pass_edit_laws.proofs.lemmas.names.Points.{found, Differ-in, same_name-in}
use Rattle.pass_edit_laws.specs.plan.Plan.{Plan, StaysMatched}
use Rattle.pass_edit_laws.specs.walks.Matched.{Covers, MatchedWalk, IsHarmless, MatchesWalks}
use Rattle.pass_edit_laws.proofs.lemmas.walks.Items.{harmless_item}
use Rattle.pass_edit_laws.proofs.lemmas.walks.Under.{Keeping}
use Rattle.pass_edit_laws.proofs.lemmas.walks.Walks.{regular_branch_matched}
use Rattle.type_soundness.proofs.Locals.{act-typed, both-parts}
use Rattle.constant_pass.specs.declared.constants.known.Known.TheVariants.{One}
use Rattle.constant_pass.specs.constants.Answer.{answer, locals_of}
use Rattle.constant_pass.specs.constants.Consistent.{Table}
use Rattle.constant_pass.specs.Items.{jump_to}
use Rattle.constant_pass.specs.Folded.{becomes}
use Rattle.constant_pass.proofs.Fates.{Fate, Stays, Folds, Jumps, Passes, fate_at, literal-one, one-answer, given-outcome}
use Rattle.constant_pass.proofs.Plans.{folding, walk_plan, walks_preserve}
use Rattle.constant_pass.proofs.Points.{Folded, IsKept, kept_tree, const_there, const_name, jump_there, nop_there}
use Rattle.constant_pass.proofs.Refines.{only-name}
use Rattle.constant_pass.proofs.Typed.{is_typed, answer-typed, least-typed, literal-fits}

-- ---- types

dest-typed-at : (p : Prog) (f : Func) (a : Instr) (x : ℕ) → is_shaped (is_some f.ret) a ≡ true → type_fault p f a ≡ None → dest_of a ≡ Some x → is_dest_typed p f (Some x) (type_of a) ≡ true
dest-typed-at p f (Label l) x shaped fault d = absurd cc
dest-typed-at p f (Const y ty l) x shaped fault d = subst (λ o. is_dest_typed p f o (Some ty) ≡ true) d (both-parts (is_dest_typed p f (Some y) (Some ty)) (is_literal_typed l ty) fault).0
dest-typed-at p f (Act y ty o args fs ls) x shaped fault d = subst (λ z. is_dest_typed p f z ty ≡ true) d (act-typed p f o y ty args fs ls shaped fault).dest_typed

assigns-dest : (ret : Bool) (a : Instr) (x : ℕ) → is_shaped ret a ≡ true → dest_of a ≡ Some x → In (Variable x) (assigns_of a)
assigns-dest ret (Label l) x s d = absurd cc
assigns-dest ret (Const y ty l) x s d = let e : y ≡ x = cc in inl (ap Variable (sym e))
assigns-dest ret (Act None ty o args fs ls) x s d = absurd cc
assigns-dest ret (Act (Some y) ty op.Set args fs ls) x s d = absurd cc
assigns-dest ret (Act (Some y) ty o args fs ls) x s d = let e : y ≡ x = cc in inl (ap Variable (sym e))

all-right : (a b : Bool) → a ≡ true → b ≡ true → wrong_unless (a && b) ≡ None
all-right a b ea eb = ap (λ z. wrong_unless (z && b)) ea ∙ ap wrong_unless eb

module _ (P Q : Prog) (T : ℕ → Table) (accepted : IsAccepted P) (t : Folded P Q T) (f : ℕ) (F G : Func) (p : slice_get P.funcs f ≡ Some F) (q : slice_get Q.funcs f ≡ Some G) where
  abbrev M : Plan
  M = walk_plan P Q T t

  abbrev V : List (List ℕ)
  V = names_in (slice_get P.funcs f)

  abbrev W : List (List ℕ)
  W = names_in (slice_get Q.funcs f)

  fact : IsAcceptedFunction P F
  fact = accepted_function P f F accepted p

  pub here : (i : ℕ) (a : Instr) → item_at P f i ≡ Some a → slice_get F.code i ≡ Some a
  here i a at = ap (λ o. slice_get (items_of o) i) (sym p) ∙ at

  pub shaped : (i : ℕ) (a : Instr) → item_at P f i ≡ Some a → is_shaped (is_some F.ret) a ≡ true
  shaped i a at = shaped_at P F fact i a (here i a at)

  one_left : (x y : ℕ) → x < length V → y < length V → named V x ≡ named V y → x ≡ y
  one_left = one_number V (Differ-in (slice_get P.funcs f))

  pub one_right : (x y : ℕ) → x < length W → y < length W → named W x ≡ named W y → x ≡ y
  one_right = one_number W (Differ-in (slice_get Q.funcs f))

  pub kept_by : (i : ℕ) (a : Instr) → item_at P f i ≡ Some a → becomes (T f) i a ≡ a → IsKept P Q T t f i
  kept_by i a at same c e = subst (λ z. becomes (T f) i z ≡ z) (same_Some a c (sym at ∙ e)) same

  -- ---- operations that were rewritten

  two-low : (ls : List ℕ) (b : Bool) → length ls ≡ 2 → cond b 0 1 < length ls
  two-low ls true e = omega (arith, e)
  two-low ls false e = omega (arith, e)

  pub br_label : (i : ℕ) (d : Option ℕ) (ty : Option Ty) (args fs ls : List ℕ) (b : Bool) → item_at P f i ≡ Some (Act d ty op.Br args fs ls) → In (slice_index ls (cond b 0 1)) ls
  br_label i d ty args fs ls b at = in_index ls (cond b 0 1) (two-low ls b (shape-parts (shape_of (is_some F.ret) op.Br) (is_some d) (length args) (length fs) (length ls) (shaped i (Act d ty op.Br args fs ls) at)).labels_are)

  pub br_dest : (i : ℕ) (d : Option ℕ) (ty : Option Ty) (args fs ls : List ℕ) → item_at P f i ≡ Some (Act d ty op.Br args fs ls) → d ≡ None
  br_dest i d ty args fs ls at = dest_none (shape_of (is_some F.ret) op.Br) d (length args) (length fs) (length ls) refl (shaped i (Act d ty op.Br args fs ls) at)

  pub guard_dest : (i : ℕ) (d : Option ℕ) (ty : Option Ty) (args fs ls : List ℕ) → item_at P f i ≡ Some (Act d ty op.Guard args fs ls) → d ≡ None
  guard_dest i d ty args fs ls at = dest_none (shape_of (is_some F.ret) op.Guard) d (length args) (length fs) (length ls) refl (shaped i (Act d ty op.Guard args fs ls) at)

  -- ---- walks

  -- nothing is assigned on either side
  covers_none : (xs ys ns ms : List Location) → ns ≡ [] → ms ≡ [] → (i j : ℕ) → Covers (M.LocationsMatch f i j) xs ys → Covers (M.LocationsMatch f i j) (ns ++ xs) (ms ++ ys)
  covers_none xs ys ns ms ea eb i j h = subst (λ z. Covers (M.LocationsMatch f i j) (z ++ xs) (ms ++ ys)) (sym ea) (subst (λ z. Covers (M.LocationsMatch f i j) xs (z ++ ys)) (sym eb) h)

  -- variables of one name are assigned
  covers_one : (x y : ℕ) → SameName V W x y → (xs ys ns : List Location) → ns ≡ Variable x ∷ [] → (i j : ℕ) → Covers (M.LocationsMatch f i j) xs ys → Covers (M.LocationsMatch f i j) (ns ++ xs) (Variable y ∷ ys)
  covers_one x y name xs ys ns ea i j h = subst (λ z. Covers (M.LocationsMatch f i j) (z ++ xs) (Variable y ∷ ys)) (sym ea) covers
    where
      covers : Covers (M.LocationsMatch f i j) (Variable x ∷ xs) (Variable y ∷ ys)
      covers a b m k = by (only-name V W (Differ-in (slice_get P.funcs f)) (Differ-in (slice_get Q.funcs f)) x y name a b m.0)
        where
          by : StaysMatched (Variable x ∷ []) (Variable y ∷ []) (λ c d. SameLocation V W c d × Unit {0}) a b → In b (Variable y ∷ ys)
          by (inl s) = in_append_left b (Variable y ∷ []) ys s.1
          by (inr s) = inr (h a b s.2 (⊎_elim (λ e. absurd (s.0 (inl e))) (λ r. r) k))

  module _ (v : List Branch) (b : Branch) (is : IsWalk (code_of Q f) v) (l : MatchedWalk M P Q f F.args G.args v) (among : In b (branches_at (code_of Q f) (end_of v))) where
    i : ℕ
    i = end_of l.walk

    regular : IsKept P Q T t f (end_of l.walk) → MatchedWalk M P Q f F.args G.args (b ∷ v)
    regular kept = regular_branch_matched M P Q f F.args G.args accepted (walks_preserve P Q T t accepted) v b (record { walk = l.walk; matches = l.matches; regular = kept }) among

    there : (o : Option Instr) → item_at Q f (end_of l.walk) ≡ o → item_at Q f (end_of v) ≡ o
    there o e = ap (item_at Q f) (sym l.matches.points) ∙ e

    on-branch : (a : Instr) → item_at P f (end_of l.walk) ≡ Some a → (w : Branch) → In w (item_branches (code_of P f) (end_of l.walk) a) → In w (branches_at (code_of P f) (end_of l.walk))
    on-branch a at w h = subst (λ o. In w (branches_from (code_of P f) (end_of l.walk) o)) (sym at) h

    only_branch : (c : Instr) (w : Branch) → item_at Q f (end_of v) ≡ Some c → item_branches (code_of Q f) (end_of v) c ≡ w ∷ [] → b ≡ w
    only_branch c w at e = ⊎_elim (λ s. s) (λ n. absurd n) (subst (In b) e (subst (λ o. In b (branches_from (code_of Q f) (end_of v) o)) at among))

    -- Q's item goes on by its one branch
    keeping : (c : Instr) (w : Branch) → item_at Q f (end_of v) ≡ Some c → b ≡ w → w.from ≡ end_of v → w.aborts ≡ false → item_change (Some c) false ≡ Keeps → Keeping (code_of Q f) v b c
    keeping c w at is from goes keeps = record { at = at; from = ap (λ (z : Branch). z.from) is ∙ from; goes = ap (λ (z : Branch). z.aborts) is ∙ goes; keeps = keeps }

    by_fate : (a : Instr) → item_at P f (end_of l.walk) ≡ Some a → Fate (T f).known a (becomes (T f) (end_of l.walk) a) → MatchedWalk M P Q f F.args G.args (b ∷ v)
    by_fate a at (Stays same) = regular (kept_by (end_of l.walk) a at same)
    by_fate a at (Folds x ty k dest typed one became) =
        let c = const_there P Q T t f (end_of l.walk) a at x ty k became in
        let gives = given-outcome (is_some F.ret) a x (locals_of (T f).known) (literal_value k) (shaped (end_of l.walk) a at) dest (one-answer (T f).known a (literal_value k) (literal-one (answer (T f).known a) k one)).gives in
        let on = giver-goes_on a (locals_of (T f).known) (literal_value k) gives in
        let bt = there (Some (Const c.y ty k)) c.at in
        let step = on-branch a at (onward (end_of l.walk)) (subst (In (onward (end_of l.walk))) (sym (on.branches (code_of P f) (end_of l.walk))) (inl refl)) in
        let branch = only_branch (Const c.y ty k) (onward (end_of v)) bt refl in
        record {
          walk = onward (end_of l.walk) ∷ l.walk;
          matches = both_along M P Q f F.args G.args l.walk v l.matches a (Const c.y ty k) (onward (end_of l.walk)) b (record { at = at; from = refl; goes = refl; keeps = on.keeps false }) step (keeping (Const c.y ty k) (onward (end_of v)) bt branch refl refl refl) (ap suc l.matches.points ∙ ap (λ (z : Branch). z.to) (sym branch))
              (covers_one x c.y (const_name P Q T t f (end_of l.walk) a at x ty k became dest) _ _ (assigns_of a) (on.assigns ∙ ap (λ d. map Variable (listed d)) dest) (suc (end_of l.walk)) b.to l.matches.locations);
        }
    by_fate a at (Jumps d ty args fs ls u is one became) =
        let at' = at ∙ ap Some is in
        let k = slice_index ls (cond (bool_of u) 0 1) in
        let l_in = br_label (end_of l.walk) d ty args fs ls (bool_of u) at' in
        let j = jump_there P Q T t f (end_of l.walk) d ty args fs ls at' k l_in (ap (becomes (T f) (end_of l.walk)) (sym is) ∙ became) in
        let bt = there (Some (jump_to j.number)) j.at in
        let w = jump (code_of P f) (end_of l.walk) k in
        let step = on-branch (Act d ty op.Br args fs ls) at' w (in_map (jump (code_of P f) (end_of l.walk)) k ls l_in) in
        let branch = only_branch (jump_to j.number) (jump (code_of Q f) (end_of v) j.number) bt refl in
        record {
          walk = w ∷ l.walk;
          matches = both_along M P Q f F.args G.args l.walk v l.matches (Act d ty op.Br args fs ls) (jump_to j.number) w b (record { at = at'; from = refl; goes = refl; keeps = refl }) step (keeping (jump_to j.number) (jump (code_of Q f) (end_of v) j.number) bt branch refl refl refl) (j.to ∙ ap (λ (z : Branch). z.to) (sym branch))
              (covers_none _ _ (map Variable (listed d)) [] (ap (λ z. map Variable (listed z)) (br_dest (end_of l.walk) d ty args fs ls at')) refl (point_of k (code_of P f)) b.to l.matches.locations);
        }
    by_fate a at (Passes d ty args fs ls u is one holds became) =
        let at' = at ∙ ap Some is in
        let bt = there (Some nop) (nop_there P Q T t f (end_of l.walk) (Act d ty op.Guard args fs ls) at' (ap (becomes (T f) (end_of l.walk)) (sym is) ∙ became)) in
        let step = on-branch (Act d ty op.Guard args fs ls) at' (onward (end_of l.walk)) (inl refl) in
        let branch = only_branch nop (onward (end_of v)) bt refl in
        record {
          walk = onward (end_of l.walk) ∷ l.walk;
          matches = both_along M P Q f F.args G.args l.walk v l.matches (Act d ty op.Guard args fs ls) nop (onward (end_of l.walk)) b (record { at = at'; from = refl; goes = refl; keeps = refl }) step (keeping nop (onward (end_of v)) bt branch refl refl refl) (ap suc l.matches.points ∙ ap (λ (z : Branch). z.to) (sym branch))
              (covers_none _ _ (map Variable (listed d)) [] (ap (λ z. map Variable (listed z)) (guard_dest (end_of l.walk) d ty args fs ls at')) refl (suc (end_of l.walk)) b.to l.matches.locations);
        }

    goes_on : MatchedWalk M P Q f F.args G.args (b ∷ v)
    goes_on = by (item_at P f (end_of l.walk)) refl
      where
        by : (o : Option Instr) → item_at P f (end_of l.walk) ≡ o → MatchedWalk M P Q f F.args G.args (b ∷ v)
        by None e = regular (λ a at. absurd (let h : None ≡ Some a = sym e ∙ at in cc))
        by (Some a) e = ⊎_elim (λ same. regular (kept_by (end_of l.walk) a e same)) (λ h. by_fate a e h.1) (fate_at (T f) (end_of l.walk) a)

  abbrev IsAssured : (v : List Branch) → MatchedWalk M P Q f F.args G.args v → Location → Type 0
  IsAssured v l y = (x : Location) × M.LocationsMatch f (end_of l.walk) (end_of v) x y × In x (assigned_of (code_of P f) F.args l.walk).locations

  settled : (v : List Branch) (l : MatchedWalk M P Q f F.args G.args v) → IsKept P Q T t f (end_of l.walk) ⊎ IsHarmless (λ y. (x : Location) × M.LocationsMatch f (end_of l.walk) (end_of v) x y × In x (assigned_of (code_of P f) F.args l.walk).locations) (slice_get (code_of Q f) (end_of v))
  settled v l = by (item_at P f (end_of l.walk)) refl
    where
      there : (b : Instr) → item_at Q f (end_of l.walk) ≡ Some b → item_at Q f (end_of v) ≡ Some b
      there b e = ap (item_at Q f) (sym l.matches.points) ∙ e

      by_fate : (a : Instr) → item_at P f (end_of l.walk) ≡ Some a → Fate (T f).known a (becomes (T f) (end_of l.walk) a) → IsKept P Q T t f (end_of l.walk) ⊎ IsHarmless (IsAssured v l) (slice_get (code_of Q f) (end_of v))
      by_fate a at (Stays same) = inl (kept_by (end_of l.walk) a at same)
      by_fate a at (Folds x ty k dest typed one became) =
          let c = const_there P Q T t f (end_of l.walk) a at x ty k became in
          inr (harmless_item (IsAssured v l) (item_at Q f (end_of v)) (Const c.y ty k) (there (Const c.y ty k) c.at) refl refl refl)
      by_fate a at (Jumps d ty args fs ls u is one became) =
          let at' = at ∙ ap Some is in
          let j = jump_there P Q T t f (end_of l.walk) d ty args fs ls at' (slice_index ls (cond (bool_of u) 0 1)) (br_label (end_of l.walk) d ty args fs ls (bool_of u) at') (ap (becomes (T f) (end_of l.walk)) (sym is) ∙ became) in
          inr (harmless_item (IsAssured v l) (item_at Q f (end_of v)) (jump_to j.number) (there (jump_to j.number) j.at) refl refl refl)
      by_fate a at (Passes d ty args fs ls u is one holds became) =
          inr (harmless_item (IsAssured v l) (item_at Q f (end_of v)) nop (there nop (nop_there P Q T t f (end_of l.walk) (Act d ty op.Guard args fs ls) (at ∙ ap Some is) (ap (becomes (T f) (end_of l.walk)) (sym is) ∙ became))) refl refl refl)

      by : (o : Option Instr) → item_at P f (end_of l.walk) ≡ o → IsKept P Q T t f (end_of l.walk) ⊎ IsHarmless (IsAssured v l) (slice_get (code_of Q f) (end_of v))
      by None e = inl (λ a at. absurd (let h : None ≡ Some a = sym e ∙ at in cc))
      by (Some a) e = ⊎_elim (λ same. inl (kept_by (end_of l.walk) a e same)) (λ h. by_fate a e h.1) (fate_at (T f) (end_of l.walk) a)

  pub walks : MatchesWalks M P Q f F.args G.args
  walks = record {
    old = λ j. j;
    start = start_matched P Q t.heads f F G p q (folding P Q T t) refl;
    branches = goes_on;
    drawn = λ v l. (l, l.matches.points);
    settled = λ v l e. settled v l;
    once = λ s u w b r c k. sym b ∙ c;
  }

  -- ---- items

  -- no destination is lost
  pub dests : (x y : ℕ) → SameName (variable_names F.vars) (variable_names G.vars) x y → (i : ℕ) (a : Instr) → item_at P f i ≡ Some a → dest_of a ≡ Some x → IsDestination G.code y
  dests x y name i a at dest = ⊎_elim kept (λ h. by h.1) (fate_at (T f) i a)
    where
      kept : becomes (T f) i a ≡ a → IsDestination G.code y
      kept same = dest-there P Q t.heads f F G p q x y name i a at dest i (sym (kept_tree P Q T t f i (kept_by i a at same)))

      by : Fate (T f).known a (becomes (T f) i a) → IsDestination G.code y
      by (Stays same) = kept same
      by (Folds z ty k d typed one became) =
          let c = const_there P Q T t f i a at z ty k became in
          let same : z ≡ x = (let e : Some z ≡ Some x = sym d ∙ dest in cc) in
          let n = same_name-in P Q f F G p q x y name in
          let number : c.y ≡ y = one_right c.y y c.within n.1 (c.named_so ∙ ap (named V) same ∙ n.2) in
          record { point = i; item = Const c.y ty k; at = ap (λ o. slice_get (items_of o) i) (sym q) ∙ c.at; dest = ap Some number }
      by (Jumps d ty args fs ls u is one became) = absurd (let none = br_dest i d ty args fs ls (at ∙ ap Some is) in let e : None ≡ Some x = sym none ∙ sym (ap dest_of is) ∙ dest in cc)
      by (Passes d ty args fs ls u is one holds became) = absurd (let none = guard_dest i d ty args fs ls (at ∙ ap Some is) in let e : None ≡ Some x = sym none ∙ sym (ap dest_of is) ∙ dest in cc)

  -- the value of an item is of its type
  literal_typed : (i : ℕ) (a : Instr) (at : item_at P f i ≡ Some a) (x : ℕ) (ty : Ty) (l : Lit) → dest_of a ≡ Some x → type_of a ≡ Some ty → answer (T f).known a ≡ One (literal_value l) → is_literal_typed l ty ≡ true
  literal_typed i a at x ty l dest typed one =
      let least = t.least f F p in
      let fault = typed_at P F fact i a (here i a at) in
      let v = answer-typed P F (T f).known a (literal_value l) (shaped i a at) fault
      (λ y w j k. least-typed P F (λ n b e. shaped_at P F fact n b e) (λ n b e. typed_at P F fact n b e) (T f) least y w k) one (Variable x) (assigns-dest (is_some F.ret) a x (shaped i a at) dest) in
      literal-fits l ty (subst (λ o. is_typed o (literal_value l) ≡ true) (both_typed-is ty (variable_type F.vars x) (subst (λ o. is_dest_typed P F (Some x) o ≡ true) typed (dest-typed-at P F a x (shaped i a at) fault dest))) v)

  const_new : (i : ℕ) (a : Instr) (at : item_at P f i ≡ Some a) (x : ℕ) (ty : Ty) (l : Lit) → dest_of a ≡ Some x → type_of a ≡ Some ty → answer (T f).known a ≡ One (literal_value l) → (is : becomes (T f) i a ≡ Const x ty l) → IsNew P Q f F G (Const (const_there P Q T t f i a at x ty l is).y ty l)
  const_new i a at x ty l dest typed one is =
      let c = const_there P Q T t f i a at x ty l is in
      let n = const_name P Q T t f i a at x ty l is dest in
      record {
        dest = λ z y name e.
            let h = same_name-in P Q f F G p q z y name in
            let same : c.y ≡ y = cc in
            let number : z ≡ x = one_left z x h.0 n.0 (h.2 ∙ ap (named W) (sym same) ∙ sym n.2) in
            record { i = i; item = a; at = at; dest = dest ∙ ap Some (sym number); ty = sym typed };
        fits = λ types. record {
          shaped = refl;
          calls = refl;
          typed = all-right (is_dest_typed Q G (Some c.y) (Some ty)) (is_literal_typed l ty)
              (subst (λ o. both_typed same_type (Some ty) o ≡ true)
              (types x c.y (subst (λ o. SameName (names_in o) (variable_names G.vars) x c.y) p (subst (λ o. SameName V (names_in o) x c.y) q n)) (inr (record { point = i; item = Const c.y ty l; at = ap (λ o. slice_get (items_of o) i) (sym q) ∙ c.at; dest = refl })))
              (subst (λ o. is_dest_typed P F (Some x) o ≡ true) typed (dest-typed-at P F a x (shaped i a at) (typed_at P F fact i a (here i a at)) dest)))
              (literal_typed i a at x ty l dest typed one);
        };
      }

  items : (j : ℕ) (b : Instr) → item_at Q f j ≡ Some b → IsNew P Q f F G b ⊎ IsOld P Q f F G j b
  items j b at = by (item_at P f j) refl
    where
      old : (a : Instr) → IsKept P Q T t f j → IsNew P Q f F G b ⊎ IsOld P Q f F G j b
      old a kept = inr (record { i = j; tree = sym (kept_tree P Q T t f j kept); stays = inr (λ x y name among i a at dest. dests x y name i a at dest) })

      new : (c : Instr) → item_at Q f j ≡ Some c → IsNew P Q f F G c → IsNew P Q f F G b ⊎ IsOld P Q f F G j b
      new c e n = inl (subst (IsNew P Q f F G) (same_Some c b (sym e ∙ at)) n)

      by_fate : (a : Instr) → item_at P f j ≡ Some a → Fate (T f).known a (becomes (T f) j a) → IsNew P Q f F G b ⊎ IsOld P Q f F G j b
      by_fate a e (Stays same) = old a (kept_by j a e same)
      by_fate a e (Folds x ty l dest typed one became) = new (Const (const_there P Q T t f j a e x ty l became).y ty l) (const_there P Q T t f j a e x ty l became).at (const_new j a e x ty l dest typed (literal-one (answer (T f).known a) l one) became)
      by_fate a e (Jumps d ty args fs ls u is one became) =
          let at' = e ∙ ap Some is in
          let k = jump_there P Q T t f j d ty args fs ls at' (slice_index ls (cond (bool_of u) 0 1)) (br_label j d ty args fs ls (bool_of u) at') (ap (becomes (T f) j) (sym is) ∙ became) in
          new (jump_to k.number) k.at (bare-new P Q f F G (jump_to k.number) refl (record { shaped = refl; calls = refl; typed = refl }))
      by_fate a e (Passes d ty args fs ls u is one holds became) = new nop (nop_there P Q T t f j (Act d ty op.Guard args fs ls) (e ∙ ap Some is) (ap (becomes (T f) j) (sym is) ∙ became)) (nop-new P Q f F G)

      by : (o : Option Instr) → item_at P f j ≡ o → IsNew P Q f F G b ⊎ IsOld P Q f F G j b
      by None none = absurd (let h = sym (nothing_at P f j none) ∙ kept_tree P Q T t f j (λ a e. absurd (let n : None ≡ Some a = sym none ∙ e in cc)) ∙ (found Q f j b at).tree in cc)
      by (Some a) e = ⊎_elim (λ same. old a (kept_by j a e same)) (λ h. by_fate a e h.1) (fate_at (T f) j a)

  edits : Edits M P Q f F G
  edits = record { items = items; walks = inl walks }

-- the result of the pass is accepted
pub folded-accepted : (P Q : Prog) (T : ℕ → Table) → IsAccepted P → Folded P Q T → IsAccepted Q
folded-accepted P Q T accepted t = edit_accepted (λ _ _. walk_plan P Q T t) P Q accepted (walks_preserve P Q T t accepted) t.heads (λ f F G p q. edits P Q T accepted t f F G p q)
