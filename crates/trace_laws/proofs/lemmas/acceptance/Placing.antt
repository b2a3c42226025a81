-- The walks of a function with laid traces are accepted.
use Rattle.pass_edit_laws.proofs.lemmas.walks.Blocks.{IsPlaced, one-place}
use Rattle.trace_laws.proofs.lemmas.acceptance.Blocks.{next-item}
use Rattle.trace_laws.proofs.lemmas.acceptance.Standing.{laid-item}
use Rattle.pass_edit_laws.proofs.lemmas.names.Items.{name-none, name-only, name-source}
use Rattle.pass_edit_laws.proofs.lemmas.names.Standing.{ActionAt, action_at, label_at}
use Rattle.trace_laws.proofs.lemmas.acceptance.Standing.{bailed}
use Rattle.bril_tree.specs.declared.operation.Op.TheVariants as op
use Rattle.std.proofs.Common.{◌≡◌, ◌⊎◌, ℕ, zero, suc, ◌+◌, ◌<◌, ◌≤◌, Bool, true, false, List, [], ◌∷◌, length, map, Option, Some, None, refl, sym, ap, subst, ◌∙◌, inl, inr, ⊎_elim, arith, true≢false}
use Rattle.std.specs.Prelude.{slice_get, IsTrue}
use Rattle.std.proofs.lemmas.List.{length-append}
use Rattle.std.proofs.lemmas.Option.{slice_get_within, same_Some}
use Rattle.bril_tree.specs.declared.function_tree.Item.{Item}
use Rattle.bril_tree.specs.declared.numbered.Instr.{Instr}
use Rattle.bril_tree.specs.declared.numbered.Instr.TheVariants.{Label, Const, Act}
use Rattle.bril_tree.specs.declared.operation.Op.{Op}
use Rattle.bril_tree.specs.declared.program.Prog.{Prog}
use Rattle.bril_tree.specs.declared.types.Ty.{Ty}
use Rattle.bril_tree.specs.Accepted.{IsAccepted, leaves_frame, AreWalksAccepted}
use Rattle.bril_tree.specs.Assigned.{assigned_of}
use Rattle.bril_tree.specs.Edge.{Branch}
use Rattle.bril_tree.specs.FunctionForm.{listed}
use Rattle.bril_tree.specs.Numbered.{named, item_tree, names_of_functions, names_in, tree_at}
use Rattle.bril_tree.specs.Operand.{Location, Variable, reads_of}
use Rattle.bril_tree.specs.Sites.{sites_of, most_sites, needs_site}
use Rattle.bril_tree.specs.Step.{code_of, item_at, point_of}
use Rattle.bril_tree.specs.Walk.{IsWalk, end_of}
use Rattle.bril_names.specs.Range.{AreBelow, IsInRange}
use Rattle.bril_names.proofs.Naming.{AreBelow-append}
use Rattle.pass_edit_laws.specs.walks.Matched.{SavedSetsMatch, MatchedWalk}
use Rattle.trace_paths.specs.Path.{Straight, Turn, Path, with_leg, Lays, Turns, item_met, chosen, path_from}
use Rattle.trace_laws.specs.lines.Lines.{args_in, leg_lines, end_lines}
use Rattle.trace_laws.specs.lines.Traced.{Trace}
use Rattle.trace_laws.specs.refinement.Stitched.{IsTracedAt, Stitched}
use Rattle.trace_laws.proofs.lemmas.refinement.Straight.{turns-br, same-lays}
use Rattle.trace_laws.proofs.lemmas.refinement.Plans.{PointsMatch, IsRegular, M, A, preserves}
use Rattle.pass_edit_laws.proofs.lemmas.walks.Based.{Fine, Based, based_on, regular-fine, based_walks_accepted}
use Rattle.trace_laws.proofs.lemmas.acceptance.Standing.{Under, bail, behind, Inner, tail_lines, InTrace, Door, OnPath, AtGuard, AtJmp, AtBail, Normal, Ended, Lay, Choose, normal}
use Rattle.trace_laws.proofs.lemmas.acceptance.Walking.{At, Outside, Within, all-at}
use Rattle.bril_tree.specs.Membership.{In}
use Rattle.bril_tree.proofs.Members.{in_map, in_map_source, contains_in, in_contains}
use Rattle.pass_edit_laws.proofs.lemmas.walks.Items.{reads_same}
use Rattle.bril_tree.proofs.Branches.{walk_within}
use Rattle.pass_edit_laws.proofs.lemmas.names.Points.{found}
use Rattle.bril_tree.proofs.Assignments.{in_or_not}

lays-stays : (a : Instr) → item_met (Some a) ≡ Lays → leaves_frame (Some a) ≡ false
lays-stays (Label l) e = refl
lays-stays (Const d t v) e = refl
lays-stays (Act d t op.Call xs fns ls) e = absurd (cc)
lays-stays (Act d t op.Ret xs fns ls) e = absurd (cc)
lays-stays (Act d t _ xs fns ls) e = refl

module _ (P Q : Prog) (bool : Ty) (accepted : IsAccepted P) (st : Stitched P Q bool) (f args result_args : ℕ) (ret : Bool) (was : AreWalksAccepted (code_of P f) args ret)
    (roomy : (p : ℕ) (t : Trace) → st.traces f p ≡ Some t → (w : List Branch) → IsWalk (code_of P f) w → end_of w ≡ p → length (sites_of (code_of P f) w) < most_sites) where
  abbrev C : List Instr
  C = code_of P f

  abbrev D : List Instr
  D = code_of Q f

  abbrev V : List (List ℕ)
  V = names_in (slice_get P.funcs f)

  abbrev W : List (List ℕ)
  W = names_in (slice_get Q.funcs f)

  -- ---- blocks: an old item, the labels before it, and its trace

  data Kind (b j : ℕ) (own : List ℕ) (e : ℕ) : Type 0 where
    AtItem : j ≤ st.old f b → own ≡ [] → e ≡ b → Kind b j own e
    AtEdge : st.old f b < j → (j ≡ suc (st.old f b)) ⊎ (st.old f (suc b) ≤ j + 2 + st.stops f (suc b)) → own ≡ [] → e ≡ suc b → Kind b j own e
    AtOwn : suc (suc (st.old f b)) ≤ j → j + 3 + st.stops f (suc b) ≤ st.old f (suc b) → own ≡ suc (st.old f b) ∷ [] → e ≡ suc b → Kind b j own e

  -- what is said of a point by its block
  abbrev Says : ℕ → ℕ → List ℕ × ℕ → Type 0
  Says b j x = Kind b j x.0 x.1

  abbrev Where : ℕ → List ℕ → ℕ → Type 0
  Where j own e = IsPlaced (st.old f) (st.stops f) (length C) (next-item P Q bool st f) Says j (own, e)

  same-kind : (b j : ℕ) (own own' : List ℕ) (e e' : ℕ) → Kind b j own e → Kind b j own' e' → (own ≡ own') × (e ≡ e')
  same-kind b j own own' e e' (AtItem x o g) (AtItem x' o' g') = (o ∙ sym o', g ∙ sym g')
  same-kind b j own own' e e' (AtItem x o g) (AtEdge y z o' g') = absurd (omega arith)
  same-kind b j own own' e e' (AtItem x o g) (AtOwn y z o' g') = absurd (omega arith)
  same-kind b j own own' e e' (AtEdge y z o g) (AtItem x o' g') = absurd (omega arith)
  same-kind b j own own' e e' (AtEdge y z o g) (AtEdge y' z' o' g') = (o ∙ sym o', g ∙ sym g')
  same-kind b j own own' e e' (AtEdge y (inl z) o g) (AtOwn y' z' o' g') = absurd (omega arith)
  same-kind b j own own' e e' (AtEdge y (inr z) o g) (AtOwn y' z' o' g') = absurd (omega arith)
  same-kind b j own own' e e' (AtOwn y' z' o g) (AtItem x o' g') = absurd (omega arith)
  same-kind b j own own' e e' (AtOwn y' z' o g) (AtEdge y (inl z) o' g') = absurd (omega arith)
  same-kind b j own own' e e' (AtOwn y' z' o g) (AtEdge y (inr z) o' g') = absurd (omega arith)
  same-kind b j own own' e e' (AtOwn y z o g) (AtOwn y' z' o' g') = (o ∙ sym o', g ∙ sym g')

  same-place : (j j' : ℕ) (own own' : List ℕ) (e e' : ℕ) → j ≡ j' → Where j own e → Where j' own' e' → (own ≡ own') × (e ≡ e')
  same-place j j' own own' e e' same x y =
      let one = one-place (st.old f) (st.stops f) (length C) (next-item P Q bool st f) Says said j (own, e) (own', e') x (subst (λ n. Where n own' e') (sym same) y) in
      (ap (λ (z : List ℕ × ℕ). z.0) one, ap (λ (z : List ℕ × ℕ). z.1) one)
    where
      said : (b j : ℕ) (x y : List ℕ × ℕ) → Says b j x → Says b j y → x ≡ y
      said b j x y h k = let r = same-kind b j x.0 y.0 x.1 y.1 h k in λ i. (r.0 i, r.1 i)

  -- ---- what acceptance asks

  abbrev F : List Branch → Type 0
  F v = Fine (M P Q bool accepted st) P Q f args result_args ret v

  fine-at : (v : List Branch) (y : Instr) → item_at Q f (end_of v) ≡ Some y → (IsTrue (needs_site (Some y)) → sites_of D v ≡ [] → ⊥) → leaves_frame (Some y) ≡ false → ((x : Location) → In x (reads_of y) → In x (assigned_of (code_of Q f) result_args v).locations) → Fine (M P Q bool accepted st) P Q f args result_args ret v
  fine-at v y at needs stays reads = record {
    needs = λ n s. needs (subst (λ o. IsTrue (needs_site o)) at n) s;
    alone = λ l. absurd (true≢false (sym l ∙ ap leaves_frame at ∙ stays));
    reads = λ z place az i. reads place (subst (λ k. In place (reads_of k)) (sym (same_Some _ _ (sym at ∙ az))) i);
    returns = λ _ none. absurd (let h : None ≡ Some y = sym none ∙ at in cc);
  }

  label-fine : (v : List Branch) (l : ℕ) → item_at Q f (end_of v) ≡ Some (Label l) → Fine (M P Q bool accepted st) P Q f args result_args ret v
  label-fine v l at = fine-at v (Label l) at (λ n s. true≢false (sym n)) refl (λ x i. absurd i)

  -- a place that P's item reads is assigned on P's walk, and so on Q's
  read-under : (v w : List Branch) (ss : List ℕ) (ys : List (List Location)) → Under P Q bool accepted st f args result_args w v ss ys → (a : Instr) → item_at P f (end_of w) ≡ Some a → (x y : Location) → A P Q bool accepted st f x y → In x (reads_of a) → In y (assigned_of (code_of Q f) result_args v).locations
  read-under v w ss ys u a at x y matches i =
      ⊎_elim (λ j. u.locations x y matches j)
      (λ n. absurd (was.assigned (end_of w) a x at (contains_in x (reads_of a) i) (record { walk = w; is = u.is; ends = refl; lacks = λ c. n (in_contains x _ c) })))
      (in_or_not x (assigned_of (code_of P f) args w).locations)

  module _ (p : ℕ) (t : Trace) (is : st.traces f p ≡ Some t) where
    h : IsTracedAt P Q bool st.old st.stops f p t
    h = st.traced f p t is

    p_inside : p < length C
    p_inside = let l = label_at P f p h.label h.labelled in slice_get_within C p (Label l.number) l.at

    abbrev B : ℕ
    B = bail P Q bool accepted st f args result_args p t is

    B_old : suc (bail P Q bool accepted st f args result_args p t is) + st.stops f (suc p) ≡ st.old f (suc p)
    B_old = behind P Q bool accepted st f args result_args p t is

    -- a point of the trace
    in-block : (j : ℕ) (own : List ℕ) (e : ℕ) → st.old f p < j → j ≤ bail P Q bool accepted st f args result_args p t is → Kind p j own e → Where j own e
    in-block j own e low high kind = record {
      block = p;
      stands = record { inside = (let i = p_inside in omega arith); low = omega arith; high = λ l. let b = B_old in omega arith };
      says = kind;
    }

    record Summed (v : List Branch) : Type 0 where
      based : Based (M P Q bool accepted st) P Q f args result_args ret v
      place : Where (end_of v) based.own (end_of based.base)

    -- an edge of the trace: the speculate, the jmp, the last label
    edge : (v : List Branch) (w0 : List Branch) → IsWalk (code_of P f) w0 → end_of w0 ≡ suc p → (xs ys : List (List Location)) → SavedSetsMatch (M P Q bool accepted st) P Q f args result_args (sites_of (code_of P f) w0) (sites_of (code_of Q f) v) xs ys
        → st.old f p < end_of v → end_of v ≤ bail P Q bool accepted st f args result_args p t is → (end_of v ≡ suc (st.old f p)) ⊎ (st.old f (suc p) ≤ end_of v + 2 + st.stops f (suc p)) → Fine (M P Q bool accepted st) P Q f args result_args ret v → Summed v
    edge v w0 is0 end0 xs ys zip low high near fine = record {
      based = based_on (M P Q bool accepted st) P Q f args result_args ret was v w0 is0 xs ys zip fine;
      place = in-block (end_of v) [] (end_of w0) low high (AtEdge low near refl end0);
    }

    -- inside
    own-site : (v w : List Branch) (i : Inner P Q bool accepted st f args result_args p t is v w) → suc (suc (st.old f p)) ≤ end_of v → end_of v + 3 ≤ suc (bail P Q bool accepted st f args result_args p t is) → Fine (M P Q bool accepted st) P Q f args result_args ret v → Summed v
    own-site v w i low high fine = record {
      based = record { base = i.w0; is = i.is0; own = suc (st.old f p) ∷ []; rest = i.ss; xs = (assigned_of (code_of P f) args i.w0).saved; ys = i.ys; sites = i.sites; zipped = i.zip0; few = (let l = i.few0 in omega arith); fine = fine };
      place = in-block (end_of v) (suc (st.old f p) ∷ []) (end_of i.w0) (omega arith) (omega arith) (AtOwn low (let b = B_old in omega arith) refl i.end0);
    }

    some-site : (v w : List Branch) (i : Inner P Q bool accepted st f args result_args p t is v w) → sites_of D v ≡ [] → ⊥
    some-site v w i none = let e : suc (st.old f p) ∷ i.ss ≡ [] = sym i.sites ∙ none in cc

    -- an act without arguments
    no-args : (v : List Branch) (o : Op) (labels : List (List ℕ)) (n : ActionAt Q f (end_of v) None o [] [] labels) (x : Location) → In x (map Variable n.arguments) → In x (assigned_of (code_of Q f) result_args v).locations
    no-args v o labels n x i = let s = in_map_source Variable x n.arguments i in absurd (name-none W n.arguments n.has_args s.0 s.1)

    -- what a br's condition is called is assigned
    condition-read : (v w : List Branch) (i : Inner P Q bool accepted st f args result_args p t is v w) (a : Instr) → item_at P f (end_of w) ≡ Some a → (on off : ℕ) → item_met (Some a) ≡ Turns on off → (xs : List ℕ) → map (named W) xs ≡ args_in (tree_at P f (end_of w)) → AreBelow (length W) xs
        → (x : Location) → In x (map Variable xs) → In x (assigned_of (code_of Q f) result_args v).locations
    condition-read v w i a at on off met xs e below x among =
        let r = turns-br a on off met in
        let g = found P f (end_of w) a at in
        let at' : item_at P f (end_of w) ≡ Some (Act r.d r.s op.Br r.args r.fns r.ls) = at ∙ ap Some r.is in
        let tree : args_in (tree_at P f (end_of w)) ≡ map (named V) r.args = ap args_in (g.tree ∙ ap (λ z. Some (item_tree (names_of_functions P.funcs) V g.function.labels z)) r.is) in
        let below' = (AreBelow-append (length V) (listed r.d) r.args (subst (λ z. IsInRange (length (names_of_functions P.funcs)) (length V) (length g.function.labels) z) r.is g.range).variables).1 in
        let s = in_map_source Variable x xs among in
        let q = name-source V W r.args xs (sym (e ∙ tree)) below' below s.0 s.1 in
        subst (λ z. In z (assigned_of (code_of Q f) result_args v).locations) (sym s.2)
        (read-under v w i.ss i.ys i.under (Act r.d r.s op.Br r.args r.fns r.ls) at' (Variable q.0) (Variable s.0) (q.2, tt) (in_map Variable q.0 r.args q.1))

    abbrev E : List Item
    E = end_lines bool (tree_at P f) t.names

    -- how many lines there are at least
    three : (n : ℕ) (path : Path) (j : ℕ) → j + length (tail_lines P Q bool accepted st f args result_args p t is n path) ≡ suc (bail P Q bool accepted st f args result_args p t is) → j + 3 ≤ suc (bail P Q bool accepted st f args result_args p t is)
    three n path j e = let l = length-append (leg_lines bool (tree_at P f) t.names n path.legs) (end_lines bool (tree_at P f) t.names) in omega arith

    normal-summed : (v : List Branch) → Normal P Q bool accepted st f args result_args p t is v → Summed v
    normal-summed v (Ended w i lines stop) =
        let o = action_at Q f (end_of v) None op.Commit [] [] [] lines.stands.0 in
        own-site v w i lines.low (let g = lines.high in omega arith)
        (fine-at v (Act o.assigned o.ty op.Commit o.arguments o.callees o.targets) o.at (λ _ s. some-site v w i s) refl (no-args v op.Commit [] o))
    normal-summed v (Lay w i fuel room choices n a at met lines stop) =
        let here = laid-item P Q bool accepted st f args result_args p t is (end_of v) n (end_of w) a (path_from (code_of P f) p fuel room choices (suc (end_of w))) at lines in
        let both = here.both in
        let lays = same-lays (A P Q bool accepted st f) a both.item both.same met in
        own-site v w i lines.low (three n (with_leg (Straight (end_of w)) (path_from (code_of P f) p fuel room choices (suc (end_of w)))) (end_of v) lines.high)
        (fine-at v both.item both.at (λ _ s. some-site v w i s) (lays-stays both.item lays)
        (λ x among. let q = reads_same (A P Q bool accepted st f) (Some a) both.item x both.same among in
        read-under v w i.ss i.ys i.under q.0 (at ∙ q.2) q.1 x q.4 q.3))
    normal-summed v (Choose w i fuel room choices n a at on off met true lines stop) =
        let o = action_at Q f (end_of v) None op.Guard (args_in (tree_at P f (end_of w))) [] (t.names.bail ∷ []) lines.stands.0 in
        own-site v w i lines.low (three n (with_leg (Turn (end_of w) true) (path_from (code_of P f) p fuel room choices (point_of (chosen true on off) (code_of P f)))) (end_of v) lines.high)
        (fine-at v (Act o.assigned o.ty op.Guard o.arguments o.callees o.targets) o.at (λ _ s. some-site v w i s) refl
        (condition-read v w i a at on off met o.arguments o.has_args (AreBelow-append (length W) (listed o.assigned) o.arguments o.range.variables).1))
    normal-summed v (Choose w i fuel room choices n a at on off met false lines stop) =
        let o = action_at Q f (end_of v) (Some (record { name = t.names.nots n; ty = bool })) op.Not (args_in (tree_at P f (end_of w))) [] [] lines.stands.0 in
        own-site v w i lines.low (three n (with_leg (Turn (end_of w) false) (path_from (code_of P f) p fuel room choices (point_of (chosen false on off) (code_of P f)))) (end_of v) lines.high)
        (fine-at v (Act o.assigned o.ty op.Not o.arguments o.callees o.targets) o.at (λ _ s. some-site v w i s) refl
        (condition-read v w i a at on off met o.arguments o.has_args (AreBelow-append (length W) (listed o.assigned) o.arguments o.range.variables).1))

    trace-summed : (v : List Branch) → InTrace P Q bool accepted st f args result_args p t is v → Summed v
    trace-summed v (Door w ew ev few u) =
        let o = action_at Q f (suc (st.old f p)) None op.Speculate [] [] [] h.lines.0 in
        let o' = action_at Q f (end_of v) None op.Speculate [] [] [] (ap (tree_at Q f) ev ∙ h.lines.0) in
        edge v w u.is ew (assigned_of (code_of P f) args w).saved (assigned_of (code_of Q f) result_args v).saved u.saved (omega arith) (omega arith) (inl ev)
        (fine-at v (Act o'.assigned o'.ty op.Speculate o'.arguments o'.callees o'.targets) o'.at (λ n s. true≢false (sym n)) refl (no-args v op.Speculate [] o'))
    trace-summed v (OnPath w i fuel room choices n lines stop) = normal-summed v (normal P Q bool accepted st f args result_args p t is fuel v w i room choices n lines stop)
    trace-summed v (AtGuard w i fuel room choices n lines stop reads) =
        let o = action_at Q f (end_of v) None op.Guard (t.names.nots n ∷ []) [] (t.names.bail ∷ []) lines.stands.0 in
        let path = path_from (code_of P f) p fuel room choices (end_of w) in
        let l = length-append (leg_lines bool (tree_at P f) t.names (suc n) (path_from (code_of P f) p fuel room choices (end_of w)).legs) (end_lines bool (tree_at P f) t.names) in
        let g = lines.high in
        own-site v w i lines.low (omega arith)
        (fine-at v (Act o.assigned o.ty op.Guard o.arguments o.callees o.targets) o.at (λ _ s. some-site v w i s) refl
        (λ x among. let s = in_map_source Variable x o.arguments among in
        let q = name-only W o.arguments (t.names.nots n) o.has_args (AreBelow-append (length W) (listed o.assigned) o.arguments o.range.variables).1 s.0 s.1 in
        subst (λ z. In z (assigned_of (code_of Q f) result_args v).locations) (sym s.2) (reads s.0 q.0 q.1)))
    trace-summed v (AtJmp w w0 is0 end0 xs ys zip near stop line u) =
        let o = action_at Q f (end_of v) None op.Jmp [] [] (t.names.stop ∷ []) line in
        let b = B_old in
        edge v w0 is0 end0 xs ys zip (omega arith) (omega arith) (inr (omega arith))
        (fine-at v (Act o.assigned o.ty op.Jmp o.arguments o.callees o.targets) o.at (λ n s. true≢false (sym n)) refl (no-args v op.Jmp (t.names.stop ∷ []) o))
    trace-summed v (AtBail w ew ev u) =
        let l = label_at Q f (bail P Q bool accepted st f args result_args p t is) t.names.bail (bailed P Q bool accepted st f args result_args p t is) in
        let b = B_old in
        edge v w u.is ew (assigned_of (code_of P f) args w).saved (assigned_of (code_of Q f) result_args v).saved u.saved (omega arith) (omega arith) (inr (omega arith))
        (label-fine v l.number (ap (item_at Q f) ev ∙ l.at))

  -- ---- outside

  record Sum (v : List Branch) : Type 0 where
    based : Based (M P Q bool accepted st) P Q f args result_args ret v
    place : Where (end_of v) based.own (end_of based.base)

  outside-summed : (v : List Branch) → MatchedWalk (M P Q bool accepted st) P Q f args result_args v → Sum v
  outside-summed v l = record {
    based = based_on (M P Q bool accepted st) P Q f args result_args ret was v l.walk l.matches.is (assigned_of (code_of P f) args l.walk).saved (assigned_of (code_of Q f) result_args v).saved l.matches.saved (fine l.matches.points.0 l.matches.points.1 l.matches.points.2);
    place = record {
      block = end_of l.walk;
      stands = record {
        inside = walk_within (code_of P f) l.walk l.matches.is;
        low = (let b = l.matches.points.1 in let e = l.matches.points.2 in omega arith);
        high = λ less. let k = next-item P Q bool st f (end_of l.walk) less in let e = l.matches.points.2 in omega arith;
      };
      says = AtItem (let e = l.matches.points.2 in omega arith) refl refl;
    };
  }
    where
      at-item : (o : Option Trace) → st.traces f (end_of l.walk) ≡ o → end_of v ≡ st.old f (end_of l.walk) → Fine (M P Q bool accepted st) P Q f args result_args ret v
      at-item None none e = regular-fine (M P Q bool accepted st) P Q f args result_args ret was accepted (preserves P Q bool accepted st) v l (e, none)
      at-item (Some t) is e =
          let h = st.traced f (end_of l.walk) t is in
          let q = label_at Q f (st.old f (end_of l.walk)) h.label (sym (st.kept f (end_of l.walk) (record { walk = l.walk; is = l.matches.is; ends = refl })) ∙ h.labelled) in
          label-fine v q.number (ap (item_at Q f) e ∙ q.at)

      fine : (m : ℕ) → m ≤ st.stops f (end_of l.walk) → end_of v + m ≡ st.old f (end_of l.walk) → Fine (M P Q bool accepted st) P Q f args result_args ret v
      fine zero b e = at-item (st.traces f (end_of l.walk)) refl (omega arith)
      fine (suc m) b e = let n = st.stop_label f (end_of l.walk) (end_of v) m b e in let q = label_at Q f (end_of v) n.0 n.1 in label-fine v q.number q.at

  summed : (v : List Branch) → At P Q bool accepted st f args result_args roomy v → Sum v
  summed v (Outside l) = outside-summed v l
  summed v (Within p t is i) = let s = trace-summed p t is v i in record { based = s.based; place = s.place }

  once : (s t u : ℕ) → PointsMatch P Q bool accepted st f s t → IsRegular P Q bool accepted st f s t → PointsMatch P Q bool accepted st f s u → IsRegular P Q bool accepted st f s u → t ≡ u
  once s t u b r c k = r.0 ∙ sym k.0

  -- the walks of the result are accepted
  pub stitched-walks : MatchedWalk (M P Q bool accepted st) P Q f args result_args [] → AreWalksAccepted (code_of Q f) result_args ret
  stitched-walks start =
      based_walks_accepted (M P Q bool accepted st) P Q f args result_args ret was once all
      (λ v v' is is' e. same-place (end_of v) (end_of v') (sum v is).based.own (sum v' is').based.own (end_of (sum v is).based.base) (end_of (sum v' is').based.base) e (sum v is).place (sum v' is').place)
    where
      sum : (v : List Branch) → IsWalk (code_of Q f) v → Sum v
      sum v is = summed v (all-at P Q bool accepted st f args result_args roomy start v is)

      all : (v : List Branch) → IsWalk (code_of Q f) v → Based (M P Q bool accepted st) P Q f args result_args ret v
      all v is = (summed v (all-at P Q bool accepted st f args result_args roomy start v is)).based
