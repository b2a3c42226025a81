-- Each branch of the result keeps what its walks stand over.
use Rattle.trace_laws.proofs.lemmas.acceptance.Standing.{laid-item}
use Rattle.pass_edit_laws.proofs.lemmas.names.Standing.{ActionAt, action_at, one_target, SameItem, label_at}
use Rattle.trace_laws.proofs.lemmas.acceptance.Standing.{bailed, Lines}
use Rattle.bril_tree.specs.declared.function_tree.Item.TheVariants as item
use Rattle.bril_tree.specs.declared.operation.Op.TheVariants as op
use Rattle.std.proofs.Common.{◌≡◌, ℕ, zero, suc, ◌+◌, ◌<◌, ◌≤◌, Bool, true, false, List, [], ◌∷◌, ◌++◌, length, map, Option, Some, None, refl, sym, ap, subst, ◌∙◌, inl, inr, ⊎_elim, arith}
use Rattle.std.specs.Prelude.{slice_get, slice_index, is_some}
use Rattle.std.proofs.lemmas.List.{length-append}
use Rattle.bril_tree.specs.declared.function_tree.Item.{Item}
use Rattle.bril_tree.specs.declared.numbered.Instr.{Instr}
use Rattle.bril_tree.specs.declared.numbered.Instr.TheVariants.{Label, Act}
use Rattle.bril_tree.specs.declared.program.Prog.{Prog}
use Rattle.bril_tree.specs.declared.types.Ty.{Ty}
use Rattle.bril_tree.specs.Accepted.{IsAccepted}
use Rattle.bril_tree.specs.Assigned.{Assigned, assigned_of, assigns_of, newest_saved}
use Rattle.bril_tree.specs.Edge.{Branch, branches_at, branches_from, item_branches, onward, jump, abort}
use Rattle.bril_tree.specs.FunctionForm.{listed}
use Rattle.bril_tree.specs.Numbered.{names_in, tree_at}
use Rattle.bril_tree.specs.Operand.{Location, Variable}
use Rattle.bril_tree.specs.Shape.{shape_of}
use Rattle.bril_tree.specs.Sites.{Keeps, item_change, sites_of, most_sites, without_newest}
use Rattle.bril_tree.specs.Step.{code_of, item_at, point_of}
use Rattle.bril_tree.specs.Walk.{IsWalk, end_of}
use Rattle.bril_names.proofs.Naming.{one_number, AreBelow-append}
use Rattle.pass_edit_laws.specs.plan.Plan.{StaysMatched}
use Rattle.pass_edit_laws.specs.walks.Matched.{Covers, SavedSetsMatch, MatchedWalk}
use Rattle.pass_edit_laws.proofs.lemmas.walks.Walks.{regular_branch_matched}
use Rattle.trace_paths.specs.Path.{Straight, Turn, Path, with_leg, Lays, Turns, item_met, chosen, path_from}
use Rattle.trace_laws.specs.lines.Lines.{guard_line, not_line, args_in, leg_lines, end_lines}
use Rattle.trace_laws.specs.lines.Traced.{Trace}
use Rattle.trace_laws.specs.refinement.Stitched.{StopsAt, Near, trace_path, IsTracedAt, Stitched}
use Rattle.trace_laws.proofs.lemmas.refinement.Straight.{lays-goes, IsBr, turns-br, same-lays}
use Rattle.trace_laws.proofs.lemmas.refinement.Plans.{M, A, preserves}
use Rattle.bril_tree.proofs.Elements.{in_index}
use Rattle.pass_edit_laws.proofs.lemmas.names.Items.{dest_named}
use Rattle.pass_edit_laws.proofs.lemmas.walks.Under.{Keeping, keeping-sites, keeping-assigned, sites-effect, assigned-effect, under-both, under-P, under-Q}
use Rattle.trace_laws.proofs.lemmas.acceptance.Standing.{Under, bail, behind, next-lines, Inner, tail_lines, InTrace, Door, OnPath, AtGuard, AtJmp, AtBail, Normal, Ended, Lay, Choose, normal}
use Rattle.bril_tree.specs.Membership.{In}
use Rattle.bril_tree.proofs.Members.{in_map, in_map_source, in_contains, in_append_left, in_append_right, in_append_cases}
use Rattle.bril_tree.proofs.Shapes.{shape-parts, dest_none}
use Rattle.pass_edit_laws.proofs.lemmas.steps.Shapes.{Shaped, shaped_here}
use Rattle.pass_edit_laws.proofs.lemmas.names.Points.{Differ-in}

one-branch : (b c : Branch) → In b (c ∷ []) → b ≡ c
one-branch b c (inl e) = e
one-branch b c (inr i) = absurd i

module _ (P Q : Prog) (bool : Ty) (accepted : IsAccepted P) (st : Stitched P Q bool) (f args result_args : ℕ)
    (roomy : (p : ℕ) (t : Trace) → st.traces f p ≡ Some t → (w : List Branch) → IsWalk (code_of P f) w → end_of w ≡ p → length (sites_of (code_of P f) w) < most_sites) where
  abbrev C : List Instr
  C = code_of P f

  abbrev D : List Instr
  D = code_of Q f

  abbrev T : (p : ℕ) (t : Trace) → st.traces f p ≡ Some t → List Branch → Type 0
  T p t is v = InTrace P Q bool accepted st f args result_args p t is v

  abbrev U : List Branch → List Branch → List ℕ → List (List Location) → Type 0
  U w v ss ys = Under P Q bool accepted st f args result_args w v ss ys

  -- where a walk of Q stands
  pub data At (v : List Branch) : Type 0 where
    Outside : MatchedWalk (M P Q bool accepted st) P Q f args result_args v → At v
    Within : (p : ℕ) (t : Trace) (is : st.traces f p ≡ Some t) → InTrace P Q bool accepted st f args result_args p t is v → At v

  -- a Q item with one branch onward
  only-onward : (v : List Branch) (b : Branch) (y : Instr) → item_at Q f (end_of v) ≡ Some y → item_branches D (end_of v) y ≡ onward (end_of v) ∷ [] → In b (branches_at D (end_of v)) → b ≡ onward (end_of v)
  only-onward v b y at goes among = one-branch b (onward (end_of v)) (subst (In b) goes (subst (λ o. In b (branches_from D (end_of v) o)) at among))

  -- ---- out of a trace's end

  outside : (w v : List Branch) → Near P Q bool st.old st.stops f (end_of w) (end_of v) → U w v (sites_of D v) (assigned_of D result_args v).saved → At v
  outside w v near u = Outside (record { walk = w; matches = record { is = u.is; points = near; locations = u.locations; saved = u.saved } })

  -- Q goes on alone over an item that assigns nothing or a fresh variable
  onward-Q : (w v : List Branch) (y : Instr) → item_at Q f (end_of v) ≡ Some y → item_change (Some y) false ≡ Keeps → assigns_of y ≡ [] → U w v (sites_of D v) (assigned_of D result_args v).saved → U w (onward (end_of v) ∷ v) (sites_of D (onward (end_of v) ∷ v)) (assigned_of D result_args (onward (end_of v) ∷ v)).saved
  onward-Q w v y at keeps none u =
      moved (record { at = at; from = refl; goes = refl; keeps = keeps })
    where
      moved : Keeping D v (onward (end_of v)) y → U w (onward (end_of v) ∷ v) (sites_of D (onward (end_of v) ∷ v)) (assigned_of D result_args (onward (end_of v) ∷ v)).saved
      moved k =
          let eb = keeping-assigned D result_args v (onward (end_of v)) y k in
          subst (λ ss. U w (onward (end_of v) ∷ v) ss (assigned_of D result_args (onward (end_of v) ∷ v)).saved) (sym (keeping-sites D v (onward (end_of v)) y k))
          (subst (λ (z : Assigned). U w (onward (end_of v) ∷ v) (sites_of D v) z.saved) (sym eb)
          (under-Q (M P Q bool accepted st) (A P Q bool accepted st f) P Q f args result_args w v (sites_of D v) (assigned_of D result_args v).saved u (onward (end_of v)) y k))

  module _ (p : ℕ) (t : Trace) (is : st.traces f p ≡ Some t) where
    abbrev In' : List Branch → List Branch → Type 0
    In' v w = Inner P Q bool accepted st f args result_args p t is v w

    abbrev L : ℕ → List Item → Type 0
    L j lines = Lines P Q bool accepted st f args result_args p t is j lines

    abbrev B : ℕ
    B = bail P Q bool accepted st f args result_args p t is

    abbrev tails : ℕ → Path → List Item
    tails n path = tail_lines P Q bool accepted st f args result_args p t is n path

    h : IsTracedAt P Q bool st.old st.stops f p t
    h = st.traced f p t is

    -- at the speculate
    door-on : (v : List Branch) (b : Branch) (w : List Branch) → end_of w ≡ suc p → end_of v ≡ suc (st.old f p) → length (sites_of C w) < most_sites → U w v (sites_of D v) (assigned_of D result_args v).saved → In b (branches_at D (end_of v)) → At (b ∷ v)
    door-on v b w ew ev few u among =
        let o = action_at Q f (suc (st.old f p)) None op.Speculate [] [] [] h.lines.0 in
        let at : item_at Q f (end_of v) ≡ Some (Act o.assigned o.ty op.Speculate o.arguments o.callees o.targets) = ap (item_at Q f) ev ∙ o.at in
        let e = only-onward v b (Act o.assigned o.ty op.Speculate o.arguments o.callees o.targets) at refl among in
        let es = sites-effect D v (onward (end_of v)) (Some (Act o.assigned o.ty op.Speculate o.arguments o.callees o.targets)) at refl in
        let ea = assigned-effect D result_args v (onward (end_of v)) (Some (Act o.assigned o.ty op.Speculate o.arguments o.callees o.targets)) at refl in
        let inner : Inner P Q bool accepted st f args result_args p t is (onward (end_of v) ∷ v) w = record {
          w0 = w;
          is0 = u.is;
          end0 = ew;
          few0 = few;
          ss = sites_of D v;
          y0 = (assigned_of D result_args v).locations;
          ys = (assigned_of D result_args v).saved;
          covers0 = u.locations;
          zip0 = u.saved;
          under = record { is = u.is; locations = subst (λ (z : Assigned). Covers (A P Q bool accepted st f) (assigned_of (code_of P f) args w).locations z.locations) (sym ea) u.locations; saved = u.saved };
          sites = es ∙ ap (λ n. n ∷ sites_of D v) ev;
          saved = ap (λ (z : Assigned). z.saved) ea;
        } in
        let lines : Lines P Q bool accepted st f args result_args p t is (suc (suc (st.old f p))) (tail_lines P Q bool accepted st f args result_args p t is 0 (path_from (code_of P f) p 1023 256 t.choices (suc p))) =
        record { stands = h.lines.1; low = omega arith; high = (let l = length-append (leg_lines bool (tree_at P f) t.names 0 (trace_path P Q bool f p t).legs) (end_lines bool (tree_at P f) t.names) in omega arith) } in
        subst (λ z. At (z ∷ v)) (sym e) (Within p t is
        (OnPath w inner 1023 256 t.choices 0
        (subst (λ n. Lines P Q bool accepted st f args result_args p t is n (tail_lines P Q bool accepted st f args result_args p t is 0 (path_from (code_of P f) p 1023 256 t.choices (end_of w)))) (ap suc (sym ev))
        (subst (λ n. Lines P Q bool accepted st f args result_args p t is (suc (suc (st.old f p))) (tail_lines P Q bool accepted st f args result_args p t is 0 (path_from (code_of P f) p 1023 256 t.choices n))) (sym ew) lines))
        (subst (λ n. StopsAt P Q bool st.old st.stops f (path_from (code_of P f) p 1023 256 t.choices n).stop t.names.stop) (sym ew) h.stop)))

    -- at the commit
    ended-on : (v : List Branch) (b : Branch) (w : List Branch) → Inner P Q bool accepted st f args result_args p t is v w → Lines P Q bool accepted st f args result_args p t is (end_of v) (end_lines bool (tree_at P f) t.names) → StopsAt P Q bool st.old st.stops f (end_of w) t.names.stop → In b (branches_at D (end_of v)) → At (b ∷ v)
    ended-on v b w i lines stop among =
        let o = action_at Q f (end_of v) None op.Commit [] [] [] lines.stands.0 in
        let e = only-onward v b (Act o.assigned o.ty op.Commit o.arguments o.callees o.targets) o.at refl among in
        let es = sites-effect D v (onward (end_of v)) (Some (Act o.assigned o.ty op.Commit o.arguments o.callees o.targets)) o.at refl ∙ ap without_newest i.sites in
        let ea = assigned-effect D result_args v (onward (end_of v)) (Some (Act o.assigned o.ty op.Commit o.arguments o.callees o.targets)) o.at refl in
        let sv : (assigned_of D result_args (onward (end_of v) ∷ v)).saved ≡ i.ys = ap (λ (z : Assigned). z.saved) ea ∙ ap without_newest i.saved in
        let under : U w (onward (end_of v) ∷ v) i.ss i.ys = record { is = i.under.is; locations = subst (λ (z : Assigned). Covers (A P Q bool accepted st f) (assigned_of (code_of P f) args w).locations z.locations) (sym ea) i.under.locations; saved = i.under.saved } in
        let high = lines.high in
        subst (λ z. At (z ∷ v)) (sym e) (Within p t is
        (AtJmp w i.w0 i.is0 i.end0 (assigned_of C args i.w0).saved i.ys (subst (λ l. SavedSetsMatch (M P Q bool accepted st) P Q f args result_args (sites_of (code_of P f) i.w0) l (assigned_of (code_of P f) args i.w0).saved i.ys) (sym es) i.zip0)
        (omega arith) stop lines.stands.1.0
        (subst (λ l. U w (onward (end_of v) ∷ v) l (assigned_of D result_args (onward (end_of v) ∷ v)).saved) (sym es) (subst (λ l. U w (onward (end_of v) ∷ v) i.ss l) (sym sv) under))))

    -- at the jmp
    jmp-on : (v : List Branch) (b : Branch) (w : List Branch) → StopsAt P Q bool st.old st.stops f (end_of w) t.names.stop → tree_at Q f (end_of v) ≡ Some (item.Act None op.Jmp [] [] (t.names.stop ∷ [])) → U w v (sites_of D v) (assigned_of D result_args v).saved → In b (branches_at D (end_of v)) → At (b ∷ v)
    jmp-on v b w stop line u among =
        let o = action_at Q f (end_of v) None op.Jmp [] [] (t.names.stop ∷ []) line in
        let h = subst (λ z. In b (branches_from D (end_of v) z)) o.at among in
        let s = in_map_source (jump D (end_of v)) b o.targets h in
        let to = one_target Q f (end_of v) None op.Jmp [] [] t.names.stop o stop.point stop.at s.0 s.1 in
        let shaped = action_at Q f (end_of v) None op.Jmp [] [] (t.names.stop ∷ []) line in
        let branch : Branch = jump D (end_of v) s.0 in
        let k : Keeping D v (jump D (end_of v) s.0) (Act o.assigned o.ty op.Jmp o.arguments o.callees o.targets) = record { at = o.at; from = refl; goes = refl; keeps = refl } in
        let eb = keeping-assigned D result_args v (jump D (end_of v) s.0) (Act o.assigned o.ty op.Jmp o.arguments o.callees o.targets) k in
        let under : U w (jump D (end_of v) s.0 ∷ v) (sites_of D (jump D (end_of v) s.0 ∷ v)) (assigned_of D result_args (jump D (end_of v) s.0 ∷ v)).saved =
        subst (λ ss. U w (jump D (end_of v) s.0 ∷ v) ss (assigned_of D result_args (jump D (end_of v) s.0 ∷ v)).saved) (sym (keeping-sites D v (jump D (end_of v) s.0) (Act o.assigned o.ty op.Jmp o.arguments o.callees o.targets) k))
        (subst (λ (z : Assigned). U w (jump D (end_of v) s.0 ∷ v) (sites_of D v) z.saved) (sym eb)
        (under-Q (M P Q bool accepted st) (A P Q bool accepted st f) P Q f args result_args w v (sites_of D v) (assigned_of D result_args v).saved u (jump D (end_of v) s.0) (Act o.assigned o.ty op.Jmp o.arguments o.callees o.targets) k)) in
        subst (λ z. At (z ∷ v)) (sym s.2) (outside w (jump D (end_of v) s.0 ∷ v) (subst (λ n. Near P Q bool st.old st.stops f (end_of w) n) (sym to) stop.near) under)

    -- at the last label
    bail-on : (v : List Branch) (b : Branch) (w : List Branch) → end_of w ≡ suc p → end_of v ≡ B → U w v (sites_of D v) (assigned_of D result_args v).saved → In b (branches_at D (end_of v)) → At (b ∷ v)
    bail-on v b w ew ev u among =
        let l = label_at Q f (bail P Q bool accepted st f args result_args p t is) t.names.bail (bailed P Q bool accepted st f args result_args p t is) in
        let at : item_at Q f (end_of v) ≡ Some (Label l.number) = ap (item_at Q f) ev ∙ l.at in
        let e = only-onward v b (Label l.number) at refl among in
        let near : Near P Q bool st.old st.stops f (end_of w) (suc (end_of v)) =
        subst (λ n. Near P Q bool st.old st.stops f n (suc (end_of v))) (sym ew) (st.stops f (suc p), omega arith, ap (λ n. suc n + st.stops f (suc p)) ev ∙ behind P Q bool accepted st f args result_args p t is) in
        subst (λ z. At (z ∷ v)) (sym e) (outside w (onward (end_of v) ∷ v) near (onward-Q w v (Label l.number) at refl refl u))

    -- a guard's abort
    abort-on : (v : List Branch) (w : List Branch) → Inner P Q bool accepted st f args result_args p t is v w → (gargs : List (List ℕ)) (o : ActionAt Q f (end_of v) None op.Guard gargs [] (t.names.bail ∷ [])) (b : Branch) → In b (map (abort D (end_of v)) o.targets) → At (b ∷ v)
    abort-on v w i gargs o b among =
        let s = in_map_source (abort D (end_of v)) b o.targets among in
        let to = one_target Q f (end_of v) None op.Guard gargs [] t.names.bail o (bail P Q bool accepted st f args result_args p t is) (bailed P Q bool accepted st f args result_args p t is) s.0 s.1 in
        let es = sites-effect D v (abort D (end_of v) s.0) (Some (Act o.assigned o.ty op.Guard o.arguments o.callees o.targets)) o.at refl ∙ ap without_newest i.sites in
        let ea = assigned-effect D result_args v (abort D (end_of v) s.0) (Some (Act o.assigned o.ty op.Guard o.arguments o.callees o.targets)) o.at refl in
        let sv : (assigned_of D result_args (abort D (end_of v) s.0 ∷ v)).saved ≡ i.ys = ap (λ (z : Assigned). z.saved) ea ∙ ap without_newest i.saved in
        let back : (assigned_of D result_args (abort D (end_of v) s.0 ∷ v)).locations ≡ i.y0 = ap (λ (z : Assigned). z.locations) ea ∙ ap (newest_saved (assigned_of D result_args v).locations) i.saved in
        let under : U i.w0 (abort D (end_of v) s.0 ∷ v) i.ss i.ys = record { is = i.is0; locations = subst (λ l. Covers (A P Q bool accepted st f) (assigned_of (code_of P f) args i.w0).locations l) (sym back) i.covers0; saved = i.zip0 } in
        subst (λ z. At (z ∷ v)) (sym s.2) (Within p t is
        (AtBail i.w0 i.end0 to
        (subst (λ l. U i.w0 (abort D (end_of v) s.0 ∷ v) l (assigned_of D result_args (abort D (end_of v) s.0 ∷ v)).saved) (sym es) (subst (λ l. U i.w0 (abort D (end_of v) s.0 ∷ v) i.ss l) (sym sv) under))))

    -- inside, with a branch of Q that keeps the sites
    inner-both : (v w w' : List Branch) (i : Inner P Q bool accepted st f args result_args p t is v w) (y : Instr) → Keeping D v (onward (end_of v)) y → U w' (onward (end_of v) ∷ v) i.ss i.ys → Inner P Q bool accepted st f args result_args p t is (onward (end_of v) ∷ v) w'
    inner-both v w w' i y k u = record {
      w0 = i.w0;
      is0 = i.is0;
      end0 = i.end0;
      few0 = i.few0;
      ss = i.ss;
      y0 = i.y0;
      ys = i.ys;
      covers0 = i.covers0;
      zip0 = i.zip0;
      under = u;
      sites = keeping-sites D v (onward (end_of v)) y k ∙ i.sites;
      saved = ap (λ (z : Assigned). z.saved) (keeping-assigned D result_args v (onward (end_of v)) y k) ∙ i.saved;
    }

    -- at a laid item
    lay-on : (v : List Branch) (b : Branch) (w : List Branch) (i : Inner P Q bool accepted st f args result_args p t is v w) (fuel room : ℕ) (choices : List Bool) (n : ℕ) (a : Instr) → item_at P f (end_of w) ≡ Some a → item_met (Some a) ≡ Lays
        → Lines P Q bool accepted st f args result_args p t is (end_of v) (tails n (with_leg (Straight (end_of w)) (path_from (code_of P f) p fuel room choices (suc (end_of w)))))
        → StopsAt P Q bool st.old st.stops f (path_from (code_of P f) p fuel room choices (suc (end_of w))).stop t.names.stop → In b (branches_at D (end_of v)) → At (b ∷ v)
    lay-on v b w i fuel room choices n a at met lines stop among =
        let here = laid-item P Q bool accepted st f args result_args p t is (end_of v) n (end_of w) a (path_from (code_of P f) p fuel room choices (suc (end_of w))) at lines in
        let both = here.both in
        let ga = lays-goes a met in
        let gb = lays-goes both.item (same-lays (A P Q bool accepted st f) a both.item both.same met) in
        let e = only-onward v b both.item both.at (gb.branches D (end_of v)) among in
        let ka : Keeping C w (onward (end_of w)) a = record { at = at; from = refl; goes = refl; keeps = ga.keeps } in
        let kb : Keeping D v (onward (end_of v)) both.item = record { at = both.at; from = refl; goes = refl; keeps = gb.keeps } in
        let u = under-both (M P Q bool accepted st) (A P Q bool accepted st f) P Q f args result_args w v i.ss i.ys i.under (onward (end_of w)) (onward (end_of v)) a both.item ka (subst (λ l. In (onward (end_of w)) l) (sym (ga.branches C (end_of w))) (inl refl)) kb (covers both) in
        subst (λ z. At (z ∷ v)) (sym e) (Within p t is
        (OnPath (onward (end_of w) ∷ w) (inner-both v w (onward (end_of w) ∷ w) i both.item kb u) fuel room choices n
        here.after stop))
      where
        covers : (both : SameItem P Q f (end_of v) a) → Covers (A P Q bool accepted st f) (assigns_of a ++ (assigned_of (code_of P f) args w).locations) (assigns_of both.item ++ (assigned_of (code_of Q f) result_args v).locations)
        covers both x y matches among' = by (both.kept x y matches)
          where
            by : StaysMatched (assigns_of a) (assigns_of both.item) (A P Q bool accepted st f) x y → In y (assigns_of both.item ++ (assigned_of (code_of Q f) result_args v).locations)
            by (inl k) = in_append_left y (assigns_of both.item) (assigned_of (code_of Q f) result_args v).locations k.1
            by (inr k) = in_append_right y (assigns_of both.item) (assigned_of (code_of Q f) result_args v).locations (i.under.locations x y k.2 (⊎_elim (λ j. absurd (k.0 j)) (λ j. j) (in_append_cases x (assigns_of a) (assigned_of (code_of P f) args w).locations among')))

    -- a guard that holds: P takes the branch of the choice
    record Turned (w : List Branch) (a : Instr) (l : ℕ) : Type 0 where
      keeping : Keeping C w (jump C (end_of w) l) a
      among : In (jump C (end_of w) l) (branches_from C (end_of w) (Some a))
      none : assigns_of a ≡ []

    turned : (w : List Branch) (a : Instr) → item_at P f (end_of w) ≡ Some a → (on off : ℕ) → item_met (Some a) ≡ Turns on off → (c : Bool) → Turned w a (chosen c on off)
    turned w a at on off met c =
        let r = turns-br a on off met in
        let s = subst (λ z. Shaped P f z) r.is (shaped_here P accepted f (end_of w) a at) in
        let two = (shape-parts (shape_of s.ret op.Br) (is_some r.d) (length r.args) (length r.fns) (length r.ls) s.shaped).labels_are in
        subst (λ z. Turned w z (chosen c on off)) (sym r.is) (by c r s two (at ∙ ap Some r.is))
      where
        by : (c : Bool) (r : IsBr a on off) (s : Shaped P f (Act r.d r.s op.Br r.args r.fns r.ls)) → length r.ls ≡ 2 → item_at P f (end_of w) ≡ Some (Act r.d r.s op.Br r.args r.fns r.ls) → Turned w (Act r.d r.s op.Br r.args r.fns r.ls) (chosen c on off)
        by true r s two at' = subst (λ l. Turned w (Act r.d r.s op.Br r.args r.fns r.ls) l) r.first (record {
          keeping = record { at = at'; from = refl; goes = refl; keeps = refl };
          among = in_map (jump C (end_of w)) (slice_index r.ls 0) r.ls (in_index r.ls 0 (omega arith));
          none = ap (λ z. map Variable (listed z)) (dest_none (shape_of s.ret op.Br) r.d (length r.args) (length r.fns) (length r.ls) refl s.shaped);
        })
        by false r s two at' = subst (λ l. Turned w (Act r.d r.s op.Br r.args r.fns r.ls) l) r.second (record {
          keeping = record { at = at'; from = refl; goes = refl; keeps = refl };
          among = in_map (jump C (end_of w)) (slice_index r.ls 1) r.ls (in_index r.ls 1 (omega arith));
          none = ap (λ z. map Variable (listed z)) (dest_none (shape_of s.ret op.Br) r.d (length r.args) (length r.fns) (length r.ls) refl s.shaped);
        })

    -- at a guard: w' is the walk of P along the choice
    guard-on : (v : List Branch) (b : Branch) (w w' : List Branch) (i : Inner P Q bool accepted st f args result_args p t is v w) → U w' v i.ss i.ys → (gargs : List (List ℕ)) (fuel room : ℕ) (choices : List Bool) (n : ℕ)
        → Lines P Q bool accepted st f args result_args p t is (end_of v) (guard_line gargs t.names.bail ∷ tails n (path_from (code_of P f) p fuel room choices (end_of w')))
        → StopsAt P Q bool st.old st.stops f (path_from (code_of P f) p fuel room choices (end_of w')).stop t.names.stop → In b (branches_at D (end_of v)) → At (b ∷ v)
    guard-on v b w w' i u gargs fuel room choices n lines stop among = by (subst (λ z. In b (branches_from D (end_of v) z)) (o).at among)
      where
        o : ActionAt Q f (end_of v) None op.Guard gargs [] (t.names.bail ∷ [])
        o = action_at Q f (end_of v) None op.Guard gargs [] (t.names.bail ∷ []) lines.stands.0

        by : In b (onward (end_of v) ∷ map (abort D (end_of v)) o.targets) → At (b ∷ v)
        by (inl e) =
            let k : Keeping D v (onward (end_of v)) (Act o.assigned o.ty op.Guard o.arguments o.callees o.targets) = record { at = o.at; from = refl; goes = refl; keeps = refl } in
            subst (λ z. At (z ∷ v)) (sym e) (Within p t is
            (OnPath w' (inner-both v w w' i (Act o.assigned o.ty op.Guard o.arguments o.callees o.targets) k (under-Q (M P Q bool accepted st) (A P Q bool accepted st f) P Q f args result_args w' v i.ss i.ys u (onward (end_of v)) (Act o.assigned o.ty op.Guard o.arguments o.callees o.targets) k)) fuel room choices n
            (next-lines P Q bool accepted st f args result_args p t is (end_of v) (guard_line gargs t.names.bail) (tails n (path_from (code_of P f) p fuel room choices (end_of w'))) lines) stop))
        by (inr m) = abort-on v w i gargs o b m

    -- at a br
    choose-on : (v : List Branch) (b : Branch) (w : List Branch) (i : Inner P Q bool accepted st f args result_args p t is v w) (fuel room : ℕ) (choices : List Bool) (n : ℕ) (a : Instr) → item_at P f (end_of w) ≡ Some a → (on off : ℕ) → item_met (Some a) ≡ Turns on off → (c : Bool)
        → Lines P Q bool accepted st f args result_args p t is (end_of v) (tails n (with_leg (Turn (end_of w) c) (path_from (code_of P f) p fuel room choices (point_of (chosen c on off) (code_of P f)))))
        → StopsAt P Q bool st.old st.stops f (path_from (code_of P f) p fuel room choices (point_of (chosen c on off) (code_of P f))).stop t.names.stop → In b (branches_at D (end_of v)) → At (b ∷ v)
    choose-on v b w i fuel room choices n a at on off met true lines stop among =
        let r = turned w a at on off met true in
        let w' = jump C (end_of w) (chosen true on off) ∷ w in
        guard-on v b w (jump C (end_of w) (chosen true on off) ∷ w) i (under-P (M P Q bool accepted st) (A P Q bool accepted st f) P Q f args result_args w v i.ss i.ys i.under (jump C (end_of w) (chosen true on off)) a r.keeping r.among r.none) (args_in (tree_at P f (end_of w))) fuel room choices n lines stop among
    choose-on v b w i fuel room choices n a at on off met false lines stop among =
        let r = turned w a at on off met false in
        let o = action_at Q f (end_of v) (Some (record { name = t.names.nots n; ty = bool })) op.Not (args_in (tree_at P f (end_of w))) [] [] lines.stands.0 in
        let y : Instr = Act o.assigned o.ty op.Not o.arguments o.callees o.targets in
        let e = only-onward v b (Act o.assigned o.ty op.Not o.arguments o.callees o.targets) o.at refl among in
        let k : Keeping D v (onward (end_of v)) (Act o.assigned o.ty op.Not o.arguments o.callees o.targets) = record { at = o.at; from = refl; goes = refl; keeps = refl } in
        let u = under-P (M P Q bool accepted st) (A P Q bool accepted st f) P Q f args result_args w v i.ss i.ys i.under (jump C (end_of w) (chosen false on off)) a r.keeping r.among r.none in
        let u' = under-Q (M P Q bool accepted st) (A P Q bool accepted st f) P Q f args result_args (jump C (end_of w) (chosen false on off) ∷ w) v i.ss i.ys u (onward (end_of v)) (Act o.assigned o.ty op.Not o.arguments o.callees o.targets) k in
        let d = dest_named (names_in (slice_get Q.funcs f)) o.assigned o.ty (t.names.nots n) bool o.has_dest (AreBelow-append (length (names_in (slice_get Q.funcs f))) (listed o.assigned) o.arguments o.range.variables).0 in
        subst (λ z. At (z ∷ v)) (sym e) (Within p t is
        (AtGuard (jump C (end_of w) (chosen false on off) ∷ w) (inner-both v w (jump C (end_of w) (chosen false on off) ∷ w) i (Act o.assigned o.ty op.Not o.arguments o.callees o.targets) k u') fuel room choices n
        (next-lines P Q bool accepted st f args result_args p t is (end_of v) (not_line bool (t.names.nots n) (args_in (tree_at P f (end_of w)))) (guard_line (t.names.nots n ∷ []) t.names.bail ∷ tails (suc n) (path_from (code_of P f) p fuel room choices (point_of (chosen false on off) (code_of P f)))) lines) stop
        (λ z within name. subst (λ (q : Assigned). In (Variable z) q.locations) (sym (keeping-assigned D result_args v (onward (end_of v)) (Act o.assigned o.ty op.Not o.arguments o.callees o.targets) k))
        (in_append_left (Variable z) (map Variable (listed o.assigned)) (assigned_of D result_args v).locations
        (subst (λ q. In (Variable z) (map Variable (listed q))) (sym d.is) (inl (ap Variable (one_number (names_in (slice_get Q.funcs f)) (Differ-in (slice_get Q.funcs f)) z d.x within d.within (name ∙ sym d.named_so)))))))))

    normal-on : (v : List Branch) (b : Branch) → Normal P Q bool accepted st f args result_args p t is v → In b (branches_at D (end_of v)) → At (b ∷ v)
    normal-on v b (Ended w i lines stop) among = ended-on v b w i lines stop among
    normal-on v b (Lay w i fuel room choices n a at met lines stop) among = lay-on v b w i fuel room choices n a at met lines stop among
    normal-on v b (Choose w i fuel room choices n a at on off met c lines stop) among = choose-on v b w i fuel room choices n a at on off met c lines stop among

    inside-on : (v : List Branch) (b : Branch) → InTrace P Q bool accepted st f args result_args p t is v → In b (branches_at D (end_of v)) → At (b ∷ v)
    inside-on v b (Door w ew ev few u) among = door-on v b w ew ev few u among
    inside-on v b (OnPath w i fuel room choices n lines stop) among = normal-on v b (normal P Q bool accepted st f args result_args p t is fuel v w i room choices n lines stop) among
    inside-on v b (AtGuard w i fuel room choices n lines stop reads) among = guard-on v b w w i i.under (t.names.nots n ∷ []) fuel room choices (suc n) lines stop among
    inside-on v b (AtJmp w w0 is0 end0 xs ys zip before stop line u) among = jmp-on v b w stop line u among
    inside-on v b (AtBail w ew ev u) among = bail-on v b w ew ev u among

  -- ---- outside

  abbrev LW : List Branch → Type 0
  LW v = MatchedWalk (M P Q bool accepted st) P Q f args result_args v

  -- at a label that was put before an item
  stop-on : (v : List Branch) (b : Branch) (l : MatchedWalk (M P Q bool accepted st) P Q f args result_args v) (m : ℕ) → suc m ≤ st.stops f (end_of l.walk) → end_of v + suc m ≡ st.old f (end_of l.walk) → In b (branches_at D (end_of v)) → At (b ∷ v)
  stop-on v b l m few e among =
      let name = st.stop_label f (end_of l.walk) (end_of v) m few e in
      let label = label_at Q f (end_of v) name.0 name.1 in
      let o = only-onward v b (Label label.number) label.at refl among in
      subst (λ z. At (z ∷ v)) (sym o) (outside l.walk (onward (end_of v) ∷ v) (m, omega arith, omega arith)
      (onward-Q l.walk v (Label label.number) label.at refl refl (record { is = l.matches.is; locations = l.matches.locations; saved = l.matches.saved })))

  -- at a trace's label
  label-on : (v : List Branch) (b : Branch) (l : MatchedWalk (M P Q bool accepted st) P Q f args result_args v) (t : Trace) (is : st.traces f (end_of l.walk) ≡ Some t) → end_of v ≡ st.old f (end_of l.walk) → In b (branches_at D (end_of v)) → At (b ∷ v)
  label-on v b l t is e among =
      let p = end_of l.walk in
      let h = st.traced f (end_of l.walk) t is in
      let lp = label_at P f (end_of l.walk) h.label h.labelled in
      let lq = label_at Q f (st.old f (end_of l.walk)) h.label (sym (st.kept f (end_of l.walk) (record { walk = l.walk; is = l.matches.is; ends = refl })) ∙ h.labelled) in
      let at : item_at Q f (end_of v) ≡ Some (Label lq.number) = ap (item_at Q f) e ∙ lq.at in
      let o = only-onward v b (Label lq.number) at refl among in
      let ka : Keeping C l.walk (onward (end_of l.walk)) (Label lp.number) = record { at = lp.at; from = refl; goes = refl; keeps = refl } in
      let u0 : U l.walk v (sites_of D v) (assigned_of D result_args v).saved = record { is = l.matches.is; locations = l.matches.locations; saved = l.matches.saved } in
      let u1 = onward-Q l.walk v (Label lq.number) at refl refl u0 in
      let u2 = under-P (M P Q bool accepted st) (A P Q bool accepted st f) P Q f args result_args l.walk (onward (end_of v) ∷ v) (sites_of D (onward (end_of v) ∷ v)) (assigned_of D result_args (onward (end_of v) ∷ v)).saved u1 (onward (end_of l.walk)) (Label lp.number) ka (inl refl) refl in
      let few = roomy (end_of l.walk) t is l.walk l.matches.is refl in
      subst (λ z. At (z ∷ v)) (sym o) (Within (end_of l.walk) t is
      (Door (onward (end_of l.walk) ∷ l.walk) refl (ap suc e) (subst (λ s. length s < most_sites) (sym (keeping-sites C l.walk (onward (end_of l.walk)) (Label lp.number) ka)) few) u2))

  outside-on : (v : List Branch) (b : Branch) → MatchedWalk (M P Q bool accepted st) P Q f args result_args v → In b (branches_at D (end_of v)) → At (b ∷ v)
  outside-on v b l among = by l.matches.points.0 l.matches.points.1 l.matches.points.2
    where
      old : st.traces f (end_of l.walk) ≡ None → end_of v ≡ st.old f (end_of l.walk) → At (b ∷ v)
      old none e = Outside (regular_branch_matched (M P Q bool accepted st) P Q f args result_args accepted (preserves P Q bool accepted st) v b (record { walk = l.walk; matches = l.matches; regular = (e, none) }) among)

      by_trace : (o : Option Trace) → st.traces f (end_of l.walk) ≡ o → end_of v ≡ st.old f (end_of l.walk) → At (b ∷ v)
      by_trace None is e = old is e
      by_trace (Some t) is e = label-on v b l t is e among

      by : (m : ℕ) → m ≤ st.stops f (end_of l.walk) → end_of v + m ≡ st.old f (end_of l.walk) → At (b ∷ v)
      by zero few e = by_trace (st.traces f (end_of l.walk)) refl (omega arith)
      by (suc m) few e = stop-on v b l m few e among

  at-on : (v : List Branch) (b : Branch) → At v → In b (branches_at D (end_of v)) → At (b ∷ v)
  at-on v b (Outside l) among = outside-on v b l among
  at-on v b (Within p t is h) among = inside-on p t is v b h among

  -- each walk of Q stands somewhere
  pub all-at : MatchedWalk (M P Q bool accepted st) P Q f args result_args [] → (v : List Branch) → IsWalk (code_of Q f) v → At v
  all-at start [] is = Outside start
  all-at start (b ∷ v) is = at-on v b (all-at start v is.1) (in_contains b (branches_at (code_of Q f) (end_of v)) is.0)
