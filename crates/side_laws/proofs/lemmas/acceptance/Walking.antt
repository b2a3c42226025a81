-- Each walk of the result stands over a walk of the program: at an old item, or in a side exit.
use Rattle.std.proofs.Common.{◌≡◌, ℕ, suc, ◌+◌, ◌-◌, ◌<◌, ◌≤◌, Bool, true, false, List, [], ◌∷◌, ◌++◌, length, map, Option, Some, None, refl, sym, ap, subst, ◌∙◌, inl, inr, ⊎_elim, arith}
use Rattle.std.specs.Prelude.{slice_get, slice_index}
use Rattle.std.specs.Option.{option_map}
use Rattle.bril_tree.specs.declared.numbered.Instr.{Instr}
use Rattle.bril_tree.specs.declared.numbered.Instr.TheVariants.{Label, Const, Act}
use Rattle.bril_tree.specs.declared.operation.Op.{Op}
use Rattle.bril_tree.specs.declared.program.Prog.{Prog}
use Rattle.bril_tree.specs.declared.types.Ty.{Ty}
use Rattle.bril_tree.specs.declared.function_tree.Item.TheVariants as item
use Rattle.bril_tree.specs.declared.operation.Op.TheVariants as op
use Rattle.bril_tree.specs.Accepted.{IsAccepted, AreWalksAccepted, leaves_frame}
use Rattle.bril_tree.specs.Assigned.{Assigned, assigned_of, assigns_of, newest_saved}
use Rattle.bril_tree.specs.Edge.{Branch, branches_at, branches_from, item_branches, onward, jump, abort}
use Rattle.bril_tree.specs.Membership.{In}
use Rattle.bril_tree.specs.Numbered.{item_tree, named, names_in, names_of_functions, tree_at}
use Rattle.bril_tree.specs.Operand.{Location}
use Rattle.bril_tree.specs.Sites.{needs_site, sites_of, without_newest}
use Rattle.bril_tree.specs.Step.{code_of, item_at, point_of}
use Rattle.bril_tree.specs.Walk.{IsWalk, end_of}
use Rattle.bril_tree.proofs.Branches.{label_within, walk_within}
use Rattle.bril_tree.proofs.Members.{contains_in, in_append_cases, in_append_left, in_append_right, in_contains, in_map_source}
use Rattle.flow_graph.proofs.Told.{some_site}
use Rattle.pass_edit_laws.specs.plan.Plan.{ItemsMatch, StaysMatched}
use Rattle.pass_edit_laws.proofs.lemmas.names.Points.{found, label_found}
use Rattle.pass_edit_laws.proofs.lemmas.names.Standing.{ActionAt, action_at, one_target, SameItem, same_item, label_at}
use Rattle.pass_edit_laws.proofs.lemmas.steps.Attempts.{is_attempted, is_attempted_operation}
use Rattle.pass_edit_laws.specs.walks.Matched.{Covers, SavedSetsMatch, MatchedWalk}
use Rattle.pass_edit_laws.proofs.lemmas.walks.Under.{Keeping, keeping-sites, keeping-assigned, sites-effect, assigned-effect, under-both, under-Q}
use Rattle.pass_edit_laws.proofs.lemmas.walks.Walks.{regular_branch_matched}
use Rattle.pass_edit_laws.specs.plan.Lines.{jmp_line, listed_item}
use Rattle.pass_edit_laws.specs.labels.Fresh.{labels_here, labels_in}
use Rattle.pass_edit_laws.proofs.lemmas.walks.Under as under
use Rattle.side_laws.specs.Paired.{is_guard, labels_of_item}
use Rattle.side_laws.specs.Passage.{Drawn, Glides, Passage}
use Rattle.side_laws.specs.Sided.{SideExit, kept_lines, retargeted, retargeted_by, lines_behind, exit_lines, exit_at}
use Rattle.side_laws.specs.Laid.{Laid, Stands}
use Rattle.side_laws.proofs.lemmas.pairs.Passages.{attempted-goes, glide-turn}
use Rattle.side_laws.proofs.lemmas.refinement.Making.{same_trees}
use Rattle.side_laws.proofs.lemmas.layout.Plans.{A, W, label-stands, walking-preserves}

one-branch : (b c : Branch) → In b (c ∷ []) → b ≡ c
one-branch b c (inl e) = e
one-branch b c (inr i) = absurd i

-- ---- items that do the same are alike in what they look at

same-act-attempted : (o u : Op) → o ≡ u → is_attempted_operation o ≡ is_attempted_operation u
same-act-attempted o u e = ap is_attempted_operation e

pub same-attempted : (B : Location → Location → Type 0) (a b : Instr) → ItemsMatch B a b → is_attempted a ≡ is_attempted b
same-attempted B (Label l) (Label m) s = refl
same-attempted B (Label l) (Const x t v) s = absurd s
same-attempted B (Label l) (Act d t o args fns ls) s = absurd s
same-attempted B (Const x t v) (Label m) s = absurd s
same-attempted B (Const x t v) (Const y r w) s = refl
same-attempted B (Const x t v) (Act d r o args fns ls) s = absurd s
same-attempted B (Act d t o args fns ls) (Label m) s = absurd s
same-attempted B (Act d t o args fns ls) (Const y r w) s = absurd s
same-attempted B (Act d t o args fns ls) (Act e r u brgs gns ms) s = same-act-attempted o u s.operation

pub record AsksNothing (a : Instr) : Type 0 where
  pub stays : leaves_frame (Some a) ≡ false
  pub closed : needs_site (Some a) ≡ false

act-asks : (o : Op) (d : Option ℕ) (t : Option Ty) (args fns ls : List ℕ) → is_attempted_operation o ≡ true → AsksNothing (Act d t o args fns ls)
act-asks op.Nop d t args fns ls e = absurd cc
act-asks op.Print d t args fns ls e = absurd cc
act-asks op.Store d t args fns ls e = absurd cc
act-asks op.Alloc d t args fns ls e = absurd cc
act-asks op.Free d t args fns ls e = absurd cc
act-asks op.Call d t args fns ls e = absurd cc
act-asks op.Ret d t args fns ls e = absurd cc
act-asks op.Speculate d t args fns ls e = absurd cc
act-asks op.Commit d t args fns ls e = absurd cc
act-asks op.Guard d t args fns ls e = absurd cc
act-asks op.Jmp d t args fns ls e = absurd cc
act-asks op.Br d t args fns ls e = absurd cc
act-asks _ d t args fns ls e = record { stays = refl; closed = refl }

pub attempted-asks : (a : Instr) → is_attempted a ≡ true → AsksNothing a
attempted-asks (Label l) e = absurd cc
attempted-asks (Const d t v) e = record { stays = refl; closed = refl }
attempted-asks (Act d t o args fns ls) e = act-asks o d t args fns ls e

-- ---- names of arguments

module _ (P Q : Prog) (accepted : IsAccepted P) (st : Laid P Q) (f args result_args : ℕ) (ret : Bool) (was : AreWalksAccepted (code_of P f) args ret) where
  abbrev C : List Instr
  C = code_of P f

  abbrev D : List Instr
  D = code_of Q f

  abbrev V : List (List ℕ)
  V = names_in (slice_get P.funcs f)

  abbrev U : List (List ℕ)
  U = names_in (slice_get Q.funcs f)

  abbrev Matched : List Branch → Type 0
  Matched = MatchedWalk (W P Q accepted st) P Q f args result_args

  abbrev Over : List Branch → List Branch → List ℕ → List (List Location) → Type 0
  Over u v ss ys = under.Under (W P Q accepted st) (A P Q accepted st f) P Q f args result_args u v ss ys

  abbrev pub bail : SideExit → ℕ
  bail w = point_of w.pair.bail (code_of P f)

  -- a point among the lines before the label of an exit's run
  pub record InExit (w : SideExit) (among : In w (st.exits f)) (point count : ℕ) : Type 0 where
    pub from : (st.stands f w among).point ≤ point
    pub exact : point + count ≡ (st.stands f w among).point + length (exit_lines (tree_at P f) (labels_in P f) w)

  -- a walk of P to the label of the run has the sites of v
  pub record From (w : SideExit) (v : List Branch) : Type 0 where
    pub base : List Branch
    pub is : IsWalk (code_of P f) base
    pub ends : end_of base ≡ bail w
    pub saved : SavedSetsMatch (W P Q accepted st) P Q f args result_args (sites_of (code_of P f) base) (sites_of (code_of Q f) v) (assigned_of (code_of P f) args base).saved (assigned_of (code_of Q f) result_args v).saved

  -- where a walk of Q stands
  pub data At (v : List Branch) : Type 0 where
    Outside : MatchedWalk (W P Q accepted st) P Q f args result_args v → At v
    AtLabel : (w : SideExit) (among : In w (st.exits f)) → From w v → InExit w among (end_of v) (length (exit_lines (tree_at P f) (labels_in P f) w)) → Stands P Q f (end_of v) (exit_lines (tree_at P f) (labels_in P f) w)
        → (u : List Branch) → end_of u ≡ bail w → under.Under (W P Q accepted st) (A P Q accepted st f) P Q f args result_args u v (sites_of (code_of Q f) v) (assigned_of (code_of Q f) result_args v).saved → At v
    AtLine : (w : SideExit) (among : In w (st.exits f)) → From w v → (kept : List ℕ) → InExit w among (end_of v) (length (lines_behind (tree_at P f) (labels_in P f) kept w.pair.other)) → Stands P Q f (end_of v) (lines_behind (tree_at P f) (labels_in P f) kept w.pair.other)
        → (u : List Branch) → Passage (code_of P f) (end_of u) kept (st.paired f w among).fine.turning.stands → under.Under (W P Q accepted st) (A P Q accepted st f) P Q f args result_args u v (sites_of (code_of Q f) v) (assigned_of (code_of Q f) result_args v).saved → At v

  -- ---- steps

  only-onward : (v : List Branch) (b : Branch) (y : Instr) → item_at Q f (end_of v) ≡ Some y → item_branches D (end_of v) y ≡ onward (end_of v) ∷ [] → In b (branches_at D (end_of v)) → b ≡ onward (end_of v)
  only-onward v b y at goes among = one-branch b (onward (end_of v)) (subst (In b) goes (subst (λ o. In b (branches_from D (end_of v) o)) at among))

  -- what is over v is over a walk with the same sites and saved sets
  moved : (u v v' : List Branch) → sites_of D v' ≡ sites_of D v → (assigned_of D result_args v').saved ≡ (assigned_of D result_args v).saved → Over u v' (sites_of D v) (assigned_of D result_args v).saved → Over u v' (sites_of D v') (assigned_of D result_args v').saved
  moved u v v' es ea o = subst (λ ss. Over u v' ss (assigned_of D result_args v').saved) (sym es) (subst (λ ys. Over u v' (sites_of D v) ys) (sym ea) o)

  from-moved : (w : SideExit) (v v' : List Branch) → sites_of D v' ≡ sites_of D v → (assigned_of D result_args v').saved ≡ (assigned_of D result_args v).saved → From w v → From w v'
  from-moved w v v' es ea h = record {
    base = h.base;
    is = h.is;
    ends = h.ends;
    saved = subst (λ ss. SavedSetsMatch (W P Q accepted st) P Q f args result_args (sites_of C h.base) ss (assigned_of C args h.base).saved (assigned_of D result_args v').saved) (sym es)
        (subst (λ ys. SavedSetsMatch (W P Q accepted st) P Q f args result_args (sites_of C h.base) (sites_of D v) (assigned_of C args h.base).saved ys) (sym ea) h.saved);
  }

  kept-saved : (v : List Branch) (b : Branch) (y : Instr) → Keeping D v b y → (assigned_of D result_args (b ∷ v)).saved ≡ (assigned_of D result_args v).saved
  kept-saved v b y k = ap (λ (z : Assigned). z.saved) (keeping-assigned D result_args v b y k)

  -- P's walk drawn on to where it has the same sites and locations
  drawn-over : (u v : List Branch) (ss : List ℕ) (ys : List (List Location)) (to : ℕ) (d : Drawn (code_of P f) u to) → Over u v ss ys → Over d.walk v ss ys
  drawn-over u v ss ys to d o = record {
    is = d.is;
    locations = subst (λ (z : Assigned). Covers (A P Q accepted st f) z.locations (assigned_of (code_of Q f) result_args v).locations) (sym (d.assigned args)) o.locations;
    saved = subst (λ l. SavedSetsMatch (W P Q accepted st) P Q f args result_args l ss (assigned_of (code_of P f) args d.walk).saved ys) (sym d.sites)
        (subst (λ (z : Assigned). SavedSetsMatch (W P Q accepted st) P Q f args result_args (sites_of (code_of P f) u) ss z.saved ys) (sym (d.assigned args)) o.saved);
  }

  -- ---- at the label of an exit

  label-on : (v : List Branch) (b : Branch) (w : SideExit) (among : In w (st.exits f)) → From w v → InExit w among (end_of v) (length (exit_lines (tree_at P f) (labels_in P f) w)) → Stands P Q f (end_of v) (exit_lines (tree_at P f) (labels_in P f) w)
      → (u : List Branch) → end_of u ≡ bail w → Over u v (sites_of D v) (assigned_of D result_args v).saved → In b (branches_at D (end_of v)) → At (b ∷ v)
  label-on v b w among from place lines u ends o goes =
      let l = label_at Q f (end_of v) w.name lines.0 in
      let e = only-onward v b (Label l.number) l.at refl goes in
      let k : Keeping D v (onward (end_of v)) (Label l.number) = record { at = l.at; from = refl; goes = refl; keeps = refl } in
      let es = keeping-sites D v (onward (end_of v)) (Label l.number) k in
      let ea = kept-saved v (onward (end_of v)) (Label l.number) k in
      let low = place.from in
      let high = place.exact in
      subst (λ z. At (z ∷ v)) (sym e)
      (AtLine w among (from-moved w v (onward (end_of v) ∷ v) es ea from) w.pair.kept (record { from = omega (arith, low); exact = omega (arith, high) }) lines.1 u
      (subst (λ n. Passage (code_of P f) n w.pair.kept (st.paired f w among).fine.turning.stands) (sym ends) (st.paired f w among).fine.turning.passage)
      (moved u v (onward (end_of v) ∷ v) es ea (under-Q (W P Q accepted st) (A P Q accepted st f) P Q f args result_args u v (sites_of D v) (assigned_of D result_args v).saved o (onward (end_of v)) (Label l.number) k)))

  -- ---- at a kept line

  -- the item of P at which its drawn walk stands, and Q's, which does the same
  pub record AtKept (v u : List Branch) (i : ℕ) (rest : List ℕ) (other stands : ℕ) : Type 0 where
    pub walk : List Branch
    pub over : under.Under (W P Q accepted st) (A P Q accepted st f) P Q f args result_args walk v (sites_of (code_of Q f) v) (assigned_of (code_of Q f) result_args v).saved
    pub item : Instr
    pub at : item_at P f (end_of walk) ≡ Some item
    pub attempted : is_attempted item ≡ true
    pub both : SameItem P Q f (end_of v) item
    pub passage : Passage (code_of P f) (suc (end_of walk)) rest stands
    pub lines : Stands P Q f (suc (end_of v)) (lines_behind (tree_at P f) (labels_in P f) rest other)
    pub count : length (lines_behind (tree_at P f) (labels_in P f) (i ∷ rest) other) ≡ suc (length (lines_behind (tree_at P f) (labels_in P f) rest other))

  pub at-kept : (v u : List Branch) (i : ℕ) (rest : List ℕ) (other stands : ℕ) → Stands P Q f (end_of v) (lines_behind (tree_at P f) (labels_in P f) (i ∷ rest) other) → Passage (code_of P f) (end_of u) (i ∷ rest) stands → Over u v (sites_of D v) (assigned_of D result_args v).saved → AtKept v u i rest other stands
  at-kept v u i rest other stands lines p o =
      let d = p.1 u o.is refl in
      let h = p.2 in
      let g = found P f i h.item h.at in
      let tree = item_tree (names_of_functions P.funcs) V g.function.labels h.item in
      let here : Stands P Q f (end_of v) (tree ∷ lines_behind (tree_at P f) (labels_in P f) rest other) = subst (λ z. Stands P Q f (end_of v) ((listed_item z ++ kept_lines (tree_at P f) rest) ++ jmp_line (named (labels_in P f) other) ∷ [])) g.tree lines in
      let there : item_at P f (end_of d.walk) ≡ Some h.item = ap (item_at P f) d.ends ∙ h.same in
      let same_tree : tree_at P f (end_of d.walk) ≡ tree_at P f i = same_trees (names_of_functions P.funcs) (slice_get P.funcs f) (end_of d.walk) i (there ∙ sym h.at) in
      record {
        walk = d.walk;
        over = drawn-over u v (sites_of D v) (assigned_of D result_args v).saved p.0 d o;
        item = h.item;
        at = there;
        attempted = p.3;
        both = same_item P Q accepted st.heads.names f (end_of d.walk) (end_of v) h.item there (same_tree ∙ g.tree ∙ sym here.0);
        passage = subst (λ n. Passage (code_of P f) (suc n) rest stands) (sym d.ends) p.4;
        lines = here.1;
        count = ap (λ z. length ((listed_item z ++ kept_lines (tree_at P f) rest) ++ jmp_line (named (labels_in P f) other) ∷ [])) g.tree;
      }

  kept-on : (v : List Branch) (b : Branch) (w : SideExit) (among : In w (st.exits f)) → From w v → (i : ℕ) (rest : List ℕ) → InExit w among (end_of v) (length (lines_behind (tree_at P f) (labels_in P f) (i ∷ rest) w.pair.other)) → (u : List Branch)
      → AtKept v u i rest w.pair.other (st.paired f w among).fine.turning.stands → In b (branches_at D (end_of v)) → At (b ∷ v)
  kept-on v b w among from i rest place u h goes =
      let ga = attempted-goes h.item h.attempted in
      let gb = attempted-goes h.both.item (sym (same-attempted (A P Q accepted st f) h.item h.both.item h.both.same) ∙ h.attempted) in
      let e = only-onward v b h.both.item h.both.at (gb.branches D (end_of v)) goes in
      let ka : Keeping C h.walk (onward (end_of h.walk)) h.item = record { at = h.at; from = refl; goes = refl; keeps = ga.keeps } in
      let kb : Keeping D v (onward (end_of v)) h.both.item = record { at = h.both.at; from = refl; goes = refl; keeps = gb.keeps } in
      let es = keeping-sites D v (onward (end_of v)) h.both.item kb in
      let ea = kept-saved v (onward (end_of v)) h.both.item kb in
      let count = h.count in
      let low = place.from in
      let high = place.exact in
      let u' = under-both (W P Q accepted st) (A P Q accepted st f) P Q f args result_args h.walk v (sites_of D v) (assigned_of D result_args v).saved h.over (onward (end_of h.walk)) (onward (end_of v)) h.item h.both.item ka
      (subst (λ l. In (onward (end_of h.walk)) l) (sym (ga.branches C (end_of h.walk))) (inl refl)) kb covers in
      subst (λ z. At (z ∷ v)) (sym e)
      (AtLine w among (from-moved w v (onward (end_of v) ∷ v) es ea from) rest (record { from = omega (arith, low); exact = omega (arith, high, count) }) h.lines (onward (end_of h.walk) ∷ h.walk) h.passage
      (moved (onward (end_of h.walk) ∷ h.walk) v (onward (end_of v) ∷ v) es ea u'))
    where
      covers : Covers (A P Q accepted st f) (assigns_of h.item ++ (assigned_of (code_of P f) args h.walk).locations) (assigns_of h.both.item ++ (assigned_of (code_of Q f) result_args v).locations)
      covers x y matches among' = by (h.both.kept x y matches)
        where
          by : StaysMatched (assigns_of h.item) (assigns_of h.both.item) (A P Q accepted st f) x y → In y (assigns_of h.both.item ++ (assigned_of (code_of Q f) result_args v).locations)
          by (inl k) = in_append_left y (assigns_of h.both.item) (assigned_of (code_of Q f) result_args v).locations k.1
          by (inr k) = in_append_right y (assigns_of h.both.item) (assigned_of (code_of Q f) result_args v).locations (h.over.locations x y k.2 (⊎_elim (λ j. absurd (k.0 j)) (λ j. j) (in_append_cases x (assigns_of h.item) (assigned_of (code_of P f) args h.walk).locations among')))

  -- ---- at the jmp

  -- the other label stands in both programs
  pub record OtherLabel (w : SideExit) (among : In w (st.exits f)) : Type 0 where
    pub point : ℕ
    pub is : point ≡ point_of w.pair.other (code_of P f)
    pub inside : point ≤ length (code_of P f)
    pub there : tree_at Q f (st.old f point) ≡ Some (item.Label (named (labels_in P f) w.pair.other))

  pub other-label : (w : SideExit) (among : In w (st.exits f)) → OtherLabel w among
  other-label w among =
      let t = (st.paired f w among).fine.turning in
      let a : Instr = Act None None op.Br (t.c ∷ []) [] (t.on ∷ t.off ∷ []) in
      let h = found P f t.stands (Act None None op.Br (t.c ∷ []) [] (t.on ∷ t.off ∷ [])) t.turns in
      let below = h.range.targets in
      let less : w.pair.other < length h.function.labels = ⊎_elim (λ e. subst (λ n. n < length h.function.labels) (sym e) below.0) (λ r. ⊎_elim (λ e. subst (λ n. n < length h.function.labels) (sym e) below.1.0) (λ z. absurd z) r) t.other in
      let at : tree_at P f (point_of w.pair.other (code_of P f)) ≡ Some (item.Label (named h.function.labels w.pair.other)) = label_found P f h.function w.pair.other h.there less in
      let names : h.function.labels ≡ labels_in P f = ap labels_here (sym h.there) in
      record {
        point = point_of w.pair.other (code_of P f);
        is = refl;
        inside = label_within w.pair.other (code_of P f);
        there = label-stands P Q accepted st f (point_of w.pair.other (code_of P f)) (named (labels_in P f) w.pair.other) (label_within w.pair.other (code_of P f)) (at ∙ ap (λ l. Some (item.Label (named l w.pair.other))) names);
      }

  jmp-on : (v : List Branch) (b : Branch) (w : SideExit) (among : In w (st.exits f)) → tree_at Q f (end_of v) ≡ Some (jmp_line (named (labels_in P f) w.pair.other)) → (u : List Branch) → Glides (code_of P f) (end_of u) (st.paired f w among).fine.turning.stands
      → Over u v (sites_of D v) (assigned_of D result_args v).saved → In b (branches_at D (end_of v)) → At (b ∷ v)
  jmp-on v b w among line u glides o goes =
      let t = (st.paired f w among).fine.turning in
      let d = glides u o.is refl in
      let d' = glide-turn (code_of P f) t.stands t.c t.on t.off w.pair.other t.turns t.other d.walk d.is d.ends in
      let ol = other-label w among in
      let name = named (labels_in P f) w.pair.other in
      let j = action_at Q f (end_of v) None op.Jmp [] [] (named (labels_in P f) w.pair.other ∷ []) line in
      let s = in_map_source (jump D (end_of v)) b j.targets (subst (λ z. In b (branches_from D (end_of v) z)) j.at goes) in
      let to = one_target Q f (end_of v) None op.Jmp [] [] (named (labels_in P f) w.pair.other) j (st.old f ol.point) ol.there s.0 s.1 in
      let k : Keeping D v (jump D (end_of v) s.0) (Act j.assigned j.ty op.Jmp j.arguments j.callees j.targets) = record { at = j.at; from = refl; goes = refl; keeps = refl } in
      let es = keeping-sites D v (jump D (end_of v) s.0) (Act j.assigned j.ty op.Jmp j.arguments j.callees j.targets) k in
      let ea = kept-saved v (jump D (end_of v) s.0) (Act j.assigned j.ty op.Jmp j.arguments j.callees j.targets) k in
      let o1 = drawn-over u v (sites_of D v) (assigned_of D result_args v).saved t.stands d o in
      let o2 = drawn-over d.walk v (sites_of D v) (assigned_of D result_args v).saved (point_of w.pair.other (code_of P f)) d' o1 in
      let o3 = moved d'.walk v (jump D (end_of v) s.0 ∷ v) es ea (under-Q (W P Q accepted st) (A P Q accepted st f) P Q f args result_args d'.walk v (sites_of D v) (assigned_of D result_args v).saved o2 (jump D (end_of v) s.0) (Act j.assigned j.ty op.Jmp j.arguments j.callees j.targets) k) in
      subst (λ z. At (z ∷ v)) (sym s.2)
      (Outside (record { walk = d'.walk; matches = record { is = o3.is; points = to ∙ ap (st.old f) (ol.is ∙ sym d'.ends); locations = o3.locations; saved = o3.saved } }))

  -- ---- at a paired guard

  -- both programs' guards, which test variables of one name
  pub record AtGuard (v : List Branch) (i : ℕ) (w : SideExit) : Type 0 where
    pub among : In w (st.exits f)
    pub c : ℕ
    pub label : ℕ
    pub atP : item_at P f i ≡ Some (Act None None op.Guard (c ∷ []) [] (label ∷ []))
    pub to_bail : label ≡ w.pair.bail
    pub below : c < length (names_in (slice_get P.funcs f))
    pub q : ActionAt Q f (end_of v) None op.Guard (named (names_in (slice_get P.funcs f)) c ∷ []) [] (w.name ∷ [])

  pub at-guard : (v : List Branch) (i : ℕ) (w : SideExit) → end_of v ≡ st.old f i → i ≤ length (code_of P f) → exit_at (st.exits f) i ≡ Some w → AtGuard v i w
  at-guard v i w point inside is =
      let o = st.owners f i w is in
      let p = st.paired f w o.0 in
      let c = p.fine.tested in
      let label = p.fine.guards.0 in
      let at : item_at P f i ≡ Some (Act None None op.Guard (p.fine.tested ∷ []) [] (p.fine.guards.0 ∷ [])) = ap (item_at P f) (sym o.1) ∙ p.fine.guards.1 in
      let g = found P f i (Act None None op.Guard (p.fine.tested ∷ []) [] (p.fine.guards.0 ∷ [])) at in
      let tree : tree_at Q f (end_of v) ≡ Some (item.Act None op.Guard (named V p.fine.tested ∷ []) [] (w.name ∷ [])) = ap (tree_at Q f) point ∙ st.placed f i inside ∙ ap (λ z. option_map (retargeted_by z) (tree_at P f i)) is ∙ ap (option_map (retargeted w.name)) g.tree in
      let n = p.run.start in
      let low = p.fine.low in
      let high = p.fine.high in
      let place = in-run p.run.start p.run.size w.pair.guard low high in
      let at_n : slice_get (code_of P f) (suc (p.run.start + place.0)) ≡ Some (Act None None op.Guard (p.fine.tested ∷ []) [] (p.fine.guards.0 ∷ [])) = ap (slice_get (code_of P f)) (sym place.2) ∙ p.fine.guards.1 in
      let names : p.fine.guards.0 ∷ [] ≡ p.run.bail ∷ [] = ap labels_of_item (sym at_n) ∙ p.is.guards place.0 place.1 (ap is_guard at_n) in
      let one : p.fine.guards.0 ≡ p.run.bail = ap (λ l. slice_index l 0) names in
      record { among = o.0; c = p.fine.tested; label = p.fine.guards.0; atP = at; to_bail = one ∙ sym p.fine.bail; below = g.range.variables.0; q = action_at Q f (end_of v) None op.Guard (named V p.fine.tested ∷ []) [] (w.name ∷ []) tree }
    where
      in-run : (start size guard : ℕ) → suc start ≤ guard → guard < suc (start + size) → (n : ℕ) × (n < size) × (guard ≡ suc (start + n))
      in-run start size guard low high = (guard - suc start, omega (arith, low, high), omega (arith, low))

  guard-on : (v : List Branch) (b : Branch) (l : MatchedWalk (W P Q accepted st) P Q f args result_args v) (w : SideExit) → AtGuard v (end_of l.walk) w → In b (branches_at D (end_of v)) → At (b ∷ v)
  guard-on v b l w g goes = by (subst (λ z. In b (branches_from D (end_of v) z)) g.q.at goes)
    where
      a : Instr
      a = Act None None op.Guard (g.c ∷ []) [] (g.label ∷ [])

      y : Instr
      y = Act g.q.assigned g.q.ty op.Guard g.q.arguments g.q.callees g.q.targets

      by : In b (onward (end_of v) ∷ map (abort (code_of Q f) (end_of v)) g.q.targets) → At (b ∷ v)
      by (inl e) =
          let a = Act None None op.Guard (g.c ∷ []) [] (g.label ∷ []) in
          let y = Act g.q.assigned g.q.ty op.Guard g.q.arguments g.q.callees g.q.targets in
          let ka : Keeping C l.walk (onward (end_of l.walk)) (Act None None op.Guard (g.c ∷ []) [] (g.label ∷ [])) = record { at = g.atP; from = refl; goes = refl; keeps = refl } in
          let kb : Keeping D v (onward (end_of v)) (Act g.q.assigned g.q.ty op.Guard g.q.arguments g.q.callees g.q.targets) = record { at = g.q.at; from = refl; goes = refl; keeps = refl } in
          let es = keeping-sites D v (onward (end_of v)) (Act g.q.assigned g.q.ty op.Guard g.q.arguments g.q.callees g.q.targets) kb in
          let ea = kept-saved v (onward (end_of v)) (Act g.q.assigned g.q.ty op.Guard g.q.arguments g.q.callees g.q.targets) kb in
          let o : Over l.walk v (sites_of D v) (assigned_of D result_args v).saved = record { is = l.matches.is; locations = l.matches.locations; saved = l.matches.saved } in
          let o1 = under-both (W P Q accepted st) (A P Q accepted st f) P Q f args result_args l.walk v (sites_of D v) (assigned_of D result_args v).saved o (onward (end_of l.walk)) (onward (end_of v))
          (Act None None op.Guard (g.c ∷ []) [] (g.label ∷ [])) (Act g.q.assigned g.q.ty op.Guard g.q.arguments g.q.callees g.q.targets) ka (inl refl) kb
          (λ p q matches i. in_append_right q (assigns_of (Act g.q.assigned g.q.ty op.Guard g.q.arguments g.q.callees g.q.targets)) (assigned_of (code_of Q f) result_args v).locations (l.matches.locations p q matches i)) in
          let o2 = moved (onward (end_of l.walk) ∷ l.walk) v (onward (end_of v) ∷ v) es ea o1 in
          let n = st.next f (end_of l.walk) in
          let z = st.alone f (end_of l.walk) (Act None None op.Guard (g.c ∷ []) [] (g.label ∷ [])) g.atP refl in
          let point = l.matches.points in
          subst (λ z. At (z ∷ v)) (sym e) (Outside (record { walk = onward (end_of l.walk) ∷ l.walk; matches = record { is = o2.is; points = omega (arith, n, z, point); locations = o2.locations; saved = o2.saved } }))
      by (inr m) = aborts (in_map_source (abort (code_of Q f) (end_of v)) b g.q.targets m)
        where
          aborts : (t : ℕ) × In t g.q.targets × (b ≡ abort (code_of Q f) (end_of v) t) → At (b ∷ v)
          aborts s =
              let p = st.paired f w g.among in
              let before = st.stands f w g.among in
              let to = one_target Q f (end_of v) None op.Guard (named V g.c ∷ []) [] w.name g.q before.point before.lines.0 s.0 s.1 in
              let x = abort C (end_of l.walk) g.label in
              let z = abort D (end_of v) s.0 in
              let sp = sites-effect C l.walk (abort C (end_of l.walk) g.label) (Some (Act None None op.Guard (g.c ∷ []) [] (g.label ∷ []))) g.atP refl in
              let sq = sites-effect D v (abort D (end_of v) s.0) (Some (Act g.q.assigned g.q.ty op.Guard g.q.arguments g.q.callees g.q.targets)) g.q.at refl in
              let ap' = assigned-effect C args l.walk (abort C (end_of l.walk) g.label) (Some (Act None None op.Guard (g.c ∷ []) [] (g.label ∷ []))) g.atP refl in
              let aq = assigned-effect D result_args v (abort D (end_of v) s.0) (Some (Act g.q.assigned g.q.ty op.Guard g.q.arguments g.q.callees g.q.targets)) g.q.at refl in
              let is : IsWalk C (abort C (end_of l.walk) g.label ∷ l.walk) =
              (contains_in (abort C (end_of l.walk) g.label) (branches_at C (end_of l.walk)) (subst (λ o. In (abort C (end_of l.walk) g.label) (branches_from C (end_of l.walk) o)) (sym g.atP) (inr (inl refl))), l.matches.is) in
              let some : sites_of C l.walk ≡ [] → ⊥ = some_site C l.walk was.sites l.matches.is (ap needs_site g.atP) in
              let zip = l.matches.saved in
              let covers = back (sites_of C l.walk) (sites_of D v) (assigned_of C args l.walk).saved (assigned_of D result_args v).saved (assigned_of C args l.walk).locations (assigned_of D result_args v).locations zip some in
              let rest = older (sites_of C l.walk) (sites_of D v) (assigned_of C args l.walk).saved (assigned_of D result_args v).saved zip in
              let saved : SavedSetsMatch (W P Q accepted st) P Q f args result_args (sites_of C (abort C (end_of l.walk) g.label ∷ l.walk)) (sites_of D (abort D (end_of v) s.0 ∷ v)) (assigned_of C args (abort C (end_of l.walk) g.label ∷ l.walk)).saved (assigned_of D result_args (abort D (end_of v) s.0 ∷ v)).saved =
              subst (λ k. SavedSetsMatch (W P Q accepted st) P Q f args result_args k (sites_of D (abort D (end_of v) s.0 ∷ v)) (assigned_of C args (abort C (end_of l.walk) g.label ∷ l.walk)).saved (assigned_of D result_args (abort D (end_of v) s.0 ∷ v)).saved) (sym sp)
              (subst (λ k. SavedSetsMatch (W P Q accepted st) P Q f args result_args (without_newest (sites_of C l.walk)) k (assigned_of C args (abort C (end_of l.walk) g.label ∷ l.walk)).saved (assigned_of D result_args (abort D (end_of v) s.0 ∷ v)).saved) (sym sq)
              (subst (λ (k : Assigned). SavedSetsMatch (W P Q accepted st) P Q f args result_args (without_newest (sites_of C l.walk)) (without_newest (sites_of D v)) k.saved (assigned_of D result_args (abort D (end_of v) s.0 ∷ v)).saved) (sym ap')
              (subst (λ (k : Assigned). SavedSetsMatch (W P Q accepted st) P Q f args result_args (without_newest (sites_of C l.walk)) (without_newest (sites_of D v)) (without_newest (assigned_of C args l.walk).saved) k.saved) (sym aq) rest))) in
              let locations : Covers (A P Q accepted st f) (assigned_of C args (abort C (end_of l.walk) g.label ∷ l.walk)).locations (assigned_of D result_args (abort D (end_of v) s.0 ∷ v)).locations =
              subst (λ (k : Assigned). Covers (A P Q accepted st f) k.locations (assigned_of D result_args (abort D (end_of v) s.0 ∷ v)).locations) (sym ap')
              (subst (λ (k : Assigned). Covers (A P Q accepted st f) (newest_saved (assigned_of C args l.walk).locations (assigned_of C args l.walk).saved) k.locations) (sym aq) covers) in
              let ends : end_of (abort C (end_of l.walk) g.label ∷ l.walk) ≡ bail w = ap (λ n. point_of n C) g.to_bail in
              subst (λ k. At (k ∷ v)) (sym s.2)
              (AtLabel w g.among (record { base = abort C (end_of l.walk) g.label ∷ l.walk; is = is; ends = ends; saved = saved })
              (record { from = omega (arith, to); exact = omega (arith, to) })
              (subst (λ n. Stands P Q f n (exit_lines (tree_at P f) (labels_in P f) w)) (sym to) before.lines)
              (abort C (end_of l.walk) g.label ∷ l.walk) ends (record { is = is; locations = locations; saved = saved }))
            where
              back : (ss ts : List ℕ) (xs ys : List (List Location)) (here there : List Location) → SavedSetsMatch (W P Q accepted st) P Q f args result_args ss ts xs ys → (ss ≡ [] → ⊥) → Covers (A P Q accepted st f) (newest_saved here xs) (newest_saved there ys)
              back [] [] [] [] here there h some = absurd (some refl)
              back (s ∷ ss) (t ∷ ts) (x ∷ xs) (y ∷ ys) here there h some = h.0.2
              back _ _ _ _ here there h some = absurd h

              older : (ss ts : List ℕ) (xs ys : List (List Location)) → SavedSetsMatch (W P Q accepted st) P Q f args result_args ss ts xs ys → SavedSetsMatch (W P Q accepted st) P Q f args result_args (without_newest ss) (without_newest ts) (without_newest xs) (without_newest ys)
              older [] [] [] [] h = tt
              older (s ∷ ss) (t ∷ ts) (x ∷ xs) (y ∷ ys) h = h.1
              older _ _ _ _ h = absurd h

  -- ---- all walks

  outside-on : (v : List Branch) (b : Branch) → MatchedWalk (W P Q accepted st) P Q f args result_args v → In b (branches_at D (end_of v)) → At (b ∷ v)
  outside-on v b l goes = by (exit_at (st.exits f) (end_of l.walk)) refl
    where
      by : (o : Option SideExit) → exit_at (st.exits f) (end_of l.walk) ≡ o → At (b ∷ v)
      by None none = Outside (regular_branch_matched (W P Q accepted st) P Q f args result_args accepted (walking-preserves P Q accepted st) v b (record { walk = l.walk; matches = l.matches; regular = none }) goes)
      by (Some w) is = guard-on v b l w (at-guard v (end_of l.walk) w l.matches.points (walk_within (code_of P f) l.walk l.matches.is) is) goes

  at-on : (v : List Branch) (b : Branch) → At v → In b (branches_at D (end_of v)) → At (b ∷ v)
  at-on v b (Outside l) goes = outside-on v b l goes
  at-on v b (AtLabel w among from place lines u ends o) goes = label-on v b w among from place lines u ends o goes
  at-on v b (AtLine w among from [] place lines u p o) goes = jmp-on v b w among lines.0 u p o goes
  at-on v b (AtLine w among from (i ∷ rest) place lines u p o) goes = kept-on v b w among from i rest place u (at-kept v u i rest w.pair.other (st.paired f w among).fine.turning.stands lines p o) goes

  pub all-at : MatchedWalk (W P Q accepted st) P Q f args result_args [] → (v : List Branch) → IsWalk (code_of Q f) v → At v
  all-at start [] is = Outside start
  all-at start (b ∷ v) is = at-on v b (all-at start v is.1) (in_contains b (branches_at (code_of Q f) (end_of v)) is.0)
