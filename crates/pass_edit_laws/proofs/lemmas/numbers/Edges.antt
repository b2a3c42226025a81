-- The edges from a regular pair of points, and the labels to which they go.
use Rattle.std.proofs.Common.{◌≡◌, ◌⊎◌, ℕ, inl, inr, Bool, true, false, List, [], ◌∷◌, length, map, Option, Some, None, refl, sym, ap, subst, ◌∙◌}
use Rattle.std.specs.Prelude.{slice_get}
use Rattle.std.specs.Option.{option_map}
use Rattle.std.proofs.lemmas.Option.{same_Some}
use Rattle.bril_tree.specs.declared.edge.Edge.{Edge}
use Rattle.bril_tree.specs.declared.function_tree.Item.TheVariants as item
use Rattle.bril_tree.specs.declared.numbered.Instr.{Instr}
use Rattle.bril_tree.specs.declared.numbered.Instr.TheVariants.{Label, Const, Act}
use Rattle.bril_tree.specs.declared.numbered_function.Func.{Func}
use Rattle.bril_tree.specs.declared.operation.Op.{Op}
use Rattle.bril_tree.specs.declared.operation.Op.TheVariants as op
use Rattle.bril_tree.specs.declared.program.Prog.{Prog}
use Rattle.bril_tree.specs.Edge.{Branch, action_branches, branches_at, branches_from, onward}
use Rattle.bril_tree.specs.FunctionForm.{targets_of}
use Rattle.bril_tree.specs.Leaving.{IsEdge, edge_of, leave_of}
use Rattle.bril_tree.specs.Membership.{In}
use Rattle.bril_tree.specs.Numbered.{item_tree, named, names_of_functions, point_tree, tree_at, variable_names}
use Rattle.bril_tree.specs.Operand.{Location}
use Rattle.bril_tree.specs.Sites.{Opens, item_change, sites_of}
use Rattle.bril_tree.specs.Step.{code_of, item_at, point_of}
use Rattle.bril_tree.specs.Walk.{end_of}
use Rattle.bril_tree.proofs.Assignments.{site_speculates}
use Rattle.bril_tree.proofs.Branches.{branch_from}
use Rattle.bril_tree.proofs.Elements.{zip-find}
use Rattle.bril_tree.proofs.Formed.{target_below}
use Rattle.bril_tree.proofs.LabelPoints.{label-point}
use Rattle.bril_tree.proofs.Members.{contains_in, in_contains, in_map_source}
use Rattle.pass_edit_laws.specs.plan.Plan.{EdgesMatch, Plan, Preserves}
use Rattle.pass_edit_laws.specs.walks.Matched.{RegularWalk, SavedSetsMatch}

-- ---- labels

pub label-tree : (fs V ls : List (List ℕ)) (o : Option Instr) (name : List ℕ) → option_map (item_tree fs V ls) o ≡ Some (item.Label name) → (m : ℕ) × (o ≡ Some (Label m)) × (named ls m ≡ name)
label-tree fs V ls None name e = absurd (let n : None ≡ Some (item.Label name) = e in cc)
label-tree fs V ls (Some (Label m)) name e = (m, refl, (let s : item.Label (named ls m) ≡ item.Label name = same_Some _ _ e in cc))
label-tree fs V ls (Some (Const d ty v)) name e = absurd (let s : item_tree fs V ls (Const d ty v) ≡ item.Label name = same_Some _ _ e in cc)
label-tree fs V ls (Some (Act d ty o args fns labels)) name e = absurd (let s : item_tree fs V ls (Act d ty o args fns labels) ≡ item.Label name = same_Some _ _ e in cc)

module _ (P Q : Prog) (f : ℕ) (F G : Func) (p : slice_get P.funcs f ≡ Some F) (q : slice_get Q.funcs f ≡ Some G) where
  -- where the trees of two points are one, a label of Q is one of P
  pub label-back : (i j l : ℕ) → tree_at P f i ≡ tree_at Q f j → slice_get G.code j ≡ Some (Label l) → (m : ℕ) × (slice_get F.code i ≡ Some (Label m)) × (named F.labels m ≡ named G.labels l)
  label-back i j l same at =
      let mine = ap (λ o. point_tree (names_of_functions P.funcs) o i) p in
      let theirs = ap (λ o. point_tree (names_of_functions Q.funcs) o j) q in
      label-tree (names_of_functions P.funcs) (variable_names F.vars) F.labels (slice_get F.code i) (named G.labels l)
      (sym mine ∙ same ∙ theirs ∙ ap (option_map (item_tree (names_of_functions Q.funcs) (variable_names G.vars) G.labels)) at)

-- ---- edges

module _ (m : Plan) (P Q : Prog) (f args result_args : ℕ) (preserves : Preserves m P Q) where
  -- the points are a regular pair
  abbrev pub Pair : ℕ → ℕ → Type 0
  Pair i j = m.PointsMatch f i j × m.IsRegular f i j

  -- an edge of Q, and one of P that leaves from a point that matches and goes to one
  pub record EdgeMatched (leave to : ℕ) : Type 0 where
    pub edge : Edge
    pub is : IsEdge (code_of P f) edge
    pub leaves : Pair edge.leave leave
    pub points : m.PointsMatch f edge.to to

  pub same-leave : (x y : Bool) → x ≡ y → (i j : ℕ) → Pair i j → (ss ts : List ℕ) (xs ys : List (List Location)) → SavedSetsMatch m P Q f args result_args ss ts xs ys → Pair (leave_of x i ss) (leave_of y j ts)
  same-leave false false e i j pair ss ts xs ys h = pair
  same-leave false true e i j pair ss ts xs ys h = absurd cc
  same-leave true false e i j pair ss ts xs ys h = absurd cc
  same-leave true true e i j pair [] [] [] [] h = pair
  same-leave true true e i j pair (s ∷ ss) (t ∷ ts) (x ∷ xs) (y ∷ ys) h = (h.0.0, h.0.1)
  same-leave true true e i j pair _ _ _ _ h = absurd h

  pub edge-back : (v : List Branch) (b : Branch) → RegularWalk m P Q f args result_args v → In b (branches_at (code_of Q f) (end_of v)) → EdgeMatched (edge_of (sites_of (code_of Q f) v) b).leave b.to
  edge-back v b s among =
      let i = end_of s.walk in
      let j = end_of v in
      let steps = preserves.steps f i j (record { walk = s.walk; is = s.matches.is; ends = refl }) s.matches.points s.regular in
      let found = zip-find (EdgesMatch m P Q f i j (item_at P f i) (item_at Q f j)) (branches_at (code_of P f) i) (branches_at (code_of Q f) j) b steps.branches among in
      let w = found.0 in
      let mine = branch_from (code_of P f) i w found.1 in
      let theirs = branch_from (code_of Q f) j b among in
      let pair : Pair w.from b.from = (subst (λ k. m.PointsMatch f k b.from) (sym mine) (subst (m.PointsMatch f i) (sym theirs) s.matches.points), subst (λ k. m.IsRegular f k b.from) (sym mine) (subst (m.IsRegular f i) (sym theirs) s.regular)) in
      record {
        edge = edge_of (sites_of (code_of P f) s.walk) w;
        is = record { walk = s.walk; is = s.matches.is; branch = w; at = contains_in w (branches_at (code_of P f) i) found.1; are = refl };
        leaves = same-leave w.aborts b.aborts found.2.aborts w.from b.from pair (sites_of (code_of P f) s.walk) (sites_of (code_of Q f) v) _ _ s.matches.saved;
        points = found.2.points;
      }

-- ---- where edges leave and where they go

-- an edge leaves from an item
pub edge-leaves : (code : List Instr) (edge : Edge) → IsEdge code edge → (a : Instr) × (slice_get code edge.leave ≡ Some a)
edge-leaves code edge e = subst (λ n. (a : Instr) × (slice_get code n ≡ Some a)) (sym (ap (λ (d : Edge). d.leave) e.are)) (by e.branch.aborts (sites_of code e.walk) refl)
  where
    among : In e.branch (branches_at code (end_of e.walk))
    among = in_contains e.branch (branches_at code (end_of e.walk)) e.at

    own : (o : Option Instr) → slice_get code (end_of e.walk) ≡ o → (a : Instr) × (slice_get code (end_of e.walk) ≡ Some a)
    own None at = absurd (subst (λ o. In e.branch (branches_from code (end_of e.walk) o)) at among)
    own (Some a) at = (a, at)

    from : (a : Instr) × (slice_get code e.branch.from ≡ Some a)
    from = subst (λ n. (a : Instr) × (slice_get code n ≡ Some a)) (sym (branch_from code (end_of e.walk) e.branch among)) (own (slice_get code (end_of e.walk)) refl)

    opened : (s : ℕ) (o : Option Instr) → slice_get code s ≡ o → item_change (slice_get code s) false ≡ Opens → (a : Instr) × (slice_get code s ≡ Some a)
    opened s None at opens = absurd (let h = ap (λ o. item_change o false) (sym at) ∙ opens in cc)
    opened s (Some a) at opens = (a, at)

    by : (b : Bool) (ss : List ℕ) → sites_of code e.walk ≡ ss → (a : Instr) × (slice_get code (leave_of b e.branch.from ss) ≡ Some a)
    by false ss same = from
    by true [] same = from
    by true (s ∷ ss) same = opened s (slice_get code s) refl (site_speculates code e.walk s (subst (In s) (sym same) (inl refl)))

-- a target of an item of a function stands at its point
target-point : (F : Func) (i : ℕ) (a : Instr) (l : ℕ) → slice_get F.code i ≡ Some a → In l (targets_of a) → slice_get F.code (point_of l F.code) ≡ Some (Label l)
target-point F i a l at among = label-point l (length F.labels) F.code F.formed.placed (target_below F i a at l among)

-- a branch goes on, or to a label
pub lands : (F : Func) (i : ℕ) (w : Branch) → In w (branches_at F.code i) → (w ≡ onward i) ⊎ ((l : ℕ) × (slice_get F.code w.to ≡ Some (Label l)))
lands F i w among = by (slice_get F.code i) refl among
  where
    next : In w (onward i ∷ []) → (w ≡ onward i) ⊎ ((l : ℕ) × (slice_get F.code w.to ≡ Some (Label l)))
    next (inl e) = inl e
    next (inr n) = absurd n

    goes : (labels : List ℕ) (abort : Bool) → ((l : ℕ) → In l labels → slice_get F.code (point_of l F.code) ≡ Some (Label l)) → In w (map (λ l. record { from = i; to = point_of l F.code; aborts = abort }) labels) → (w ≡ onward i) ⊎ ((l : ℕ) × (slice_get F.code w.to ≡ Some (Label l)))
    goes labels abort stands h =
        let s = in_map_source (λ l. record { from = i; to = point_of l F.code; aborts = abort }) w labels h in
        inr (s.0, ap (λ (b : Branch). slice_get F.code b.to) s.2 ∙ stands s.0 s.1)

    action : (o : Op) (labels : List ℕ) → ((l : ℕ) → In l labels → slice_get F.code (point_of l F.code) ≡ Some (Label l)) → In w (action_branches F.code i o labels) → (w ≡ onward i) ⊎ ((l : ℕ) × (slice_get F.code w.to ≡ Some (Label l)))
    action op.Jmp labels stands h = goes labels false stands h
    action op.Br labels stands h = goes labels false stands h
    action op.Ret labels stands h = absurd h
    action op.Guard labels stands (inl e) = inl e
    action op.Guard labels stands (inr h) = goes labels true stands h
    action _ labels stands h = next h

    by : (o : Option Instr) → slice_get F.code i ≡ o → In w (branches_from F.code i o) → (w ≡ onward i) ⊎ ((l : ℕ) × (slice_get F.code w.to ≡ Some (Label l)))
    by None at h = absurd h
    by (Some (Label l)) at h = next h
    by (Some (Const d ty v)) at h = next h
    by (Some (Act d ty o args fns labels)) at h = action o labels (λ l k. target-point F i (Act d ty o args fns labels) l at k) h
