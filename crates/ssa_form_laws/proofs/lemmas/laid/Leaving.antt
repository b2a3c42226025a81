-- Where edges leave to labels: the rows of a function, and where a label is entered from the item before it.
use Rattle.std.proofs.Common.{◌≡◌, ℕ, suc, ◌<◌, ◌≤◌, Bool, true, false, cond, ◌||◌, List, [], ◌∷◌, length, Option, Some, None, refl, sym, ap, subst, ◌∙◌, inl, ⊎_elim, arith}
use Rattle.std.specs.Prelude.{◌==◌, not, slice_get, slice_index_or}
use Rattle.std.specs.List.{filter}
use Rattle.std.proofs.lemmas.Bool.{and_from, and_parts, cases_lt, eq-eqb, eqb-true, or_right}
use Rattle.std.proofs.lemmas.List.{get_or_past}
use Rattle.bril_tree.specs.declared.edge.Edge.{Edge}
use Rattle.bril_tree.specs.declared.function_tree.FuncTree.{FuncTree}
use Rattle.bril_tree.specs.declared.numbered.Instr.{Instr}
use Rattle.bril_tree.specs.declared.numbered.Instr.TheVariants.{Label, Const, Act}
use Rattle.bril_tree.specs.declared.numbered_function.Func.{Func}
use Rattle.bril_tree.specs.declared.operation.Op.TheVariants as op
use Rattle.bril_tree.specs.Edge.{Branch, branches_at, branches_from, onward}
use Rattle.bril_tree.specs.Leaving.{IsEdge, edge_of, leave_of}
use Rattle.bril_tree.specs.Membership.{In}
use Rattle.bril_tree.specs.Operand.{dest_of}
use Rattle.bril_tree.specs.Shape.{is_shaped, shape_of}
use Rattle.bril_tree.specs.Sites.{AreSitesSound, Closes, item_change, sites_of}
use Rattle.bril_tree.specs.Walk.{IsReached, IsWalk, end_of}
use Rattle.bril_tree.proofs.Assignments.{site_speculates}
use Rattle.bril_tree.proofs.Branches.{aborts-close, branch_from, opens-or_closes}
use Rattle.bril_tree.proofs.Members.{contains_in, in_contains, in_map, in_map_source}
use Rattle.bril_tree.proofs.Shapes.{closing_needs, dest_none}
use Rattle.flow_graph.specs.declared.reads.Access.{Access}
use Rattle.flow_graph.proofs.Told.{edge_listed, edge_told, sites_of_walk, some_site, walk_to}
use Rattle.pass_edit_laws.proofs.lemmas.numbers.Different.{filter_in, in_filter}
use Rattle.ssa_build.specs.code.Rows.{leave_of as access_of, leaves_before, leaves_of}
use Rattle.ssa_build.specs.code.Sweep.{falls_at, goes_on, reached_at}
use Rattle.ssa_laws.specs.inserted_copies.Inserted.{is_copy, is_jump}
use Rattle.ssa_laws.specs.layout.Laid.{Aborts, Jumps, LeavesTo}
use Rattle.ssa_laws.proofs.lemmas.reaching_definitions.Dominance.{opened, part-walk}
use Rattle.ssa_build.specs.tree.Made.{IsLaidFunction}
use Rattle.ssa_search.specs.placing.Wanted.{is_label}

-- ---- items

-- a jump doesn't abort
jump-stays : (code : List Instr) (p : ℕ) (o : Option Instr) (w : Branch) → is_jump o ≡ true → In w (branches_from code p o) → (b : Bool) → w.aborts ≡ b → w.aborts ≡ false
jump-stays code p o w j i false e = e
jump-stays code p o w j i true e = absurd (by o j (aborts-close code p o w i e))
  where
    by : (o : Option Instr) → is_jump o ≡ true → item_change o true ≡ Closes → ⊥
    by None j c = cc
    by (Some (Label l)) j c = cc
    by (Some (Const d ty v)) j c = cc
    by (Some (Act d ty op.Jmp args fns ls)) j c = cc
    by (Some (Act d ty op.Br args fns ls)) j c = cc
    by (Some (Act d ty _ args fns ls)) j c = let e : false ≡ true = j in cc

-- a jump assigns nothing, and copies nothing
pub jump-bare : (ret : Bool) (a : Instr) → is_shaped ret a ≡ true → is_jump (Some a) ≡ true → (dest_of a ≡ None) × (is_copy (Some a) ≡ false)
jump-bare ret (Label l) s j = absurd cc
jump-bare ret (Const d ty v) s j = absurd cc
jump-bare ret (Act d ty op.Jmp args fns ls) s j = (dest_none (shape_of ret op.Jmp) d (length args) (length fns) (length ls) refl s, refl)
jump-bare ret (Act d ty op.Br args fns ls) s j = (dest_none (shape_of ret op.Br) d (length args) (length fns) (length ls) refl s, refl)
jump-bare ret (Act d ty _ args fns ls) s j = absurd (let e : false ≡ true = j in cc)

or-first : (b c : Bool) → (b || c) ≡ true → c ≡ false → b ≡ true
or-first true c h e = refl
or-first false c h e = absurd (let k : false ≡ true = sym e ∙ h in cc)

goes-branch : (code : List Instr) (p : ℕ) (o : Option Instr) → goes_on o ≡ true → In (onward p) (branches_from code p o)
goes-branch code p None e = absurd cc
goes-branch code p (Some (Label l)) e = inl refl
goes-branch code p (Some (Const d ty v)) e = inl refl
goes-branch code p (Some (Act d ty op.Jmp args fns ls)) e = absurd cc
goes-branch code p (Some (Act d ty op.Br args fns ls)) e = absurd cc
goes-branch code p (Some (Act d ty op.Ret args fns ls)) e = absurd cc
goes-branch code p (Some (Act d ty op.Guard args fns ls)) e = inl refl
goes-branch code p (Some (Act d ty _ args fns ls)) e = inl refl

branch-goes : (code : List Instr) (p : ℕ) (o : Option Instr) → is_jump o ≡ false → In (onward p) (branches_from code p o) → goes_on o ≡ true
branch-goes code p None j i = absurd i
branch-goes code p (Some (Label l)) j i = refl
branch-goes code p (Some (Const d ty v)) j i = refl
branch-goes code p (Some (Act d ty op.Jmp args fns ls)) j i = absurd cc
branch-goes code p (Some (Act d ty op.Br args fns ls)) j i = absurd cc
branch-goes code p (Some (Act d ty op.Ret args fns ls)) j i = absurd i
branch-goes code p (Some (Act d ty _ args fns ls)) j i = refl

-- ---- edges to labels before whose leave point their `set`s stand

module _ (code : List Instr) (sound : AreSitesSound code) where
  first-site : (walk : List Branch) (s : ℕ) (sites : List ℕ) → sites_of code walk ≡ s ∷ sites → In s (sites_of code walk)
  first-site walk s sites are = subst (In s) (sym are) (inl refl)

  pub site-reached : (walk : List Branch) → IsWalk code walk → (s : ℕ) (sites : List ℕ) → sites_of code walk ≡ s ∷ sites → IsReached code s
  site-reached walk is s sites are =
      let o = opened code walk s is (first-site walk s sites are) in
      record { walk = o.walk; is = (part-walk code (o.branch ∷ o.walk) walk o.part is).1; ends = o.ends }

  -- such an edge leaves from a reached point, by a jump or by an abort
  pub leaves-by : (e : Edge) → IsEdge code e → leaves_before code e ≡ true → IsReached code e.leave × LeavesTo code e.leave e.to
  leaves-by e ie before = by ie.branch.aborts refl (sites_of code ie.walk) refl
    where
      among : In ie.branch (branches_at code (end_of ie.walk))
      among = in_contains ie.branch (branches_at code (end_of ie.walk)) ie.at

      to : ie.branch.to ≡ e.to
      to = ap (λ (x : Edge). x.to) (sym ie.are)

      from : e.from ≡ ie.branch.from
      from = ap (λ (x : Edge). x.from) ie.are

      leave : (b : Bool) → ie.branch.aborts ≡ b → (sites : List ℕ) → sites_of code ie.walk ≡ sites → e.leave ≡ leave_of b ie.branch.from sites
      leave b aborts sites are = ap (λ (x : Edge). x.leave) ie.are ∙ ap (λ b. leave_of b ie.branch.from (sites_of code ie.walk)) aborts ∙ ap (leave_of b ie.branch.from) are

      by : (b : Bool) → ie.branch.aborts ≡ b → (sites : List ℕ) → sites_of code ie.walk ≡ sites → IsReached code e.leave × LeavesTo code e.leave e.to
      by false plain sites are =
          let here : e.leave ≡ ie.branch.from = leave false plain sites are in
          let ends : end_of ie.walk ≡ e.leave = sym (branch_from code (end_of ie.walk) ie.branch among) ∙ sym here in
          let own : not (e.leave == e.from) ≡ false = ap not (eq-eqb e.leave e.from (here ∙ sym from)) in
          let jumps = or-first (is_jump (slice_get code e.leave)) (not (e.leave == e.from)) (and_parts (is_label (slice_get code e.to)) (is_jump (slice_get code e.leave) || not (e.leave == e.from)) before).1 own in (
            record { walk = ie.walk; is = ie.is; ends = ends },
            Jumps ie.branch jumps (subst (λ p. In ie.branch (branches_at code p)) ends among) to,
          )
      by true aborts [] none = absurd (some_site code ie.walk sound ie.is (closing_needs (slice_get code (end_of ie.walk)) true (aborts-close code (end_of ie.walk) (slice_get code (end_of ie.walk)) ie.branch among aborts)) none)
      by true aborts (s ∷ older) are =
          let here : e.leave ≡ s = leave true aborts (s ∷ older) are in
          let own : sites_of code ie.walk ≡ e.leave ∷ older = are ∙ ap (λ p. p ∷ older) (sym here) in
          (site-reached ie.walk ie.is e.leave older own, Aborts ie.walk ie.branch older ie.is among aborts own to)

  -- and where an edge leaves so, there is one
  pub leaving-edge : (i k : ℕ) → IsReached code i → is_label (slice_get code k) ≡ true → LeavesTo code i k → (e : Edge) × IsEdge code e × (leaves_before code e ≡ true) × (e.leave ≡ i) × (e.to ≡ k)
  leaving-edge i k r label (Jumps w jumps among to) =
      let plain = jump-stays code i (slice_get code i) w jumps among w.aborts refl in
      let there : In w (branches_at code (end_of r.walk)) = subst (λ p. In w (branches_at code p)) (sym r.ends) among in
      let from : w.from ≡ i = branch_from code i w among in
      let leave : leave_of w.aborts w.from (sites_of code r.walk) ≡ i = ap (λ b. leave_of b w.from (sites_of code r.walk)) plain ∙ from in
      let l : is_label (slice_get code w.to) ≡ true = ap (λ p. is_label (slice_get code p)) to ∙ label in
      let j : is_jump (slice_get code (leave_of w.aborts w.from (sites_of code r.walk))) ≡ true = ap (λ p. is_jump (slice_get code p)) leave ∙ jumps in (
        edge_of (sites_of code r.walk) w,
        record { walk = r.walk; is = r.is; branch = w; at = contains_in w (branches_at code (end_of r.walk)) there; are = refl },
        and_from (is_label (slice_get code w.to)) (is_jump (slice_get code (leave_of w.aborts w.from (sites_of code r.walk))) || not (leave_of w.aborts w.from (sites_of code r.walk) == w.from)) l (ap (λ b. b || not (leave_of w.aborts w.from (sites_of code r.walk) == w.from)) j),
        leave,
        to,
      )
  leaving-edge i k r label (Aborts walk w sites is among aborts are to) =
      let leave : leave_of w.aborts w.from (sites_of code walk) ≡ i = ap (λ b. leave_of b w.from (sites_of code walk)) aborts ∙ ap (leave_of true w.from) are in
      let l : is_label (slice_get code w.to) ≡ true = ap (λ p. is_label (slice_get code p)) to ∙ label in
      let o : not (leave_of w.aborts w.from (sites_of code walk) == w.from) ≡ true = ap (λ p. not (p == w.from)) leave ∙ apart (i == w.from) refl in (
        edge_of (sites_of code walk) w,
        record { walk = walk; is = is; branch = w; at = contains_in w (branches_at code (end_of walk)) among; are = refl },
        and_from (is_label (slice_get code w.to)) (is_jump (slice_get code (leave_of w.aborts w.from (sites_of code walk))) || not (leave_of w.aborts w.from (sites_of code walk) == w.from)) l
            (or_right (is_jump (slice_get code (leave_of w.aborts w.from (sites_of code walk)))) (not (leave_of w.aborts w.from (sites_of code walk) == w.from)) o),
        leave,
        to,
      )
    where
      -- the `speculate` isn't the guard
      apart : (b : Bool) → (i == w.from) ≡ b → not (i == w.from) ≡ true
      apart false e = ap not e
      apart true e =
          let from = branch_from code (end_of walk) w among in
          let same : i ≡ end_of walk = eqb-true i w.from e ∙ from in
          absurd (opens-or_closes (slice_get code i) (site_speculates code walk i (first-site walk i sites are)) (subst (λ p. item_change (slice_get code p) true ≡ Closes) (sym same) (aborts-close code (end_of walk) (slice_get code (end_of walk)) w among aborts)))

module _ (F : Func) (function g : FuncTree) (x : IsLaidFunction F function g) where
  -- the labels for which `set`s stand before a point
  abbrev pub labels-at : ℕ → List ℕ
  labels-at i = slice_index_or x.rows i []

  pub row-only : (i k : ℕ) → In k (labels-at i) → (e : Edge) × IsEdge F.code e × (leaves_before F.code e ≡ true) × (e.leave ≡ i) × (e.to ≡ k)
  row-only i k h = ⊎_elim within past (cases_lt i (length F.code))
    where
      within : i < length F.code → (e : Edge) × IsEdge F.code e × (leaves_before F.code e ≡ true) × (e.leave ≡ i) × (e.to ≡ k)
      within low =
          let c = ((x.are_rows.each i low).exact k).0 (contains_in k (labels-at i) h) in
          let s = in_map_source access_of (record { item = k; location = i }) (filter (leaves_before F.code) x.graph.edges) (in_contains (record { item = k; location = i }) (leaves_of F.code x.graph.edges) c) in
          let u = filter_in (leaves_before F.code) x.graph.edges s.0 s.1 in
          (s.0, edge_told F.code x.graph x.is_graph s.0 (contains_in s.0 x.graph.edges u.0), u.1, ap (λ (a : Access). a.location) (sym s.2), ap (λ (a : Access). a.item) (sym s.2))

      past : length F.code ≤ i → (e : Edge) × IsEdge F.code e × (leaves_before F.code e ≡ true) × (e.leave ≡ i) × (e.to ≡ k)
      past high = absurd (subst (In k) (get_or_past x.rows i [] (let n = x.are_rows.long in omega (arith, n, high))) h)

  pub row-there : AreSitesSound F.code → (i k : ℕ) → i < length F.code → (e : Edge) → IsEdge F.code e → leaves_before F.code e ≡ true → e.leave ≡ i → e.to ≡ k → In k (labels-at i)
  row-there sound i k low e ie before leave to =
      let there = in_filter (leaves_before F.code) x.graph.edges e (in_contains e x.graph.edges (edge_listed F.code x.graph x.is_graph sound e ie)) before in
      let c = in_map access_of e (filter (leaves_before F.code) x.graph.edges) there in
      let same : access_of e ≡ record { item = k; location = i } = λ j. record { item = to j; location = leave j } in
      in_contains k (labels-at i) (((x.are_rows.each i low).exact k).1 (contains_in (record { item = k; location = i }) (leaves_of F.code x.graph.edges) (subst (λ a. In a (leaves_of F.code x.graph.edges)) same c)))

  -- ---- where a label is entered from the item before it

  pub falls-only : (p : ℕ) → falls_at F.code x.graph.sites (suc p) ≡ true → IsReached F.code p × In (onward p) (branches_at F.code p)
  falls-only p e = by (slice_get x.graph.sites p) refl e
    where
      by : (o : Option (Option (List ℕ))) → slice_get x.graph.sites p ≡ o → cond (reached_at o) (goes_on (slice_get F.code p)) false ≡ true → IsReached F.code p × In (onward p) (branches_at F.code p)
      by None at h = absurd (let k : false ≡ true = h in cc)
      by (Some None) at h = absurd (let k : false ≡ true = h in cc)
      by (Some (Some sites)) at h =
          let w = walk_to F.code x.graph x.is_graph p sites at in
          (record { walk = w.0; is = w.1; ends = w.2 }, goes-branch F.code p (slice_get F.code p) h)

  pub reached-told : AreSitesSound F.code → (i : ℕ) → IsReached F.code i → reached_at (slice_get x.graph.sites i) ≡ true
  reached-told sound i r = ap (λ p. reached_at (slice_get x.graph.sites p)) (sym r.ends) ∙ ap reached_at (sites_of_walk F.code x.graph x.is_graph sound r.walk r.is)

  pub falls-there : AreSitesSound F.code → (p : ℕ) → IsReached F.code p → is_jump (slice_get F.code p) ≡ false → In (onward p) (branches_at F.code p) → falls_at F.code x.graph.sites (suc p) ≡ true
  falls-there sound p r plain among = ap (λ b. cond b (goes_on (slice_get F.code p)) false) (reached-told sound p r) ∙ branch-goes F.code p (slice_get F.code p) plain among
