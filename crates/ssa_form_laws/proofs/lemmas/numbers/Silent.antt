-- What no walk leads to is a label or a `nop`.
use Rattle.std.proofs.Common.{◌≡◌, ◌⊎◌, ℕ, zero, suc, ◌+◌, Bool, true, false, cond, List, [], ◌∷◌, map, Option, Some, None, refl, sym, ap, subst, ◌∙◌, inl, inr, arith}
use Rattle.std.specs.Prelude.{slice_get}
use Rattle.std.proofs.lemmas.Option.{slice_get_within}
use Rattle.bril_tree.specs.declared.edge.Edge.{Edge}
use Rattle.bril_tree.specs.declared.function_tree.FuncTree.{FuncTree}
use Rattle.bril_tree.specs.declared.function_tree.Item.{Item}
use Rattle.bril_tree.specs.declared.function_tree.Item.TheVariants as item
use Rattle.bril_tree.specs.declared.numbered.Instr.{Instr}
use Rattle.bril_tree.specs.declared.numbered.Instr.TheVariants.{Label, Const, Act}
use Rattle.bril_tree.specs.declared.numbered_function.Func.{Func}
use Rattle.bril_tree.specs.declared.operation.Op.{Op}
use Rattle.bril_tree.specs.declared.operation.Op.TheVariants as op
use Rattle.bril_tree.specs.Edge.{Branch, branches_at}
use Rattle.bril_tree.specs.Leaving.{IsEdge, leave_of}
use Rattle.bril_tree.specs.Membership.{In}
use Rattle.bril_tree.specs.Numbered.{function_tree, item_tree, nop_item, variable_names}
use Rattle.bril_tree.specs.Sites.{AreSitesSound, Opens, item_change, sites_of}
use Rattle.bril_tree.specs.Walk.{IsReached, IsWalk, end_of}
use Rattle.bril_tree.proofs.Branches.{branch_from}
use Rattle.bril_tree.proofs.Elements.{get_in}
use Rattle.bril_tree.proofs.Members.{in_contains}
use Rattle.ssa_build.specs.code.Items.{laid_item, name_in, read_name, unreached_item}
use Rattle.ssa_build.specs.code.Sweep.{falls_at, goes_on, item_args, reached_at}
use Rattle.ssa_laws.specs.inserted_copies.Inserted.{is_jump}
use Rattle.ssa_build.specs.tree.Made.{IsLaidFunction}
use Rattle.ssa_form_laws.specs.form.Form.{IsSilent}
use Rattle.ssa_form_laws.proofs.lemmas.form.Edges.{row-departs, row-edge, told-reached}
use Rattle.ssa_form_laws.proofs.lemmas.form.Fronts.{AtLabel, Falls, InFront, Leaves, in-front, is-staying}
use Rattle.ssa_form_laws.proofs.lemmas.form.Points.{Front, Home, Point, begin, front, home, now, point, tree_in}
use Rattle.ssa_form_laws.proofs.lemmas.numbers.Beside.{home-walk, next-begun, result-item, through}
use Rattle.ssa_form_laws.proofs.lemmas.numbers.Leading.{Abort, Jump, Kind, Next, abort-stands, jump-stands, kind, leaves-item}
use Rattle.ssa_form_laws.proofs.lemmas.numbers.Sites.{opened-by}

-- ---- what stands in place of an item that no walk leads to

silent-label : (fs V ls : List (List ℕ)) (q : Instr) (name : List ℕ) → item_tree fs V ls q ≡ item.Label name → IsSilent q
silent-label fs V ls (Label l) name e = tt
silent-label fs V ls (Const d ty v) name e = absurd cc
silent-label fs V ls (Act d ty o args fns ms) name e = absurd cc

silent-nop : (fs V ls : List (List ℕ)) (q : Instr) → item_tree fs V ls q ≡ nop_item → IsSilent q
silent-nop fs V ls (Label l) e = absurd cc
silent-nop fs V ls (Const d ty v) e = absurd cc
silent-nop fs V ls (Act d ty o args fns ms) e = let same : o ≡ op.Nop = cc in subst (λ (o : Op). IsSilent (Act d ty o args fns ms)) (sym same) tt

silent-unreached : (fs V ls : List (List ℕ)) (q : Instr) (t : Item) → item_tree fs V ls q ≡ unreached_item t → IsSilent q
silent-unreached fs V ls q (item.Label name) e = silent-label fs V ls q name e
silent-unreached fs V ls q (item.Const d ty v) e = silent-nop fs V ls q e
silent-unreached fs V ls q (item.Act d o args fns ms) e = silent-nop fs V ls q e

-- ---- where edges leave

departs-no_label : (o : Option Instr) → (is_jump o ≡ true) ⊎ (item_change o false ≡ Opens) → (l : ℕ) → o ≡ Some (Label l) → ⊥
departs-no_label None h l e = cc
departs-no_label (Some (Label m)) (inl h) l e = cc
departs-no_label (Some (Label m)) (inr h) l e = cc
departs-no_label (Some (Const d ty v)) h l e = cc
departs-no_label (Some (Act d ty o args fns ms)) h l e = cc

-- a walk leads to where an edge leaves
pub leave-reached : (code : List Instr) (edge : Edge) → IsEdge code edge → IsReached code edge.leave
leave-reached code edge e = subst (IsReached code) (sym (ap (λ (x : Edge). x.leave) e.are)) (by e.branch.aborts (sites_of code e.walk) refl)
  where
    own : IsReached code e.branch.from
    own = record { walk = e.walk; is = e.is; ends = sym (branch_from code (end_of e.walk) e.branch (in_contains e.branch (branches_at code (end_of e.walk)) e.at)) }

    by : (b : Bool) (ss : List ℕ) → sites_of code e.walk ≡ ss → IsReached code (leave_of b e.branch.from ss)
    by false ss same = own
    by true [] same = own
    by true (s ∷ older) same = let o = opened-by code s older e.walk e.is [] same in record { walk = o.walk; is = o.is; ends = o.ends }

-- the start, or a point that walks lead to from the item before it
pub data IsFallen (F : Func) (i : ℕ) : Type 0 where
  First : i ≡ 0 → IsFallen F i
  After : (p : ℕ) (a : Instr) → i ≡ suc p → IsReached F.code p → slice_get F.code p ≡ Some a → goes_on (Some a) ≡ true → IsFallen F i

-- so is each reached point that is no label
reached-fallen : (F : Func) (i : ℕ) → IsReached F.code i → ((l : ℕ) → slice_get F.code i ≡ Some (Label l) → ⊥) → IsFallen F i
reached-fallen F i r plain = by r.walk r.is r.ends
  where
    step : (w : List Branch) → IsWalk F.code w → (b : Branch) → b.to ≡ i → (a : Instr) → slice_get F.code (end_of w) ≡ Some a → Kind F.code (end_of w) a b → IsFallen F i
    step w is b ends a at (Next goes e) = After (end_of w) a (sym ends ∙ ap (λ (z : Branch). z.to) e) (record { walk = w; is = is; ends = refl }) at goes
    step w is b ends a at (Jump l among e) = absurd (plain l (ap (slice_get F.code) (sym ends ∙ ap (λ (z : Branch). z.to) e) ∙ jump-stands F (end_of w) a at l among))
    step w is b ends a at (Abort l among e) = absurd (plain l (ap (slice_get F.code) (sym ends ∙ ap (λ (z : Branch). z.to) e) ∙ abort-stands F (end_of w) a at l among))

    by : (w : List Branch) → IsWalk F.code w → end_of w ≡ i → IsFallen F i
    by [] is ends = First (sym ends)
    by (b ∷ w) is ends = let a = leaves-item F.code (end_of w) b (in_contains b (branches_at F.code (end_of w)) is.0) in step w is.1 b ends a.0 a.1 (kind F.code (end_of w) a.0 b a.2)

module _ (fs fs' : List (List ℕ)) (F G : Func) (g : FuncTree) (x : IsLaidFunction F (function_tree fs F) g) (same : g ≡ function_tree fs' G) (sound : AreSitesSound F.code) where
  -- where something stands before an item, walks lead to it from the item before
  pub fallen : (i : ℕ) (y : Item) → In y (front fs F g x i) → IsFallen F i
  fallen i y among = by (in-front fs F g x i y among)
    where
      after : (i : ℕ) → falls_at F.code x.graph.sites i ≡ true → IsFallen F i
      after zero e = First refl
      after (suc p) e = two (reached_at (slice_get x.graph.sites p)) refl e
        where
          item : (o : Option Instr) → slice_get F.code p ≡ o → reached_at (slice_get x.graph.sites p) ≡ true → goes_on o ≡ true → IsFallen F (suc p)
          item None at r goes = absurd (let h : false ≡ true = goes in cc)
          item (Some a) at r goes = After p a refl (told-reached F.code x.graph x.is_graph sound p r) at goes

          two : (b : Bool) → reached_at (slice_get x.graph.sites p) ≡ b → cond b (goes_on (slice_get F.code p)) false ≡ true → IsFallen F (suc p)
          two true r goes = item (slice_get F.code p) refl r goes
          two false r goes = absurd (let h : false ≡ true = goes in cc)

      by : InFront fs F g x i y → IsFallen F i
      by (AtLabel k next s) =
          let stay = is-staying fs F g x k s.get s.among in
          let l = x.are_wants.wanted.label k s.get.definition stay.location stay.got in
          After k (Label l.0) next (x.are_wants.wanted.reached k s.get.definition stay.location stay.got) l.1 refl
      by (Falls e p) = after i e
      by (Leaves k among p) =
          let edge = row-edge F.code x.graph x.is_graph sound x.rows x.are_rows i k among in
          reached-fallen F i (subst (IsReached F.code) edge.2 (leave-reached F.code edge.0 edge.1)) (departs-no_label (slice_get F.code i) (row-departs F.code x.graph x.is_graph sound x.rows x.are_rows i k among))

  begun : (i : ℕ) → IsFallen F i → (v : List Branch) × IsWalk G.code v × (end_of v ≡ begin fs F g x i)
  begun i (First e) = ([], tt, ap (begin fs F g x) (sym e))
  begun i (After p a next reached at goes) =
      let h = home-walk fs fs' F G g x same sound p reached in
      let n = next-begun fs fs' F G g x same sound p a at reached goes h.0 h.1 h.2 in
      (n.0, n.1, n.2 ∙ ap (begin fs F g x) (sym next))

  pub silent : (j : ℕ) (q : Instr) → slice_get G.code j ≡ Some q → IsSilent q ⊎ IsReached G.code j
  silent j q at = by (point fs F g x j (tree_in fs' G q) (result-item fs fs' F G g x same sound j q at))
    where
      own-by : (i : ℕ) (a : Instr) → j ≡ home fs F g x i → (b : Bool) → reached_at (slice_get x.graph.sites i) ≡ b
          → tree_in fs' G q ≡ laid_item b (map (read_name x.names x.find (now fs F g x i)) (item_args (slice_get F.code i))) (name_in x.names (F.args + i)) (tree_in fs F a) → IsSilent q ⊎ IsReached G.code j
      own-by i a there true r e = let h = home-walk fs fs' F G g x same sound i (told-reached F.code x.graph x.is_graph sound i r) in inr (record { walk = h.0; is = h.1; ends = h.2 ∙ sym there })
      own-by i a there false r e = inl (silent-unreached fs' (variable_names G.vars) G.labels q (tree_in fs F a) e)

      by : Point fs F g x j (tree_in fs' G q) → IsSilent q ⊎ IsReached G.code j
      by (Home i a here there e) = own-by i a there (reached_at (slice_get x.graph.sites i)) refl e
      by (Front i n low here there) =
          let b = begun i (fallen i (tree_in fs' G q) (get_in (front fs F g x i) n (tree_in fs' G q) here)) in
          let t = through fs fs' F G g x same sound i low b.0 b.1 b.2 n (let w = slice_get_within (front fs F g x i) n (tree_in fs' G q) here in omega arith) in
          inr (record { walk = t.0; is = t.1; ends = t.2 ∙ sym there })
