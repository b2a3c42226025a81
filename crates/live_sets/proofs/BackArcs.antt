-- The arcs that are made are exactly those of the branches, each from where it leaves.
use Rattle.std.proofs.Common.{◌≡◌, ℕ, zero, suc, ◌+◌, ◌<◌, ◌≤◌, Bool, true, false, cond, List, [], ◌∷◌, ◌++◌, length, get_or, Option, Some, None, refl, sym, ap, subst, ◌∙◌, inl, inr, ⊎_elim, arith}
use Rattle.std.specs.Prelude.{slice_get, ◌==◌}
use Rattle.std.specs.List.{Contains}
use Rattle.std.proofs.lemmas.Bool.{ne_eqb}
use Rattle.std.proofs.lemmas.List.Elements.{Contains-get_or}
use Rattle.std.proofs.lemmas.Option.{same_Some}
use Rattle.bril_tree.specs.declared.edge.Edge.{Edge}
use Rattle.bril_tree.specs.declared.numbered.Instr.{Instr}
use Rattle.bril_tree.specs.Edge.{Branch, branches_at, branches_from, item_branches}
use Rattle.bril_tree.specs.Leaving.{IsEdge, AbortsFrom, Leaves, edge_of, leave_of}
use Rattle.bril_tree.specs.Membership.{In}
use Rattle.bril_tree.specs.Sites.{AreSitesSound, Closes, item_change, sites_of}
use Rattle.bril_tree.specs.Walk.{end_of}
use Rattle.bril_tree.proofs.Assignments.{site_speculates}
use Rattle.bril_tree.proofs.Branches.{branch_from, branch_inside, branch_at_item, aborts-close, opens-or_closes}
use Rattle.bril_tree.proofs.Members.{in_contains, contains_in, in_append_left, in_append_right, in_append_cases, in_flat_map, in_flat_map_source}
use Rattle.bril_tree.proofs.Replays.{sites-inside}
use Rattle.flow_graph.specs.Graph.{GraphView, IsGraphOf}
use Rattle.flow_graph.specs.Location.{number_at}
use Rattle.flow_graph.proofs.Told.{edge_leaves, edge_told, edge_listed}
use Rattle.graph_search.specs.Path.{IsBetween}
use Rattle.graph_search.specs.declared.graph.Arc.{Arc}
use Rattle.live_sets.specs.Arcs.{AreBackArcs, abort_arc, abort_arcs, arc_back, arcs_from, back_arc, item_arcs, plain_arc}

-- ---- the arcs of branches that are no aborts

-- one arc, where the test fails
abbrev unless_arc : Bool → Arc → List Arc
unless_arc test arc = cond test [] (arc ∷ [])

unless-in : (test : Bool) (arc : Arc) → test ≡ false → In arc (unless_arc test arc)
unless-in test arc e = subst (λ b. In arc (unless_arc b arc)) (sym e) (inl refl)

unless-is : (test : Bool) (arc other : Arc) → In other (unless_arc test arc) → (test ≡ false) × (other ≡ arc)
unless-is true arc other i = absurd i
unless-is false arc other (inl e) = (refl, e)
unless-is false arc other (inr i) = absurd i

-- the arc is that of a branch from the item that is no abort
record OfItem (code : List Instr) (p : ℕ) (item : Instr) (arc : Arc) : Type 0 where
  branch : Branch
  among : In branch (item_branches code p item)
  plain : branch.aborts ≡ false
  is : arc ≡ arc_back branch.from (number_at (Some item)) branch.to

of_item : (code : List Instr) (p : ℕ) (item : Instr) (arc : Arc) → In arc (item_arcs code p item) → OfItem code p item arc
of_item code p item arc i =
    let s = in_flat_map_source (plain_arc (number_at (Some item))) arc (item_branches code p item) i in
    let h = unless-is s.0.aborts (arc_back s.0.from (number_at (Some item)) s.0.to) arc s.2 in
    record { branch = s.0; among = s.1; plain = h.0; is = h.1 }

item-there : (code : List Instr) (p : ℕ) (item : Instr) (b : Branch) → In b (item_branches code p item) → b.aborts ≡ false → In (arc_back b.from (number_at (Some item)) b.to) (item_arcs code p item)
item-there code p item b i plain =
    let arc = arc_back b.from (number_at (Some item)) b.to in
    in_flat_map (plain_arc (number_at (Some item))) b arc (item_branches code p item) i (unless-in b.aborts arc plain)

-- ---- the arcs of all items

arc-there : (code : List Instr) (p : ℕ) (items : List Instr) (k : ℕ) (item : Instr) (arc : Arc) → slice_get items k ≡ Some item → In arc (item_arcs code (p + k) item) → In arc (arcs_from code p items)
arc-there code p [] k item arc at i = absurd (let n : None ≡ Some item = at in cc)
arc-there code p (x ∷ items) zero item arc at i =
    let z : p + zero ≡ p = omega arith in
    in_append_left arc (item_arcs code p x) (arcs_from code (suc p) items) (subst (λ (y : Instr). In arc (item_arcs code p y)) (sym (same_Some x item at)) (subst (λ n. In arc (item_arcs code n item)) z i))
arc-there code p (x ∷ items) (suc k) item arc at i =
    let z : suc p + k ≡ p + suc k = omega arith in
    in_append_right arc (item_arcs code p x) (arcs_from code (suc p) items) (arc-there code (suc p) items k item arc at (subst (λ n. In arc (item_arcs code n item)) (sym z) i))

record FromItem (code : List Instr) (p : ℕ) (items : List Instr) (arc : Arc) : Type 0 where
  k : ℕ
  item : Instr
  at : slice_get items k ≡ Some item
  among : In arc (item_arcs code (p + k) item)

from_item : (code : List Instr) (p : ℕ) (items : List Instr) (arc : Arc) → In arc (arcs_from code p items) → FromItem code p items arc
from_item code p [] arc i = absurd i
from_item code p (x ∷ items) arc i = ⊎_elim first (λ r. later (from_item code (suc p) items arc r)) (in_append_cases arc (item_arcs code p x) (arcs_from code (suc p) items) i)
  where
    first : In arc (item_arcs code p x) → FromItem code p (x ∷ items) arc
    first h = let z : p ≡ p + 0 = omega arith in record { k = 0; item = x; at = refl; among = subst (λ n. In arc (item_arcs code n x)) z h }

    later : FromItem code (suc p) items arc → FromItem code p (x ∷ items) arc
    later r = let z : suc p + r.k ≡ p + suc r.k = omega arith in record { k = suc r.k; item = r.item; at = r.at; among = subst (λ n. In arc (item_arcs code n r.item)) z r.among }

-- ---- the arcs of aborts

module _ (code : List Instr) where
  abort-there : (edge : Edge) (edges : List Edge) → In edge edges → (edge.leave ≡ edge.from → ⊥) → In (back_arc code edge.leave edge.to) (abort_arcs code edges)
  abort-there edge edges i away =
      in_flat_map (abort_arc code) edge (back_arc code edge.leave edge.to) edges i (unless-in (edge.leave == edge.from) (back_arc code edge.leave edge.to) (ne_eqb edge.leave edge.from away))

  from_abort : (arc : Arc) (edges : List Edge) → In arc (abort_arcs code edges) → (edge : Edge) × In edge edges × (arc ≡ back_arc code edge.leave edge.to)
  from_abort arc edges i =
      let s = in_flat_map_source (abort_arc code) arc edges i in
      (s.0, s.1, (unless-is (s.0.leave == s.0.from) (back_arc code s.0.leave s.0.to) arc s.2).1)

-- ---- both together

module _ (code : List Instr) (graph : GraphView) (g : IsGraphOf code graph) (sound : AreSitesSound code) where
  abbrev made : List Arc
  made = arcs_from code 0 code ++ abort_arcs code graph.edges

  plain_there : (point : ℕ) (branch : Branch) → In branch (branches_at code point) → branch.aborts ≡ false → In (back_arc code point branch.to) made
  plain_there point branch i plain = by (slice_get code point) refl
    where
      by : (o : Option Instr) → slice_get code point ≡ o → In (back_arc code point branch.to) made
      by None e = absurd (subst (λ o. In branch (branches_from code point o)) e i)
      by (Some item) e =
          let z : point ≡ 0 + point = omega arith in
          let arc = arc_back branch.from (number_at (Some item)) branch.to in
          let here : In arc (item_arcs code point item) = item-there code point item branch (subst (λ o. In branch (branches_from code point o)) e i) plain in
          let one : In arc (arcs_from code 0 code) = arc-there code 0 code point item arc e (subst (λ n. In arc (item_arcs code n item)) z here) in
          let same : arc ≡ back_arc code point branch.to = ap (λ n. arc_back n (number_at (Some item)) branch.to) (branch_from code point branch i) ∙ ap (λ o. arc_back point (number_at o) branch.to) (sym e) in
          in_append_left _ (arcs_from code 0 code) (abort_arcs code graph.edges) (subst (λ a. In a (arcs_from code 0 code)) same one)

  abort_is_there : (point : ℕ) (branch : Branch) → AbortsFrom code point branch → In (back_arc code point branch.to) made
  abort_is_there point branch a =
      let edge = edge_of (sites_of code a.walk) branch in
      let is : IsEdge code edge = record { walk = a.walk; is = a.is; branch = branch; at = a.at; are = refl } in
      let listed = in_contains edge graph.edges (edge_listed code graph g sound edge is) in
      let leave : leave_of branch.aborts branch.from (sites_of code a.walk) ≡ point = ap (λ b. leave_of b branch.from (sites_of code a.walk)) a.aborts ∙ ap (leave_of true branch.from) a.sites in
      let among = in_contains branch (branches_at code (end_of a.walk)) a.at in
      let from : branch.from ≡ end_of a.walk = branch_from code (end_of a.walk) branch among in
      let away : leave_of branch.aborts branch.from (sites_of code a.walk) ≡ branch.from → ⊥ = λ same.
      opens-or_closes (slice_get code point) (site_speculates code a.walk point (subst (In point) (sym a.sites) (inl refl)))
      (subst (λ n. item_change (slice_get code n) true ≡ Closes) (sym from ∙ sym same ∙ leave) (aborts-close code (end_of a.walk) (slice_get code (end_of a.walk)) branch among a.aborts)) in
      in_append_right _ (arcs_from code 0 code) (abort_arcs code graph.edges) (subst (λ n. In (back_arc code n branch.to) (abort_arcs code graph.edges)) leave (abort-there code edge graph.edges listed away))

  -- an arc is that of a branch from where it leaves
  abbrev OfBranch : Arc → Type 0
  OfBranch arc = (point : ℕ) × (branch : Branch) × Leaves code point branch × (arc ≡ back_arc code point branch.to)

  of_plain : (arc : Arc) → FromItem code 0 code arc → OfBranch arc
  of_plain arc r =
      let z : 0 + r.k ≡ r.k = omega arith in
      let b = of_item code r.k r.item arc (subst (λ n. In arc (item_arcs code n r.item)) z r.among) in
      let among : In b.branch (branches_at code r.k) = subst (λ o. In b.branch (branches_from code r.k o)) (sym r.at) b.among in (
        r.k,
        b.branch,
        inl (contains_in b.branch (branches_at code r.k) among, b.plain),
        b.is ∙ ap (λ n. arc_back n (number_at (Some r.item)) b.branch.to) (branch_from code r.k b.branch among) ∙ ap (λ o. arc_back r.k (number_at o) b.branch.to) (sym r.at),
      )

  of_abort : (arc : Arc) → (edge : Edge) × In edge graph.edges × (arc ≡ back_arc code edge.leave edge.to) → OfBranch arc
  of_abort arc e =
      let l = edge_leaves code sound e.0 (edge_told code graph g e.0 (contains_in e.0 graph.edges e.1)) in
      (e.0.leave, l.0, l.1, e.2 ∙ ap (back_arc code e.0.leave) (sym l.2))

  of_branch : (arc : Arc) → Contains made arc → OfBranch arc
  of_branch arc c =
      ⊎_elim (λ i. of_plain arc (from_item code 0 code arc i)) (λ i. of_abort arc (from_abort code arc graph.edges i))
      (in_append_cases arc (arcs_from code 0 code) (abort_arcs code graph.edges) (in_contains arc made c))

  leaves-within : (point : ℕ) (branch : Branch) → Leaves code point branch → (point < length code) × (branch.to ≤ length code)
  leaves-within point branch (inl on) = let i = in_contains branch (branches_at code point) on.0 in (branch_at_item code point branch i, branch_inside code point branch i)
  leaves-within point branch (inr a) = (sites-inside code a.walk a.is 0 point (ap (λ s. slice_get s 0) a.sites), branch_inside code (end_of a.walk) branch (in_contains branch (branches_at code (end_of a.walk)) a.at))

  between : (arc : Arc) → OfBranch arc → IsBetween (length code + 1) arc
  between arc o =
      let w = leaves-within o.0 o.1 o.2 in
      subst (IsBetween (length code + 1)) (sym o.3) (omega (arith, w.1), omega (arith, w.0))

  pub back_arcs_are : AreBackArcs code made
  back_arcs_are = record {
    between = λ k d low. between (get_or made k d) (of_branch (get_or made k d) (Contains-get_or made k d low));
    there = λ point branch leaves. contains_in (back_arc code point branch.to) made (⊎_elim (λ on. plain_there point branch (in_contains branch (branches_at code point) on.0) on.1) (abort_is_there point branch) leaves);
    only = of_branch;
  }
