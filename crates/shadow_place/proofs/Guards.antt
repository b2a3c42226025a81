-- The guards of a level that abort to a label.
use Rattle.std.proofs.Common.{◌≡◌, ◌≢◌, ℕ, ◌+◌, ◌<◌, ◌≤◌, inl, Bool, true, false, ◌&&◌, not, List, [], ◌∷◌, length, filter, refl, sym, ap, ◌∙◌, subst, arith}
use Rattle.std.specs.Prelude.{◌==◌, slice_get, slice_index}
use Rattle.std.specs.List.{All, Contains}
use Rattle.std.proofs.lemmas.Bool.{and_parts}
use Rattle.std.proofs.lemmas.Bool.Decides.{nat_tests}
use Rattle.std.proofs.lemmas.List.Elements.{All-contains_itself, All-weaker}
use Rattle.bril_tree.specs.declared.edge.Edge.{Edge}
use Rattle.bril_tree.specs.declared.numbered.Instr.{Instr}
use Rattle.bril_tree.specs.Edge.{Branch, branches_at}
use Rattle.bril_tree.specs.Leaving.{IsEdge, edge_of, leave_of}
use Rattle.bril_tree.specs.Membership.{In}
use Rattle.bril_tree.specs.Sites.{AreSitesSound, Closes, item_change, sites_of}
use Rattle.bril_tree.specs.Walk.{IsWalk, end_of}
use Rattle.bril_tree.proofs.Assignments.{site_speculates}
use Rattle.bril_tree.proofs.Branches.{aborts-close, branch_at_item, branch_from, opens-or_closes}
use Rattle.bril_tree.proofs.Members.{contains_in, in_contains, in_map, in_map_source}
use Rattle.bril_tree.proofs.Shapes.{closing_needs}
use Rattle.flow_graph.specs.Graph.{GraphView, IsGraphOf, edges_to}
use Rattle.flow_graph.proofs.Told.{edge_listed, edge_told, some_site}
use Rattle.placement_laws.specs.Open.{IsWayOut}
use Rattle.placement_laws.specs.Search.{AreGuards}
use Rattle.placement_laws.proofs.Saving.{out_from}
use Rattle.slot_code.specs.Lowered.{AreDepths}
use Rattle.shadow_place.specs.Arcs.{guards_of, is_way_out}
use Rattle.shadow_place.proofs.Depths.{depth_at_end}
use Rattle.shadow_place.proofs.Filters.{filter_in, in_filter}

-- where a branch that is no abort leaves
plain_leaves : (aborts : Bool) (from : ℕ) (sites : List ℕ) → aborts ≡ false → leave_of aborts from sites ≡ from
plain_leaves aborts from sites e = ap (λ b. leave_of b from sites) e

module _ (code : List Instr) (sound : AreSitesSound code) where
  -- an abort doesn't leave from its guard
  away : (walk : List Branch) (branch : Branch) → IsWalk code walk → Contains (branches_at code (end_of walk)) branch → branch.aborts ≡ true → leave_of branch.aborts branch.from (sites_of code walk) ≢ branch.from
  away walk branch is at aborts = by (sites_of code walk) refl
    where
      among : In branch (branches_at code (end_of walk))
      among = in_contains branch (branches_at code (end_of walk)) at

      closes : item_change (slice_get code (end_of walk)) true ≡ Closes
      closes = aborts-close code (end_of walk) (slice_get code (end_of walk)) branch among aborts

      by : (sites : List ℕ) → sites_of code walk ≡ sites → leave_of branch.aborts branch.from sites ≢ branch.from
      by [] are same = some_site code walk sound is (closing_needs (slice_get code (end_of walk)) true closes) are
      by (newest ∷ older) are same =
          let leave : leave_of branch.aborts branch.from (newest ∷ older) ≡ newest = ap (λ b. leave_of b branch.from (newest ∷ older)) aborts in
          let here : newest ≡ end_of walk = sym leave ∙ (same ∙ branch_from code (end_of walk) branch among) in
          let opens = site_speculates code walk newest (subst (In newest) (sym are) (inl refl)) in
          opens-or_closes (slice_get code newest) opens (subst (λ n. item_change (slice_get code n) true ≡ Closes) (sym here) closes)

  module _ (depths : List ℕ) (are : AreDepths code depths) (graph : GraphView) (is : IsGraphOf code graph) (level label : ℕ) where
    passes : (leave from depth : ℕ) → leave ≢ from → depth ≡ level → (not (leave == from) && (depth == level)) ≡ true
    passes leave from depth ne e = grind (arith, nat_tests)

    passed : (leave from depth : ℕ) → (not (leave == from) && (depth == level)) ≡ true → (leave ≢ from) × (depth ≡ level)
    passed leave from depth e =
        let h = and_parts (not (leave == from)) (depth == level) e in
        ((λ same. (let t : (leave == from) ≡ true = grind (arith, nat_tests) in not_both (leave == from) t h.0)), grind (arith, nat_tests))
      where
        not_both : (b : Bool) → b ≡ true → not b ≡ true → ⊥
        not_both true e f = cc
        not_both false e f = cc

    equal_test : (m n : ℕ) → m ≡ n → (m == n) ≡ true
    equal_test m n e = grind (arith, nat_tests)

    test_equal : (m n : ℕ) → (m == n) ≡ true → m ≡ n
    test_equal m n e = grind (arith, nat_tests)

    from_edge : Edge → ℕ
    from_edge edge = edge.from

    there : (way : Branch) → IsWayOut code level way → way.to ≡ label → Contains (guards_of depths level (edges_to label graph.edges)) way.from
    there way out to =
        let edge = edge_of (sites_of code out.walk) way in
        let is_edge : IsEdge code edge = record { walk = out.walk; is = out.is; branch = way; at = out.at; are = refl } in
        let among = in_contains edge graph.edges (edge_listed code graph is sound edge is_edge) in
        let listed = in_filter (λ e. e.to == label) edge graph.edges among (equal_test way.to label to) in
        let deep : slice_index depths way.from ≡ level = ap (slice_index depths) (out_from code level way out) ∙ (depth_at_end code sound depths are out.walk out.is ∙ out.deep) in
        let kept = in_filter (is_way_out depths level) edge (edges_to label graph.edges) listed (passes edge.leave edge.from (slice_index depths way.from) (away out.walk way out.is out.at out.aborts) deep) in
        contains_in way.from (guards_of depths level (edges_to label graph.edges)) (in_map (λ (e : Edge). e.from) edge (filter (is_way_out depths level) (edges_to label graph.edges)) kept)

    only : (guard : ℕ) → Contains (guards_of depths level (edges_to label graph.edges)) guard → (way : Branch) × IsWayOut code level way × (way.to ≡ label) × (way.from ≡ guard)
    only guard c =
        let s = in_map_source (λ (e : Edge). e.from) guard (filter (is_way_out depths level) (edges_to label graph.edges)) (in_contains guard (guards_of depths level (edges_to label graph.edges)) c) in
        let f = filter_in (is_way_out depths level) s.0 (edges_to label graph.edges) s.1 in
        let l = filter_in (λ e. e.to == label) s.0 graph.edges f.0 in
        let e = edge_told code graph is s.0 (contains_in s.0 graph.edges l.0) in
        let p = passed s.0.leave s.0.from (slice_index depths s.0.from) f.1 in
        let from : s.0.from ≡ e.branch.from = ap (λ (x : Edge). x.from) e.are in
        let to : s.0.to ≡ e.branch.to = ap (λ (x : Edge). x.to) e.are in
        let leave : s.0.leave ≡ leave_of e.branch.aborts e.branch.from (sites_of code e.walk) = ap (λ (x : Edge). x.leave) e.are in
        let among = in_contains e.branch (branches_at code (end_of e.walk)) e.at in
        let ends : e.branch.from ≡ end_of e.walk = branch_from code (end_of e.walk) e.branch among in
        let aborts = aborting e.branch.aborts (λ plain. p.0 (leave ∙ (plain_leaves e.branch.aborts e.branch.from (sites_of code e.walk) plain ∙ sym from))) in
        let deep : length (sites_of code e.walk) ≡ level = sym (depth_at_end code sound depths are e.walk e.is) ∙ (ap (slice_index depths) (sym (from ∙ ends)) ∙ p.1) in
        let closes = aborts-close code (end_of e.walk) (slice_get code (end_of e.walk)) e.branch among aborts in
        let some = at_least (sites_of code e.walk) (λ none. some_site code e.walk sound e.is (closing_needs (slice_get code (end_of e.walk)) true closes) none) in
        (e.branch, record { aborts = aborts; walk = e.walk; is = e.is; at = e.at; deep = deep; some = subst (λ n. 1 ≤ n) deep some }, sym to ∙ test_equal s.0.to label l.1, sym from ∙ sym s.2)
      where
        aborting : (b : Bool) → (b ≡ false → ⊥) → b ≡ true
        aborting true never = refl
        aborting false never = absurd (never refl)

        at_least : (sites : List ℕ) → (sites ≡ [] → ⊥) → 1 ≤ length sites
        at_least [] never = absurd (never refl)
        at_least (s ∷ sites) never = omega arith

    pub guards_are : AreGuards code level label (guards_of depths level (edges_to label graph.edges))
    guards_are = record { there = there; only = only }

-- guards are points
pub guards_within : (code : List Instr) (level label : ℕ) (guards : List ℕ) → AreGuards code level label guards → All (λ guard. guard < length code + 1) guards
guards_within code level label guards are = All-weaker (Contains guards) (λ guard. guard < length code + 1) within guards (All-contains_itself guards)
  where
    within : (guard : ℕ) → Contains guards guard → guard < length code + 1
    within guard c =
        let g = are.only guard c in
        let low = branch_at_item code (end_of g.1.walk) g.0 (in_contains g.0 (branches_at code (end_of g.1.walk)) g.1.at) in
        let from = out_from code level g.0 g.1 in
        let same = g.3 in
        omega arith
