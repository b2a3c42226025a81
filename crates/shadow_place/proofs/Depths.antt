-- How many sites are open at points, and the arcs back between those where a level is open.
use Rattle.std.proofs.Common.{◌≡◌, ℕ, ◌+◌, ◌<◌, ◌≤◌, true, ◌&&◌, leb, List, length, filter, Option, Some, None, refl, sym, ap, ◌∙◌, subst, arith}
use Rattle.std.specs.Prelude.{option_map, slice_get, slice_index, unwrap_or}
use Rattle.std.specs.List.{All, Contains}
use Rattle.std.proofs.lemmas.Bool.{and_parts}
use Rattle.std.proofs.lemmas.Bool.Decides.{nat_tests}
use Rattle.std.proofs.lemmas.List.Elements.{All-contains_itself, All-weaker}
use Rattle.std.proofs.lemmas.Option.{get_or_from_slice_get, slice_get-map, unwrap_or-slice_get}
use Rattle.bril_tree.specs.declared.edge.Edge.{Edge}
use Rattle.bril_tree.specs.declared.numbered.Instr.{Instr}
use Rattle.bril_tree.specs.Edge.{Branch, branches_at}
use Rattle.bril_tree.specs.Leaving.{IsEdge, edge_of}
use Rattle.bril_tree.specs.Sites.{AreSitesSound, TooMany, most_sites, sites_of}
use Rattle.bril_tree.specs.Walk.{IsWalk, end_of}
use Rattle.bril_tree.proofs.Branches.{branch_at_item, branch_from, branch_inside}
use Rattle.bril_tree.proofs.Members.{contains_in, in_contains, in_map, in_map_source}
use Rattle.flow_graph.specs.Graph.{GraphView, IsGraphOf}
use Rattle.flow_graph.proofs.Told.{edge_listed, edge_told, first_sites, sites_of_walk, walk_to}
use Rattle.graph_search.specs.declared.graph.Arc.{Arc}
use Rattle.graph_search.specs.Path.{IsBetween}
use Rattle.placement_laws.specs.Open.{IsOpen}
use Rattle.placement_laws.specs.Search.{AreOpenArcs, open_arc}
use Rattle.slot_code.specs.Lowered.{AreDepths, open_count}
use Rattle.shadow_place.specs.Arcs.{edge_arc, open_arcs_of, stays_open}
use Rattle.shadow_place.proofs.Filters.{filter_in, in_filter}

-- no more sites are open at once than eight
pub few_sites : (code : List Instr) → AreSitesSound code → (walk : List Branch) → IsWalk code walk → length (sites_of code walk) ≤ most_sites
few_sites code sound walk is = le_or_more (length (sites_of code walk)) (λ many. sound (end_of walk) (TooMany (record { sites = sites_of code walk; first = first_sites code walk sound is; many = many })))
  where
    le_or_more : (n : ℕ) → (8 < n → ⊥) → n ≤ 8
    le_or_more n never = grind arith

module _ (code : List Instr) (sound : AreSitesSound code) (depths : List ℕ) (are : AreDepths code depths) where
  depth_of : (point : ℕ) (o : Option (List ℕ)) → slice_get are.graph.sites point ≡ Some o → slice_index depths point ≡ open_count o
  depth_of point o e = get_or_from_slice_get depths point (open_count o) 0 (ap (λ ds. slice_get ds point) are.are ∙ (slice_get-map open_count are.graph.sites point ∙ ap (option_map open_count) e))

  -- those of a walk
  pub depth_at_end : (walk : List Branch) → IsWalk code walk → slice_index depths (end_of walk) ≡ length (sites_of code walk)
  depth_at_end walk is = depth_of (end_of walk) (Some (sites_of code walk)) (sites_of_walk code are.graph are.is sound walk is)

  -- a walk leads to a point where so many sites are open
  pub deep_open : (level point : ℕ) → 0 < level → level ≤ slice_index depths point → IsOpen code level point
  deep_open level point some le = by (slice_get are.graph.sites point) refl
    where
      none : slice_get are.graph.sites point ≡ None → ⊥
      none e =
          let gone : slice_get depths point ≡ None = ap (λ ds. slice_get ds point) are.are ∙ (slice_get-map open_count are.graph.sites point ∙ ap (option_map open_count) e) in
          let zero_is : slice_index depths point ≡ 0 = sym (unwrap_or-slice_get depths point 0) ∙ ap (λ o. unwrap_or o 0) gone in
          omega arith

      by : (o : Option (Option (List ℕ))) → slice_get are.graph.sites point ≡ o → IsOpen code level point
      by None e = absurd (none e)
      by (Some None) e = absurd (let d = depth_of point None e in omega arith)
      by (Some (Some sites)) e =
          let w = walk_to code are.graph are.is point sites e in
          let d = depth_of point (Some sites) e in
          record { walk = w.0; is = w.1; ends = w.2; has = subst (λ s. level ≤ length s) (sym w.3) (omega arith) }

  pub open_deep : (level point : ℕ) → IsOpen code level point → level ≤ slice_index depths point
  open_deep level point o =
      let d : slice_index depths point ≡ length (sites_of code o.walk) = ap (slice_index depths) (sym o.ends) ∙ depth_at_end o.walk o.is in
      let h = o.has in
      omega arith

  -- ---- arcs

  both : (level x y : ℕ) → level ≤ x → level ≤ y → (leb level x && leb level y) ≡ true
  both level x y a b = grind (arith, nat_tests)

  parts : (level x y : ℕ) → (leb level x && leb level y) ≡ true → (level ≤ x) × (level ≤ y)
  parts level x y e = let h = and_parts (leb level x) (leb level y) e in (grind (arith, nat_tests), grind (arith, nat_tests))

  module _ (graph : GraphView) (is : IsGraphOf code graph) (level : ℕ) (some : 0 < level) where
    pub open_arcs_are : AreOpenArcs code level (open_arcs_of depths level graph.edges)
    open_arcs_are = record { there = there; only = only }
      where
        there : (point : ℕ) (branch : Branch) → IsOpen code level point → Contains (branches_at code point) branch → IsOpen code level branch.to → Contains (open_arcs_of depths level graph.edges) (open_arc point branch.to)
        there point branch o at next =
            let edge = edge_of (sites_of code o.walk) branch in
            let here : Contains (branches_at code (end_of o.walk)) branch = subst (λ p. Contains (branches_at code p) branch) (sym o.ends) at in
            let from : branch.from ≡ point = branch_from code point branch (in_contains branch (branches_at code point) at) in
            let is_edge : IsEdge code edge = record { walk = o.walk; is = o.is; branch = branch; at = here; are = refl } in
            let among = in_contains edge graph.edges (edge_listed code graph is sound edge is_edge) in
            let test : stays_open depths level edge ≡ true = both level (slice_index depths branch.from) (slice_index depths branch.to) (subst (λ p. level ≤ slice_index depths p) (sym from) (open_deep level point o)) (open_deep level branch.to next) in
            subst (λ p. Contains (open_arcs_of depths level graph.edges) (open_arc p branch.to)) from
            (contains_in (edge_arc edge) (open_arcs_of depths level graph.edges) (in_map edge_arc edge (filter (stays_open depths level) graph.edges) (in_filter (stays_open depths level) edge graph.edges among test)))

        only : (arc : Arc) → Contains (open_arcs_of depths level graph.edges) arc → (point : ℕ) × (branch : Branch) × IsOpen code level point × Contains (branches_at code point) branch × IsOpen code level branch.to × (arc ≡ open_arc point branch.to)
        only arc c =
            let s = in_map_source edge_arc arc (filter (stays_open depths level) graph.edges) (in_contains arc (open_arcs_of depths level graph.edges) c) in
            let f = filter_in (stays_open depths level) s.0 graph.edges s.1 in
            let e = edge_told code graph is s.0 (contains_in s.0 graph.edges f.0) in
            let from : s.0.from ≡ e.branch.from = ap (λ (x : Edge). x.from) e.are in
            let to : s.0.to ≡ e.branch.to = ap (λ (x : Edge). x.to) e.are in
            let ends : e.branch.from ≡ end_of e.walk = branch_from code (end_of e.walk) e.branch (in_contains e.branch (branches_at code (end_of e.walk)) e.at) in
            let p = parts level (slice_index depths s.0.from) (slice_index depths s.0.to) f.1 in (
              end_of e.walk,
              e.branch,
              subst (IsOpen code level) (from ∙ ends) (deep_open level s.0.from some p.0),
              e.at,
              subst (IsOpen code level) to (deep_open level s.0.to some p.1),
              s.2 ∙ (ap (λ n. open_arc n s.0.to) (from ∙ ends) ∙ ap (open_arc (end_of e.walk)) to),
            )

-- their ends are points
pub arcs_between : (code : List Instr) (level : ℕ) (arcs : List Arc) → AreOpenArcs code level arcs → All (IsBetween (length code + 1)) arcs
arcs_between code level arcs are = All-weaker (Contains arcs) (IsBetween (length code + 1)) between arcs (All-contains_itself arcs)
  where
    between : (arc : Arc) → Contains arcs arc → IsBetween (length code + 1) arc
    between arc c =
        let a = are.only arc c in
        let among = in_contains a.1 (branches_at code a.0) a.3 in
        let low = branch_at_item code a.0 a.1 among in
        let inside = branch_inside code a.0 a.1 among in
        subst (IsBetween (length code + 1)) (sym a.5) (omega arith, omega arith)
