-- The arcs of a function's edges, and where variables are live along them.
use Rattle.std.proofs.Common.{◌≡◌, ℕ, ◌+◌, List, length, refl, sym, ap, subst, ◌∙◌, inl, inr, arith}
use Rattle.std.specs.Prelude.{slice_get}
use Rattle.std.specs.List.{All, Contains}
use Rattle.std.proofs.lemmas.List.{get_or-map, length-map}
use Rattle.std.proofs.lemmas.List.Elements.{All-map}
use Rattle.bril_tree.specs.declared.numbered.Instr.{Instr}
use Rattle.bril_tree.specs.Assigned.{assigns_at}
use Rattle.bril_tree.specs.Edge.{Branch, branches_at}
use Rattle.bril_tree.specs.Leaving.{Leaves}
use Rattle.bril_tree.specs.Live.{IsLive, Here, Later}
use Rattle.bril_tree.specs.Operand.{Location}
use Rattle.bril_tree.specs.Sites.{AreSitesSound}
use Rattle.bril_tree.specs.Walk as walk
use Rattle.bril_tree.proofs.Branches.{reached_on}
use Rattle.bril_tree.proofs.Members.{in_contains, contains_in, Contains-map, Contains-map_back}
use Rattle.definite_assignment.specs.Leaving.{leaving_arc}
use Rattle.definite_assignment.proofs.Bounds.{arcs-between}
use Rattle.flow_graph.specs.Graph.{GraphView, IsGraphOf}
use Rattle.flow_graph.specs.Location.{number_of}
use Rattle.flow_graph.proofs.Locations.{assigned-number, number-assigned}
use Rattle.flow_graph.proofs.Told.{edge_leaves, edge_told, edge_listed, leaves_edge}
use Rattle.graph_search.specs.Path.{IsBetween, IsReached, Leads, other_than}
use Rattle.graph_search.specs.declared.graph.Arc.{Arc}
use Rattle.graph_search.proofs.OpenArcs.{open-differs, differs-open}
use Rattle.graph_search.proofs.Paths.{reached_seed, reached_step, reached_all}
use Rattle.live_sets.specs.Arcs.{back_arc}
use Rattle.live_sets.proofs.Law.{AreReaders}
use Rattle.variable_coloring.specs.LiveWords.{AreReachedArcs, edge_arc, edge_arcs}

module _ (code : List Instr) (graph : GraphView) (g : IsGraphOf code graph) where
  pub edge_arcs-between : All (IsBetween (length code + 1)) (edge_arcs code graph.edges)
  edge_arcs-between = All-map (IsBetween (length code + 1)) (edge_arc code) graph.edges (λ k d low.
      let long = length-map graph.edges (leaving_arc code) in
      let at = arcs-between code graph g k (leaving_arc code d) (omega (arith, low, long)) in
      let both = subst (IsBetween (length code + 1)) (get_or-map (leaving_arc code) graph.edges k d (leaving_arc code d) low) at in
      (both.1, both.0))

  pub edge_arcs-are : AreSitesSound code → AreReachedArcs code (edge_arcs code graph.edges)
  edge_arcs-are sound = record { there = there; only = only }
    where
      there : (point : ℕ) (branch : Branch) → walk.IsReached code point → Leaves code point branch → Contains (edge_arcs code graph.edges) (back_arc code point branch.to)
      there point branch reached leaves =
          let e = leaves_edge code point branch reached leaves in
          let listed = edge_listed code graph g sound e.0 e.1 in
          subst (λ n. Contains (edge_arcs code graph.edges) (back_arc code point n)) e.3
          (subst (λ n. Contains (edge_arcs code graph.edges) (back_arc code n e.0.to)) e.2 (Contains-map (edge_arc code) graph.edges e.0 listed))

      only : (arc : Arc) → Contains (edge_arcs code graph.edges) arc → (point : ℕ) × (branch : Branch) × Leaves code point branch × (arc ≡ back_arc code point branch.to)
      only arc c =
          let e = Contains-map_back (edge_arc code) graph.edges arc c in
          let l = edge_leaves code sound e.0 (edge_told code graph g e.0 e.1) in
          (e.0.leave, l.0, l.1, sym e.2 ∙ ap (back_arc code e.0.leave) (sym l.2))

-- a branch that leaves from a reached point goes to one
branch-reached : (code : List Instr) (point : ℕ) (branch : Branch) → walk.IsReached code point → Leaves code point branch → walk.IsReached code branch.to
branch-reached code point branch reached (inl on) = reached_on code point branch reached (in_contains branch (branches_at code point) on.0)
branch-reached code point branch reached (inr a) = reached_on code (walk.end_of a.walk) branch (record { walk = a.walk; is = a.is; ends = refl }) (in_contains branch (branches_at code (walk.end_of a.walk)) a.at)

module _ (code : List Instr) (arcs : List Arc) (are : AreReachedArcs code arcs) (x : Location) where
  -- one branch further back
  live-leads : (from to : ℕ) → Leads arcs (other_than (number_of x)) from to → IsLive code x from → IsLive code x to
  live-leads from to leads live =
      let b = are.only leads.arc leads.there in
      let starts : b.1.to ≡ from = ap (λ (a : Arc). a.from) (sym b.3) ∙ leads.leaves in
      let ends : b.0 ≡ to = ap (λ (a : Arc). a.to) (sym b.3) ∙ leads.enters in
      subst (IsLive code x) ends (Later b.0 b.1 b.2 (λ c. open-differs (number_of x) leads.arc leads.passes (ap (λ (a : Arc). a.label) b.3 ∙ assigned-number (slice_get code b.0) x (in_contains x (assigns_at (slice_get code b.0)) c))) (subst (IsLive code x) (sym starts) live))

  module _ (items : List ℕ) (readers : AreReaders code x items) where
    pub reached-live : (point : ℕ) → IsReached arcs items (other_than (number_of x)) point → IsLive code x point
    reached-live = reached_all arcs items (other_than (number_of x)) (IsLive code x) (λ n c. let r = readers.only n c in Here n r.0 r.1 r.2) (λ from to before leads. live-leads from to leads before)

    pub live-reached : (point : ℕ) → walk.IsReached code point → IsLive code x point → IsReached arcs items (other_than (number_of x)) point
    live-reached point reached (Here _ item at reads) = reached_seed arcs items (other_than (number_of x)) point (readers.there point item at reads)
    live-reached point reached (Later _ branch leaves none live) =
        reached_step arcs items (other_than (number_of x)) branch.to point (live-reached branch.to (branch-reached code point branch reached leaves) live)
        (record { arc = back_arc code point branch.to; there = are.there point branch reached leaves; leaves = refl; enters = refl; passes = differs-open (number_of x) (back_arc code point branch.to) (λ e. none (contains_in x (assigns_at (slice_get code point)) (number-assigned (slice_get code point) x e))) })
