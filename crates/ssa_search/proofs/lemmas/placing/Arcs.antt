-- The arcs of the edges of a flow graph are those between its blocks.
use Rattle.std.proofs.Common.{◌≡◌, ℕ, ◌<◌, Bool, true, false, List, [], ◌∷◌, length, Option, Some, None, refl, sym, ap, subst, ◌∙◌, inl, inr}
use Rattle.std.specs.Prelude.{slice_get}
use Rattle.std.specs.List.{Contains, flat_map}
use Rattle.std.proofs.lemmas.Option.{slice_get_within}
use Rattle.bril_tree.specs.declared.edge.Edge.{Edge}
use Rattle.bril_tree.specs.declared.numbered.Instr.{Instr}
use Rattle.bril_tree.specs.Edge.{Branch, branches_at, branches_from}
use Rattle.bril_tree.specs.Leaving.{IsEdge, leave_of}
use Rattle.bril_tree.specs.Membership.{In}
use Rattle.bril_tree.specs.Sites.{AreSitesSound, sites_of}
use Rattle.bril_tree.specs.Walk.{IsReached, end_of}
use Rattle.bril_tree.proofs.Branches.{aborts-close, branch_from}
use Rattle.bril_tree.proofs.Members.{contains_in, in_contains, in_flat_map, in_flat_map_source}
use Rattle.flow_graph.specs.Graph.{GraphView, IsGraphOf}
use Rattle.bril_tree.proofs.Shapes.{closing_needs}
use Rattle.flow_graph.proofs.Told.{edge_leaves, edge_listed, edge_told, leaves_edge, some_site}
use Rattle.graph_search.specs.declared.graph.Arc.{Arc}
use Rattle.ssa_laws.proofs.lemmas.reaching_definitions.Dominance.{opened, part-walk}
use Rattle.ssa_search.specs.placing.Blocks.{AreBlockArcs, arc_between, block_arc, edge_arcs}
use Rattle.ssa_search.specs.placing.Wanted.{head_of, is_label}

-- ---- where an edge leaves

record LeavesAt (code : List Instr) (point : ℕ) : Type 0 where
  reached : IsReached code point
  branch : Branch
  among : In branch (branches_at code point)

leaves-at : (code : List Instr) → AreSitesSound code → (edge : Edge) → IsEdge code edge → LeavesAt code edge.leave
leaves-at code sound edge e = by e.branch.aborts refl (sites_of code e.walk) refl
  where
    among : In e.branch (branches_at code (end_of e.walk))
    among = in_contains e.branch (branches_at code (end_of e.walk)) e.at

    leave : (b : Bool) → e.branch.aborts ≡ b → (sites : List ℕ) → sites_of code e.walk ≡ sites → edge.leave ≡ leave_of b e.branch.from sites
    leave b aborts sites are = ap (λ (x : Edge). x.leave) e.are ∙ ap (λ b. leave_of b e.branch.from (sites_of code e.walk)) aborts ∙ ap (leave_of b e.branch.from) are

    by : (b : Bool) → e.branch.aborts ≡ b → (sites : List ℕ) → sites_of code e.walk ≡ sites → LeavesAt code edge.leave
    by false plain sites are =
        let same : edge.leave ≡ end_of e.walk = leave false plain sites are ∙ branch_from code (end_of e.walk) e.branch among in
        record { reached = record { walk = e.walk; is = e.is; ends = sym same }; branch = e.branch; among = subst (λ p. In e.branch (branches_at code p)) (sym same) among }
    by true aborts [] none =
        absurd (some_site code e.walk sound e.is (closing_needs (slice_get code (end_of e.walk)) true (aborts-close code (end_of e.walk) (slice_get code (end_of e.walk)) e.branch among aborts)) none)
    by true aborts (newest ∷ older) are =
        let same : edge.leave ≡ newest = leave true aborts (newest ∷ older) are in
        let o = opened code e.walk newest e.is (subst (In newest) (sym are) (inl refl)) in
        let is = part-walk code (o.branch ∷ o.walk) e.walk o.part e.is in
        let ends : end_of o.walk ≡ edge.leave = o.ends ∙ sym same in
        record { reached = record { walk = o.walk; is = is.1; ends = ends }; branch = o.branch; among = subst (λ p. In o.branch (branches_at code p)) ends (in_contains o.branch (branches_at code (end_of o.walk)) is.0) }

-- it is an item
leave-within : (code : List Instr) (point : ℕ) → LeavesAt code point → point < length code
leave-within code point l = by (slice_get code point) refl
  where
    by : (o : Option Instr) → slice_get code point ≡ o → point < length code
    by None at = absurd (subst (λ o. In l.branch (branches_from code point o)) at l.among)
    by (Some item) at = slice_get_within code point item at

-- ---- one arc

between-there : (a b : Bool) (arc : Arc) → a ≡ true → b ≡ true → In arc (arc_between a b arc)
between-there a b arc ea eb = subst (λ x. In arc (arc_between x b arc)) (sym ea) (subst (λ y. In arc (arc_between true y arc)) (sym eb) (inl refl))

between-is : (a b : Bool) (arc other : Arc) → In other (arc_between a b arc) → (a ≡ true) × (b ≡ true) × (other ≡ arc)
between-is true true arc other (inl e) = (refl, refl, e)
between-is true true arc other (inr i) = absurd i
between-is true false arc other i = absurd i
between-is false b arc other i = absurd i

-- ---- all

module _ (code : List Instr) (graph : GraphView) (is : IsGraphOf code graph) (sound : AreSitesSound code) where
  pub edge-within : (edge : Edge) → Contains graph.edges edge → edge.leave < length code
  edge-within edge c = leave-within code edge.leave (leaves-at code sound edge (edge_told code graph is edge c))

  pub are-block_arcs : AreBlockArcs code (flat_map (edge_arcs code) graph.edges)
  are-block_arcs = record {
    there = λ k p n.
        let e = leaves_edge code p n.branch n.reached n.leaves in
        let listed = in_contains e.0 graph.edges (edge_listed code graph is sound e.0 e.1) in
        let to : e.0.to ≡ k = e.3 ∙ n.to in
        let here = between-there (is_label (slice_get code e.0.to)) (is_label (slice_get code (head_of code e.0.leave))) (block_arc code e.0.to e.0.leave) (ap (λ i. is_label (slice_get code i)) to ∙ n.label) (ap (λ i. is_label (slice_get code (head_of code i))) e.2 ∙ n.from_label) in
        let same : block_arc code e.0.to e.0.leave ≡ block_arc code k p = ap (λ i. block_arc code i e.0.leave) to ∙ ap (block_arc code k) e.2 in
        contains_in (block_arc code k p) (flat_map (edge_arcs code) graph.edges)
        (subst (λ a. In a (flat_map (edge_arcs code) graph.edges)) same (in_flat_map (edge_arcs code) e.0 (block_arc code e.0.to e.0.leave) graph.edges listed here));
    only = λ arc c.
        let s = in_flat_map_source (edge_arcs code) arc graph.edges (in_contains arc (flat_map (edge_arcs code) graph.edges) c) in
        let told = edge_told code graph is s.0 (contains_in s.0 graph.edges s.1) in
        let l = edge_leaves code sound s.0 told in
        let b = between-is (is_label (slice_get code s.0.to)) (is_label (slice_get code (head_of code s.0.leave))) (block_arc code s.0.to s.0.leave) arc s.2 in
        (s.0.to, s.0.leave, record { reached = (leaves-at code sound s.0 told).reached; label = b.0; from_label = b.1; branch = l.0; leaves = l.1; to = l.2 }, b.2);
  }
