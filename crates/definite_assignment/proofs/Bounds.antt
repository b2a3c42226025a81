-- Arcs go between points.
use Rattle.std.proofs.Common.{◌≡◌, ℕ, ◌+◌, ◌<◌, ◌≤◌, List, [], ◌∷◌, Bool, true, false, Some, map, length, get_or, sym, ap, ◌∙◌, subst, refl, arith}
use Rattle.std.specs.Prelude.{slice_get}
use Rattle.std.specs.List.{All, Contains}
use Rattle.std.proofs.lemmas.List.Elements.{All-map, Contains-get_or}
use Rattle.bril_tree.specs.declared.numbered.Instr.{Instr}
use Rattle.definite_assignment.specs.Leaving.{leaving_arc, leaving_arcs, turned}
use Rattle.flow_graph.proofs.GraphEdges.{IsEdgeAt, edge-back}
use Rattle.bril_tree.proofs.Replays.{sites-inside}
use Rattle.definite_assignment.proofs.Branches.{branch-is, branch-inside}
use Rattle.bril_tree.specs.Leaving.{leave_of}
use Rattle.flow_graph.specs.Graph.{GraphView, IsGraphOf}
use Rattle.bril_tree.specs.declared.edge.Edge.{Edge}
use Rattle.graph_search.specs.Path.{IsBetween}
use Rattle.graph_search.specs.declared.graph.Arc.{Arc}

leave_inside : (n : ℕ) (aborts : Bool) (from : ℕ) (sites : List ℕ) → from < n → ((k site : ℕ) → slice_get sites k ≡ Some site → site < n) → leave_of aborts from sites < n
leave_inside n true from [] low inside = low
leave_inside n true from (newest ∷ older) low inside = inside 0 newest refl
leave_inside n false from sites low inside = low

edge_between : (code : List Instr) (graph : GraphView) → IsGraphOf code graph → (edge : Edge) → Contains graph.edges edge → IsBetween (length code + 1) (leaving_arc code edge)
edge_between code graph g edge h =
    let at : IsEdgeAt code graph.sites 0 edge = edge-back code graph.sites 0 edge (subst (λ es. Contains es edge) g.edges h) in
    let one = branch-is code (0 + at.index) at.branch at.leads in
    let low : 0 + at.index < length code = branch-inside code (0 + at.index) at.branch at.leads in
    let from : at.branch.from < length code = subst (λ p. p < length code) (sym one.from) low in
    let first = g.reached at.index at.sites at.there in
    let inside : (k site : ℕ) → slice_get at.sites k ≡ Some site → site < length code =
    λ k site e. sites-inside code first.walk first.first.is k site (ap (λ ss. slice_get ss k) first.are ∙ e) in
    let leave : leave_of at.branch.aborts at.branch.from at.sites < length code = leave_inside (length code) at.branch.aborts at.branch.from at.sites from inside in
    let to : at.branch.to ≤ length code = one.to low in
    subst (λ e. IsBetween (length code + 1) (leaving_arc code e)) at.is (omega arith, omega arith)

pub arcs-between : (code : List Instr) (graph : GraphView) → IsGraphOf code graph → All (IsBetween (length code + 1)) (leaving_arcs code graph.edges)
arcs-between code graph g =
    All-map (IsBetween (length code + 1)) (leaving_arc code) graph.edges
    (λ k d low. edge_between code graph g (get_or graph.edges k d) (Contains-get_or graph.edges k d low))

pub turned-between : (nodes : ℕ) (arcs : List Arc) → All (IsBetween nodes) arcs → All (IsBetween nodes) (map turned arcs)
turned-between nodes arcs all = All-map (IsBetween nodes) turned arcs (λ k d low. ((all k d low).1, (all k d low).0))
