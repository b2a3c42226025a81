-- The edges of a flow graph are the branches from the points that walks lead to.
use Rattle.std.proofs.Common.{◌≡◌, ℕ, suc, zero, ◌+◌, List, [], ◌∷◌, Option, Some, None, map, sym, subst, refl, ⊎_elim, arith}
use Rattle.std.specs.Prelude.{slice_get}
use Rattle.std.specs.List.{Contains}
use Rattle.std.proofs.lemmas.List.Elements.{Contains-append_left, Contains-append_right, Contains-append_cases}
use Rattle.bril_tree.specs.Edge.{Branch, branches_at}
use Rattle.bril_tree.specs.declared.numbered.Instr.{Instr}
use Rattle.bril_tree.proofs.Members.{Contains-map, Contains-map_back}
use Rattle.bril_tree.specs.Leaving.{edge_of}
use Rattle.flow_graph.specs.Graph.{edges_at, edges_from}
use Rattle.bril_tree.specs.declared.edge.Edge.{Edge}

-- the edge is a branch from a point with these sites
pub record IsEdgeAt (code : List Instr) (all : List (Option (List ℕ))) (first : ℕ) (edge : Edge) : Type 0 where
  pub index : ℕ
  pub sites : List ℕ
  pub branch : Branch
  pub there : slice_get all index ≡ Some (Some sites)
  pub leads : Contains (branches_at code (first + index)) branch
  pub is : edge_of sites branch ≡ edge

pub edge-there : (code : List Instr) (all : List (Option (List ℕ))) (first k point : ℕ) (sites : List ℕ) (branch : Branch) → first + k ≡ point →
    slice_get all k ≡ Some (Some sites) → Contains (branches_at code point) branch → Contains (edges_from code first all) (edge_of sites branch)
edge-there code [] first k point sites branch e h leads = cc
edge-there code (None ∷ all) first zero point sites branch e h leads = cc
edge-there code (Some s ∷ all) first zero point sites branch e h leads =
    let same : s ≡ sites = cc in
    let here : first ≡ point = omega arith in
    Contains-append_left (map (edge_of s) (branches_at code first)) (edges_from code (suc first) all) (edge_of sites branch)
    (subst (λ x. Contains (map (edge_of s) (branches_at code first)) (edge_of x branch)) same
    (Contains-map (edge_of s) (branches_at code first) branch (subst (λ p. Contains (branches_at code p) branch) (sym here) leads)))
edge-there code (o ∷ all) first (suc k) point sites branch e h leads =
    Contains-append_right (edges_at code first o) (edges_from code (suc first) all) (edge_of sites branch)
    (edge-there code all (suc first) k point sites branch (omega arith) h leads)

later : (code : List Instr) (o : Option (List ℕ)) (all : List (Option (List ℕ))) (first : ℕ) (edge : Edge) → IsEdgeAt code all (suc first) edge → IsEdgeAt code (o ∷ all) first edge
later code o all first edge r = record {
  index = suc r.index;
  sites = r.sites;
  branch = r.branch;
  there = r.there;
  leads = let same : suc first + r.index ≡ first + suc r.index = omega arith in subst (λ p. Contains (branches_at code p) r.branch) same r.leads;
  is = r.is;
}

pub edge-back : (code : List Instr) (all : List (Option (List ℕ))) (first : ℕ) (edge : Edge) → Contains (edges_from code first all) edge → IsEdgeAt code all first edge
edge-back code [] first edge h = absurd (omega (arith, h.1))
edge-back code (None ∷ all) first edge h = later code None all first edge (edge-back code all (suc first) edge h)
edge-back code (Some s ∷ all) first edge h =
    ⊎_elim
    (λ here.
    let back = Contains-map_back (edge_of s) (branches_at code first) edge here in
    let branch : Branch = back.0 in
    record {
      index = 0;
      sites = s;
      branch = branch;
      there = refl;
      leads = let same : first ≡ first + 0 = omega arith in subst (λ p. Contains (branches_at code p) branch) same back.1;
      is = back.2;
    })
    (λ rest. later code (Some s) all first edge (edge-back code all (suc first) edge rest))
    (Contains-append_cases (map (edge_of s) (branches_at code first)) (edges_from code (suc first) all) edge h)
