-- What a flow graph tells of the walks of its function, and where edges leave.
use Rattle.std.proofs.Common.{◌≡◌, ◌⊎◌, ◌↔◌, ℕ, ◌+◌, Bool, true, false, List, [], ◌∷◌, Option, Some, None, refl, sym, ap, ◌∙◌, subst, inl, inr, arith, true≢false}
use Rattle.std.specs.Prelude.{slice_get, IsTrue, is_some}
use Rattle.std.specs.List.{Contains}
use Rattle.std.specs.Option.{option_map}
use Rattle.std.proofs.lemmas.Option.{same_Some}
use Rattle.bril_tree.specs.declared.edge.Edge.{Edge}
use Rattle.bril_tree.specs.declared.numbered.Instr.{Instr}
use Rattle.bril_tree.specs.Edge.{Branch, branches_at}
use Rattle.bril_tree.specs.Leaving.{leave_of, edge_of, IsEdge, Leaves}
use Rattle.bril_tree.specs.Sites.{AreFirstSites, AreSitesSound, NoSite, needs_site, sites_of}
use Rattle.bril_tree.specs.Walk.{IsWalk, IsReached, end_of}
use Rattle.bril_tree.proofs.Branches.{branch_from, walk_within, aborts-close}
use Rattle.bril_tree.proofs.Elements.{get_inside}
use Rattle.bril_tree.proofs.Members.{in_contains}
use Rattle.bril_tree.proofs.Shapes.{closing_needs}
use Rattle.flow_graph.specs.declared.graph.GraphFault.{GraphFault}
use Rattle.flow_graph.specs.declared.graph.GraphFault.TheVariants.{Nest, Memory}
use Rattle.flow_graph.specs.Graph.{GraphView, IsGraphOf, IsLeastFailing, edges_from}
use Rattle.flow_graph.proofs.FirstWalks.{reached_have_first}
use Rattle.flow_graph.proofs.GraphEdges.{edge-there, edge-back}
use Rattle.flow_graph.proofs.OpenSites.{sound_walks_agree, one_list}

-- ---- open sites of walks

-- the sites of a walk are those of the first walk to its end
pub first_sites : (code : List Instr) (walk : List Branch) → AreSitesSound code → IsWalk code walk → AreFirstSites code (end_of walk) (sites_of code walk)
first_sites code walk sound is =
    let w = reached_have_first code (end_of walk) (record { walk = walk; is = is; ends = refl }) in
    record {
      walk = w.0;
      first = w.1;
      are = sym (sound_walks_agree code sound walk is (sites_of code w.0) (record { walk = w.0; first = w.1; are = refl }));
    }

-- two walks to a point have the same sites
pub same_sites : (code : List Instr) → AreSitesSound code → (v w : List Branch) → IsWalk code v → IsWalk code w → end_of v ≡ end_of w → sites_of code v ≡ sites_of code w
same_sites code sound v w is_v is_w ends =
    one_list code (end_of w) (sites_of code v) (sites_of code w)
    (subst (λ n. AreFirstSites code n (sites_of code v)) ends (first_sites code v sound is_v))
    (first_sites code w sound is_w)

-- a `commit` and a `guard` that a walk leads to have an open site
pub some_site : (code : List Instr) (walk : List Branch) → AreSitesSound code → IsWalk code walk → IsTrue (needs_site (slice_get code (end_of walk))) → sites_of code walk ≡ [] → ⊥
some_site code walk sound is needs none =
    sound (end_of walk) (NoSite (record { first = subst (λ sites. AreFirstSites code (end_of walk) sites) none (first_sites code walk sound is); needs = needs }))

-- ---- where edges leave

module _ (code : List Instr) where
  leave-plain : (branch : Branch) (sites : List ℕ) → branch.aborts ≡ false → leave_of branch.aborts branch.from sites ≡ branch.from
  leave-plain branch sites e = ap (λ b. leave_of b branch.from sites) e

  leave-abort : (branch : Branch) (newest : ℕ) (older : List ℕ) → branch.aborts ≡ true → leave_of branch.aborts branch.from (newest ∷ older) ≡ newest
  leave-abort branch newest older e = ap (λ b. leave_of b branch.from (newest ∷ older)) e

  -- an edge is of a branch that leaves where the edge does
  pub edge_leaves : AreSitesSound code → (edge : Edge) → IsEdge code edge → (branch : Branch) × Leaves code edge.leave branch × (branch.to ≡ edge.to)
  edge_leaves sound edge e = (e.branch, by e.branch.aborts refl (sites_of code e.walk) refl, sym (ap (λ (x : Edge). x.to) e.are))
    where
      from : e.branch.from ≡ end_of e.walk
      from = branch_from code (end_of e.walk) e.branch (in_contains e.branch (branches_at code (end_of e.walk)) e.at)

      by : (b : Bool) → e.branch.aborts ≡ b → (sites : List ℕ) → sites_of code e.walk ≡ sites → Leaves code edge.leave e.branch
      by false plain sites opened =
          let same : edge.leave ≡ end_of e.walk = ap (λ (x : Edge). x.leave) e.are ∙ leave-plain e.branch (sites_of code e.walk) plain ∙ from in
          inl (subst (λ p. Contains (branches_at code p) e.branch) (sym same) e.at, plain)
      by true aborts [] opened =
          let closes = aborts-close code (end_of e.walk) (slice_get code (end_of e.walk)) e.branch (in_contains e.branch (branches_at code (end_of e.walk)) e.at) aborts in
          absurd (some_site code e.walk sound e.is (closing_needs (slice_get code (end_of e.walk)) true closes) opened)
      by true aborts (newest ∷ older) opened =
          let same : edge.leave ≡ newest = ap (λ (x : Edge). x.leave) e.are ∙ ap (leave_of e.branch.aborts e.branch.from) opened ∙ leave-abort e.branch newest older aborts in
          inr (record { aborts = aborts; walk = e.walk; is = e.is; at = e.at; older = older; sites = opened ∙ ap (λ s. s ∷ older) (sym same) })

  -- and a branch that leaves from a reached point has an edge
  pub leaves_edge : (point : ℕ) (branch : Branch) → IsReached code point → Leaves code point branch → (edge : Edge) × IsEdge code edge × (edge.leave ≡ point) × (edge.to ≡ branch.to)
  leaves_edge point branch reached (inl plain) =
      let at : Contains (branches_at code (end_of reached.walk)) branch = subst (λ p. Contains (branches_at code p) branch) (sym reached.ends) plain.0 in
      let from = branch_from code (end_of reached.walk) branch (in_contains branch (branches_at code (end_of reached.walk)) at) in (
        edge_of (sites_of code reached.walk) branch,
        record { walk = reached.walk; is = reached.is; branch = branch; at = at; are = refl },
        leave-plain branch (sites_of code reached.walk) plain.1 ∙ from ∙ reached.ends,
        refl,
      )
  leaves_edge point branch reached (inr abort) = (
    edge_of (sites_of code abort.walk) branch,
    record { walk = abort.walk; is = abort.is; branch = branch; at = abort.at; are = refl },
    ap (leave_of branch.aborts branch.from) abort.sites ∙ leave-abort branch point abort.older abort.aborts,
    refl,
  )

-- ---- what the graph tells

module _ (code : List Instr) (graph : GraphView) (is_graph : IsGraphOf code graph) where
  -- a point that a walk leads to has sites
  has_sites : (point : ℕ) → IsReached code point → (o : Option (List ℕ)) → slice_get graph.sites point ≡ Some o → (sites : List ℕ) × (slice_get graph.sites point ≡ Some (Some sites))
  has_sites point reached None e = absurd (is_graph.unreached point e reached)
  has_sites point reached (Some sites) e = (sites, e)

  sites_at_end : (walk : List Branch) → IsWalk code walk → (sites : List ℕ) × (slice_get graph.sites (end_of walk) ≡ Some (Some sites))
  sites_at_end walk is =
      let within = walk_within code walk is in
      let points = is_graph.points in
      let here = get_inside graph.sites (end_of walk) (omega arith) in
      has_sites (end_of walk) (record { walk = walk; is = is; ends = refl }) here.0 here.1

  -- the sites of a walk are those that the graph tells of its end
  pub sites_of_walk : AreSitesSound code → (walk : List Branch) → IsWalk code walk → slice_get graph.sites (end_of walk) ≡ Some (Some (sites_of code walk))
  sites_of_walk sound walk is =
      let found = sites_at_end walk is in
      let same = sound_walks_agree code sound walk is found.0 (is_graph.reached (end_of walk) found.0 found.1) in
      found.1 ∙ ap (λ s. Some (Some s)) (sym same)

  -- a walk to a point for which the graph tells sites
  pub walk_to : (point : ℕ) (sites : List ℕ) → slice_get graph.sites point ≡ Some (Some sites) → (walk : List Branch) × IsWalk code walk × (end_of walk ≡ point) × (sites_of code walk ≡ sites)
  walk_to point sites e =
      let first = is_graph.reached point sites e in
      (first.walk, first.first.is, first.first.ends, first.are)

  -- a walk leads to the point exactly where the graph tells sites of it
  pub reach_tells : (point : ℕ) (b : Bool) → Some b ≡ option_map is_some (slice_get graph.sites point) → IsTrue b ↔ IsReached code point
  reach_tells point b e = by (slice_get graph.sites point) refl b e
    where
      by : (o : Option (Option (List ℕ))) → slice_get graph.sites point ≡ o → (b : Bool) → Some b ≡ option_map is_some o → IsTrue b ↔ IsReached code point
      by None at b e = absurd (let h : Some b ≡ None = e in cc)
      by (Some None) at b e = let h : b ≡ false = same_Some b false e in ((λ k. absurd (true≢false (sym k ∙ h))), (λ r. absurd (is_graph.unreached point at r)))
      by (Some (Some sites)) at b e =
          let w = walk_to point sites at in
          ((λ k. record { walk = w.0; is = w.1; ends = w.2 }), (λ r. same_Some b true e))

  -- the edges of the graph are those of the function
  pub edge_told : (edge : Edge) → Contains graph.edges edge → IsEdge code edge
  edge_told edge c =
      let at = edge-back code graph.sites 0 edge (subst (λ es. Contains es edge) is_graph.edges c) in
      let w = walk_to at.index at.sites at.there in
      let zeros : 0 + at.index ≡ at.index = omega arith in
      record {
        walk = w.0;
        is = w.1;
        branch = at.branch;
        at = subst (λ p. Contains (branches_at code p) at.branch) (zeros ∙ sym w.2) at.leads;
        are = sym at.is ∙ ap (λ s. edge_of s at.branch) (sym w.3);
      }

  pub edge_listed : AreSitesSound code → (edge : Edge) → IsEdge code edge → Contains graph.edges edge
  edge_listed sound edge e =
      let there = edge-there code graph.sites 0 (end_of e.walk) (end_of e.walk) (sites_of code e.walk) e.branch (omega arith) (sites_of_walk sound e.walk e.is) e.at in
      subst (λ es. Contains es edge) (sym is_graph.edges) (subst (λ x. Contains (edges_from code 0 graph.sites) x) (sym e.are) there)

-- the sites of an accepted function don't fail
pub no_nest : (code : List Instr) (fault : GraphFault) (point : ℕ) → AreSitesSound code → fault ≡ Nest point → (fault ≡ Memory) ⊎ ((k : ℕ) × (fault ≡ Nest k) × IsLeastFailing code k) → ⊥
no_nest code fault point sound e (inl m) = let h : Nest point ≡ Memory = sym e ∙ m in cc
no_nest code fault point sound e (inr f) = sound f.0 f.2.fails
