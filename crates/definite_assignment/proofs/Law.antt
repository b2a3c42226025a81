-- A location may be unassigned at a point exactly where it is no argument and the search from the first item, over edges
-- from the points where they leave, past items that don't assign it, leads to the point.
use Rattle.std.proofs.Common.{◌≡◌, ◌≢◌, ℕ, suc, zero, ◌+◌, ◌↔◌, List, [], ◌∷◌, ◌++◌, Bool, true, false, Option, Some, None, length, sym, ap, ◌∙◌, subst, refl, ⊎_elim, arith}
use Rattle.std.specs.Prelude.{slice_get}
use Rattle.std.specs.List.{Contains}
use Rattle.std.specs.Option.{option_map, option_to_list}
use Rattle.std.proofs.lemmas.Bool.{cases_Bool, both_ways, false_from_ne_true}
use Rattle.std.proofs.lemmas.List.Elements.{Contains-append_left, Contains-append_right, Contains-append_cases}
use Rattle.bril_tree.specs.Assigned.{Assigned, IsMaybeUnassigned, assigned_of, assigned_behind, assigned_changed, assigns_at, newest_saved}
use Rattle.bril_tree.specs.Edge.{Branch, branches_at}
use Rattle.bril_tree.specs.Operand.{Location}
use Rattle.bril_tree.specs.Sites.{AreSitesSound, NoSite, change_of, item_change, sites_of}
use Rattle.bril_tree.specs.Walk.{IsWalk, end_of}
use Rattle.bril_tree.specs.declared.numbered.Instr.{Instr}
use Rattle.definite_assignment.specs.Leaving.{leaving_arc, leaving_arcs}
use Rattle.definite_assignment.specs.Reads.{IsOpen, is_argument}
use Rattle.flow_graph.specs.Location.{number_of, location_at, number_at}
use Rattle.flow_graph.specs.Reads.{access_at}
use Rattle.flow_graph.proofs.GraphEdges.{IsEdgeAt, edge-there, edge-back}
use Rattle.flow_graph.proofs.Locations.{number-is}
use Rattle.bril_tree.proofs.Members.{Contains-map, Contains-map_back}
use Rattle.bril_tree.specs.Shape.{shape_fault_of}
use Rattle.definite_assignment.proofs.Arguments.{argument-is, argument-there}
use Rattle.bril_tree.proofs.Replays.{IsSaved, saved-back, same-length, open-sites, replay}
use Rattle.definite_assignment.proofs.Branches.{IsAbort, branch-is, locations-passed, opens-nothing}
use Rattle.bril_tree.specs.Leaving.{edge_of, leave_of}
use Rattle.flow_graph.specs.Graph.{GraphView, IsGraphOf}
use Rattle.bril_tree.specs.declared.edge.Edge.{Edge}
use Rattle.flow_graph.proofs.Told.{sites_of_walk}
use Rattle.graph_search.specs.Path.{Leads, other_than}
use Rattle.graph_search.specs.declared.graph.Arc.{Arc}
use Rattle.graph_search.proofs.OpenArcs.{open-differs, differs-open}
use Rattle.graph_search.proofs.Paths.{reached_seed, reached_step, reached_all}

-- the graph of a function whose open sites are sound and whose items have the shapes of their operations
pub record IsSoundGraph (code : List Instr) (graph : GraphView) : Type 0 where
  pub is : IsGraphOf code graph
  pub sound : AreSitesSound code
  pub returns : Bool
  pub shaped : shape_fault_of returns code ≡ None

-- where an abort is, a site is open
some_site : {X : Type 0} (code : List Instr) (graph : GraphView) → IsSoundGraph code graph → (p : ℕ) → IsAbort (slice_get code p) → slice_get graph.sites p ≡ Some (Some []) → X
some_site code graph g p a e = absurd (g.sound p (NoSite (record { first = g.is.reached p [] e; needs = a.needs })))

arc_there : (code : List Instr) (graph : GraphView) → IsSoundGraph code graph → (point : ℕ) (sites : List ℕ) (branch : Branch) →
    slice_get graph.sites point ≡ Some (Some sites) → Contains (branches_at code point) branch → Contains (leaving_arcs code graph.edges) (leaving_arc code (edge_of sites branch))
arc_there code graph g point sites branch e leads =
    Contains-map (leaving_arc code) graph.edges (edge_of sites branch)
    (subst (λ es. Contains es (edge_of sites branch)) (sym g.is.edges) (edge-there code graph.sites 0 point point sites branch (omega arith) e leads))

-- an arc from the point where a branch leaves, past an item that doesn't assign the location
leads_on : (code : List Instr) (graph : GraphView) → IsSoundGraph code graph → (x : Location) (point leave : ℕ) (sites : List ℕ) (branch : Branch) →
    slice_get graph.sites point ≡ Some (Some sites) → Contains (branches_at code point) branch → leave_of branch.aborts branch.from sites ≡ leave →
    number_at (slice_get code leave) ≢ Some (number_of x) → Leads (leaving_arcs code graph.edges) (other_than (number_of x)) leave branch.to
leads_on code graph g x point leave sites branch e leads same passes = record {
  arc = leaving_arc code (edge_of sites branch);
  there = arc_there code graph g point sites branch e leads;
  leaves = same;
  enters = refl;
  passes = differs-open (number_of x) (leaving_arc code (edge_of sites branch)) (λ h. passes (ap (λ l. number_at (slice_get code l)) (sym same) ∙ h));
}

open_on : (arcs : List Arc) (args : ℕ) (x : Location) (l q : ℕ) → IsOpen arcs args (access_at l x) → Leads arcs (other_than (number_of x)) l q → IsOpen arcs args (access_at q x)
open_on arcs args x l q o leads = record { local = o.local; reached = reached_step arcs (0 ∷ []) (other_than (number_of x)) l q o.reached leads }

-- what a walk doesn't assign is open at its end, and what was saved without it makes it open at the site
record Stands (code : List Instr) (args : ℕ) (arcs : List Arc) (x : Location) (walk : List Branch) : Type 0 where
  pub here : (¬ Contains (assigned_of code args walk).locations x) → IsOpen arcs args (access_at (end_of walk) x)
  pub saved : (k site : ℕ) (set : List Location) → IsSaved (sites_of code walk) (assigned_of code args walk) k site set → (¬ Contains set x) → IsOpen arcs args (access_at site x)
  pub same : length (sites_of code walk) ≡ length (assigned_of code args walk).saved

-- what is assigned behind a branch that is no abort
locations_on : (code : List Instr) (graph : GraphView) → IsSoundGraph code graph → (branch : Branch) (a : Assigned) → branch.aborts ≡ false →
    (assigned_behind code branch a).locations ≡ option_to_list (location_at (slice_get code branch.from)) ++ a.locations
locations_on code graph g branch a e =
    let item = slice_get code branch.from in
    ap (λ b. (assigned_changed (item_change item b) (assigns_at item) b a).locations) e ∙ locations-passed g.returns code g.shaped branch.from a

-- what is assigned behind an abort
locations_back : (code : List Instr) (branch : Branch) (a : Assigned) → branch.aborts ≡ true → IsAbort (slice_get code branch.from) →
    (assigned_behind code branch a).locations ≡ newest_saved a.locations a.saved
locations_back code branch a e abort =
    let item = slice_get code branch.from in
    ap (λ b. (assigned_changed (item_change item b) (assigns_at item) b a).locations) e ∙ ap (λ ch. (assigned_changed ch (assigns_at item) true a).locations) abort.closes

leave_on : (aborts : Bool) (from : ℕ) (sites : List ℕ) → aborts ≡ false → leave_of aborts from sites ≡ from
leave_on true from sites e = cc
leave_on false from sites e = refl

listed_one : (o : Option Location) (x : Location) → o ≡ Some x → Contains (option_to_list o) x
listed_one None x e = cc
listed_one (Some y) x e = let same : y ≡ x = cc in (0, omega arith, same)

listed_back : (o : Option Location) (x : Location) → Contains (option_to_list o) x → o ≡ Some x
listed_back None x h = absurd (omega (arith, h.1))
listed_back (Some y) x (zero, low, e) = ap Some e
listed_back (Some y) x (suc k, low, e) = absurd (omega arith)

stands_on : (code : List Instr) (args : ℕ) (graph : GraphView) → IsSoundGraph code graph → (x : Location) (branch : Branch) (walk : List Branch) → IsWalk code walk →
    Contains (branches_at code (end_of walk)) branch → Stands code args (leaving_arcs code graph.edges) x walk → branch.aborts ≡ false →
    (¬ Contains (assigned_behind code branch (assigned_of code args walk)).locations x) → IsOpen (leaving_arcs code graph.edges) args (access_at branch.to x)
stands_on code args graph g x branch walk is leads s e lacks =
    let a = assigned_of code args walk in
    let item = slice_get code branch.from in
    let arcs = leaving_arcs code graph.edges in
    let from : branch.from ≡ end_of walk = (branch-is code (end_of walk) branch leads).from in
    let locations : (assigned_behind code branch a).locations ≡ option_to_list (location_at item) ++ a.locations = locations_on code graph g branch a e in
    let before : IsOpen arcs args (access_at (end_of walk) x) =
    s.here (λ h. lacks (subst (λ ps. Contains ps x) (sym locations) (Contains-append_right (option_to_list (location_at item)) a.locations x h))) in
    let passes : number_at item ≢ Some (number_of x) =
    λ h. lacks (subst (λ ps. Contains ps x) (sym locations) (Contains-append_left (option_to_list (location_at item)) a.locations x (listed_one (location_at item) x (number-is (location_at item) x h)))) in
    let there = sites_of_walk code graph g.is g.sound walk is in
    open_on arcs args x branch.from branch.to (subst (λ p. IsOpen arcs args (access_at p x)) (sym from) before)
    (leads_on code graph g x (end_of walk) branch.from (sites_of code walk) branch there leads (leave_on branch.aborts branch.from (sites_of code walk) e) passes)

stands_back : (code : List Instr) (args : ℕ) (graph : GraphView) → IsSoundGraph code graph → (x : Location) (branch : Branch) (walk : List Branch) → IsWalk code walk →
    Contains (branches_at code (end_of walk)) branch → Stands code args (leaving_arcs code graph.edges) x walk → branch.aborts ≡ true →
    (sites : List ℕ) → sites_of code walk ≡ sites → (saved : List (List Location)) → (assigned_of code args walk).saved ≡ saved →
    (¬ Contains (newest_saved (assigned_of code args walk).locations saved) x) → IsOpen (leaving_arcs code graph.edges) args (access_at branch.to x)
stands_back code args graph g x branch walk is leads s e [] is_sites saved is_saved lacks =
    let there = sites_of_walk code graph g.is g.sound walk is in
    some_site code graph g (end_of walk) ((branch-is code (end_of walk) branch leads).aborts e) (there ∙ ap (λ ss. Some (Some ss)) is_sites)
stands_back code args graph g x branch walk is leads s e (l ∷ rest) is_sites [] is_saved lacks =
    let same = s.same in
    let one : length (sites_of code walk) ≡ suc (length rest) = ap length is_sites in
    let two : length (assigned_of code args walk).saved ≡ 0 = ap length is_saved in
    absurd (omega arith)
stands_back code args graph g x branch walk is leads s e (l ∷ rest) is_sites (set ∷ sets) is_saved lacks =
    let arcs = leaving_arcs code graph.edges in
    let newest : slice_get (sites_of code walk) 0 ≡ Some l = ap (λ ss. slice_get ss 0) is_sites in
    let before : IsOpen arcs args (access_at l x) = s.saved 0 l set (record { site_there = newest; saved_there = ap (λ ss. slice_get ss 0) is_saved }) lacks in
    let there : slice_get graph.sites (end_of walk) ≡ Some (Some (l ∷ rest)) =
    sites_of_walk code graph g.is g.sound walk is ∙ ap (λ ss. Some (Some ss)) is_sites in
    let opens = open-sites code walk 0 l newest in
    let nothing : location_at (slice_get code l) ≡ None = opens-nothing g.returns code g.shaped l opens.0 opens.1 in
    let numberless : number_at (slice_get code l) ≡ None = ap (option_map number_of) nothing in
    open_on arcs args x l branch.to before
    (leads_on code graph g x (end_of walk) l (l ∷ rest) branch there leads (ap (λ b. leave_of b branch.from (l ∷ rest)) e) (λ h. cc))

stands : (code : List Instr) (args : ℕ) (graph : GraphView) → IsSoundGraph code graph → (x : Location) (walk : List Branch) → IsWalk code walk →
    Stands code args (leaving_arcs code graph.edges) x walk
stands code args graph g x [] is = record {
  here = λ lacks. record {
    local = false_from_ne_true (is_argument args (number_of x)) (λ h. lacks (argument-there args x h));
    reached = reached_seed (leaving_arcs code graph.edges) (0 ∷ []) (other_than (number_of x)) 0 (0, omega arith, refl);
  };
  saved = λ k site set s. let h = s.site_there in cc;
  same = refl;
}
stands code args graph g x (branch ∷ walk) is =
    let arcs = leaving_arcs code graph.edges in
    let a = assigned_of code args walk in
    let before = stands code args graph g x walk is.1 in
    let one = branch-is code (end_of walk) branch is.0 in
    record {
      here = λ lacks. ⊎_elim
          (λ e. stands_back code args graph g x branch walk is.1 is.0 before e (sites_of code walk) refl a.saved refl
          (subst (λ ps. ¬ Contains ps x) (locations_back code branch a e (subst (λ p. IsAbort (slice_get code p)) (sym one.from) (one.aborts e))) lacks))
          (λ e. stands_on code args graph g x branch walk is.1 is.0 before e lacks)
          (cases_Bool branch.aborts);
      saved = saved-back (λ site set. (¬ Contains set x) → IsOpen arcs args (access_at site x)) (change_of code branch) (assigns_at (slice_get code branch.from)) branch.aborts branch.from (sites_of code walk) a
          (subst (λ p. (¬ Contains a.locations x) → IsOpen arcs args (access_at p x)) (sym one.from) before.here) before.saved;
      same = same-length (change_of code branch) (assigns_at (slice_get code branch.from)) branch.aborts branch.from (sites_of code walk) a before.same;
    }

-- a walk to the point where a branch leaves gives a walk to where it goes
lacks_on : (code : List Instr) (args : ℕ) (graph : GraphView) → IsSoundGraph code graph → (x : Location) (point : ℕ) (branch : Branch) → Contains (branches_at code point) branch → branch.aborts ≡ false →
    number_at (slice_get code branch.from) ≢ Some (number_of x) → IsMaybeUnassigned code args x branch.from → IsMaybeUnassigned code args x branch.to
lacks_on code args graph g x point branch leads e passes m =
    let from : branch.from ≡ point = (branch-is code point branch leads).from in
    let item = slice_get code branch.from in
    let a = assigned_of code args m.walk in
    record {
      walk = branch ∷ m.walk;
      is = (subst (λ p. Contains (branches_at code p) branch) (sym (m.ends ∙ from)) leads, m.is);
      ends = refl;
      lacks = λ h. ⊎_elim
          (λ now. passes (ap (option_map number_of) (listed_back (location_at item) x now)))
          m.lacks
          (Contains-append_cases (option_to_list (location_at item)) a.locations x (subst (λ ps. Contains ps x) (locations_on code graph g branch a e) h));
    }

newest_is : (locations set : List Location) (saved : List (List Location)) → slice_get saved 0 ≡ Some set → newest_saved locations saved ≡ set
newest_is locations set [] e = cc
newest_is locations set (s ∷ saved) e = cc

lacks_back : (code : List Instr) (args : ℕ) (graph : GraphView) → IsSoundGraph code graph → (x : Location) (point : ℕ) (sites : List ℕ) (branch : Branch) →
    slice_get graph.sites point ≡ Some (Some sites) → Contains (branches_at code point) branch → branch.aborts ≡ true →
    IsMaybeUnassigned code args x (leave_of true branch.from sites) → IsMaybeUnassigned code args x branch.to
lacks_back code args graph g x point [] branch there leads e m = some_site code graph g point ((branch-is code point branch leads).aborts e) there
lacks_back code args graph g x point (l ∷ rest) branch there leads e m =
    let one = branch-is code point branch leads in
    let first = g.is.reached point (l ∷ rest) there in
    let newest : slice_get (sites_of code first.walk) 0 ≡ Some (end_of m.walk) = ap (λ ss. slice_get ss 0) first.are ∙ ap Some (sym m.ends) in
    let r = replay code args first.walk m.walk first.first.is m.is 0 newest in
    let a = assigned_of code args r.walk in
    let locations : (assigned_behind code branch a).locations ≡ (assigned_of code args m.walk).locations =
    locations_back code branch a e (subst (λ p. IsAbort (slice_get code p)) (sym one.from) (one.aborts e)) ∙ newest_is a.locations (assigned_of code args m.walk).locations a.saved r.saved in
    record {
      walk = branch ∷ r.walk;
      is = (subst (λ p. Contains (branches_at code p) branch) (sym (r.ends ∙ first.first.ends)) leads, r.is);
      ends = refl;
      lacks = λ h. m.lacks (subst (λ ps. Contains ps x) locations h);
    }

lacks_branch : (code : List Instr) (args : ℕ) (graph : GraphView) → IsSoundGraph code graph → (x : Location) (point : ℕ) (sites : List ℕ) (branch : Branch) →
    slice_get graph.sites point ≡ Some (Some sites) → Contains (branches_at code point) branch → number_at (slice_get code (leave_of branch.aborts branch.from sites)) ≢ Some (number_of x) →
    IsMaybeUnassigned code args x (leave_of branch.aborts branch.from sites) → IsMaybeUnassigned code args x branch.to
lacks_branch code args graph g x point sites branch there leads passes m = ⊎_elim
    (λ e. lacks_back code args graph g x point sites branch there leads e (subst (λ b. IsMaybeUnassigned code args x (leave_of b branch.from sites)) e m))
    (λ e. let same = leave_on branch.aborts branch.from sites e in
    lacks_on code args graph g x point branch leads e (λ h. passes (ap (λ l. number_at (slice_get code l)) same ∙ h)) (subst (IsMaybeUnassigned code args x) same m))
    (cases_Bool branch.aborts)

lacks_arc : (code : List Instr) (args : ℕ) (graph : GraphView) → IsSoundGraph code graph → (x : Location) (l q : ℕ) → IsMaybeUnassigned code args x l →
    Leads (leaving_arcs code graph.edges) (other_than (number_of x)) l q → IsMaybeUnassigned code args x q
lacks_arc code args graph g x l q m leads =
    let back = Contains-map_back (leaving_arc code) graph.edges leads.arc leads.there in
    let edge : Edge = back.0 in
    let at : IsEdgeAt code graph.sites 0 edge = edge-back code graph.sites 0 edge (subst (λ es. Contains es edge) g.is.edges back.1) in
    let arc : leaving_arc code (edge_of at.sites at.branch) ≡ leads.arc = ap (leaving_arc code) at.is ∙ back.2 in
    let leaves : leave_of at.branch.aborts at.branch.from at.sites ≡ l = ap (λ a. a.from) arc ∙ leads.leaves in
    let enters : at.branch.to ≡ q = ap (λ a. a.to) arc ∙ leads.enters in
    let point : 0 + at.index ≡ at.index = omega arith in
    subst (IsMaybeUnassigned code args x) enters
    (lacks_branch code args graph g x at.index at.sites at.branch at.there (subst (λ p. Contains (branches_at code p) at.branch) point at.leads)
    (λ h. open-differs (number_of x) leads.arc leads.passes (ap (λ a. a.label) (sym arc) ∙ h)) (subst (IsMaybeUnassigned code args x) (sym leaves) m))

-- the law
pub unassigned-iff : (code : List Instr) (args : ℕ) (graph : GraphView) → IsSoundGraph code graph → (x : Location) (point : ℕ) →
    IsOpen (leaving_arcs code graph.edges) args (access_at point x) ↔ IsMaybeUnassigned code args x point
unassigned-iff code args graph g x point = (
  λ o. reached_all (leaving_arcs code graph.edges) (0 ∷ []) (other_than (number_of x)) (IsMaybeUnassigned code args x)
      (λ n h. subst (IsMaybeUnassigned code args x) (in_one n h) (record {
        walk = [];
        is = tt;
        ends = refl;
        lacks = λ there. both_ways (is_argument args (number_of x)) o.local (argument-is args x there);
      }))
      (lacks_arc code args graph g x) point o.reached,
  λ m. subst (λ p. IsOpen (leaving_arcs code graph.edges) args (access_at p x)) m.ends ((stands code args graph g x m.walk m.is).here m.lacks),
)
  where
    in_one : (n : ℕ) → Contains (0 ∷ []) n → 0 ≡ n
    in_one n (zero, low, e) = e
    in_one n (suc k, low, e) = absurd (omega arith)
