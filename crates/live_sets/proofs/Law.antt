-- What the search finds from the readers of a location is where the location is live.
use Rattle.std.proofs.Common.{◌≡◌, ℕ, Bool, ◌<◌, List, Some, refl, sym, ap, subst, ◌∙◌, arith}
use Rattle.std.specs.Prelude.{slice_get}
use Rattle.std.specs.List.{All, Contains}
use Rattle.bril_tree.specs.declared.numbered.Instr.{Instr}
use Rattle.bril_tree.specs.Assigned.{assigns_at}
use Rattle.bril_tree.specs.Live.{IsLive, Here, Later}
use Rattle.bril_tree.specs.Operand.{Location, reads_of}
use Rattle.bril_tree.proofs.Members.{in_contains, contains_in}
use Rattle.flow_graph.specs.Location.{number_of}
use Rattle.flow_graph.proofs.Locations.{assigned-number, number-assigned}
use Rattle.graph_search.specs.Path.{IsReached, Leads, IsBetween, other_than}
use Rattle.graph_search.specs.declared.graph.Arc.{Arc}
use Rattle.graph_search.proofs.OpenArcs.{open-differs, differs-open}
use Rattle.graph_search.proofs.Paths.{reached_seed, reached_step, reached_all}
use Rattle.live_sets.specs.Arcs.{AreBackArcs, back_arc}

-- the items are exactly those that read the location
pub record AreReaders (code : List Instr) (x : Location) (items : List ℕ) : Type 0 where
  pub there : (point : ℕ) (item : Instr) → slice_get code point ≡ Some item → Contains (reads_of item) x → Contains items point
  pub only : (point : ℕ) → Contains items point → (item : Instr) × (slice_get code point ≡ Some item) × Contains (reads_of item) x

-- paths end at nodes
pub reached-within : (nodes : ℕ) (arcs : List Arc) (seeds : List ℕ) (gate : Arc → Bool) → All (IsBetween nodes) arcs → All (λ seed. seed < nodes) seeds → (node : ℕ) → IsReached arcs seeds gate node → node < nodes
reached-within nodes arcs seeds gate between inside =
    reached_all arcs seeds gate (λ n. n < nodes) (λ n c. subst (λ m. m < nodes) c.2 (inside c.0 n c.1))
    (λ m n before leads. let c = leads.there in let both : IsBetween nodes leads.arc = subst (IsBetween nodes) c.2 (between c.0 leads.arc c.1) in let e = leads.enters in let l = both.1 in omega arith)

module _ (code : List Instr) (arcs : List Arc) (are : AreBackArcs code arcs) (x : Location) where
  -- one branch further back
  pub live-leads : (from to : ℕ) → Leads arcs (other_than (number_of x)) from to → IsLive code x from → IsLive code x to
  live-leads from to leads live =
      let b = are.only leads.arc leads.there in
      let starts : b.1.to ≡ from = ap (λ (a : Arc). a.from) (sym b.3) ∙ leads.leaves in
      let ends : b.0 ≡ to = ap (λ (a : Arc). a.to) (sym b.3) ∙ leads.enters in
      subst (IsLive code x) ends (Later b.0 b.1 b.2 (λ c. open-differs (number_of x) leads.arc leads.passes (ap (λ (a : Arc). a.label) b.3 ∙ assigned-number (slice_get code b.0) x (in_contains x (assigns_at (slice_get code b.0)) c))) (subst (IsLive code x) (sym starts) live))

  module _ (items : List ℕ) (readers : AreReaders code x items) where
    pub reached-live : (point : ℕ) → IsReached arcs items (other_than (number_of x)) point → IsLive code x point
    reached-live = reached_all arcs items (other_than (number_of x)) (IsLive code x) (λ n c. let r = readers.only n c in Here n r.0 r.1 r.2) (λ from to before leads. live-leads from to leads before)

    pub live-reached : (point : ℕ) → IsLive code x point → IsReached arcs items (other_than (number_of x)) point
    live-reached point (Here _ item at reads) = reached_seed arcs items (other_than (number_of x)) point (readers.there point item at reads)
    live-reached point (Later _ branch leaves none live) =
        reached_step arcs items (other_than (number_of x)) branch.to point (live-reached branch.to live)
        (record { arc = back_arc code point branch.to; there = are.there point branch leaves; leaves = refl; enters = refl; passes = differs-open (number_of x) (back_arc code point branch.to) (λ e. none (contains_in x (assigns_at (slice_get code point)) (number-assigned (slice_get code point) x e))) })

-- what is live somewhere is read somewhere
pub live-read : (code : List Instr) (x : Location) (point : ℕ) → IsLive code x point → (at : ℕ) × (item : Instr) × (slice_get code at ≡ Some item) × Contains (reads_of item) x
live-read code x point (Here _ item at reads) = (point, item, at, reads)
live-read code x point (Later _ branch leaves none live) = live-read code x branch.to live
