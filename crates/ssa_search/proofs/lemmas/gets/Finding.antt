-- The pairs of a label and a location that is live there, location by location.
use Rattle.std.proofs.Common.{◌≡◌, ◌↔◌, ℕ, suc, ◌+◌, ◌*◌, ◌<◌, List, [], ◌++◌, length, map, Some, None, sym, subst, ◌∙◌, ⊎_elim, arith}
use Rattle.std.specs.Prelude.{is_some, slice_get}
use Rattle.std.specs.List.{Contains}
use Rattle.std.proofs.lemmas.Bool.{cases_eq}
use Rattle.std.proofs.lemmas.List.Elements.{Contains-append_cases, Contains-append_left, Contains-append_right}
use Rattle.bril_tree.specs.declared.numbered.Instr.{Instr}
use Rattle.bril_tree.specs.declared.numbered_function.Func.{Func}
use Rattle.bril_tree.specs.Live.{IsLive, Here, Later}
use Rattle.bril_tree.specs.Membership.{In}
use Rattle.bril_tree.specs.Operand.{Location, reads_of}
use Rattle.bril_tree.specs.Shape.{shape_fault_of}
use Rattle.bril_tree.proofs.Members.{contains_in, in_contains, in_map, in_map_source}
use Rattle.flow_graph.specs.Accesses.{Accesses}
use Rattle.flow_graph.specs.Location.{number_of}
use Rattle.flow_graph.specs.declared.reads.Access.{Access}
use Rattle.flow_graph.proofs.Locations.{number-one}
use Rattle.graph_search.specs.Path.{GraphView}
use Rattle.ssa_search.specs.accesses.Accesses.{AreBlocksOf}
use Rattle.ssa_search.proofs.lemmas.accesses.Tracking.{location-of}
use Rattle.ssa_search.proofs.lemmas.accesses.Within.{function-below, reads-below, shaped-at}
use Rattle.ssa_search.specs.gets.Found.{AddsFound, AreFoundBefore, IsBlank, IsLiveNumber, found_at, with_values}
use Rattle.ssa_search.proofs.lemmas.gets.Firsts.{firsts-are}
use Rattle.ssa_laws.specs.reaching_definitions.Told.{LeadToLabels}
use Rattle.ssa_search.specs.placing.Blocks.{FindsLiveLabels, IsLiveLabel}

-- ---- one location

pub adds-found : (code : List Instr) → length code < 4294967295 → LeadToLabels code → (heads : List ℕ) (arcs : GraphView) (exposed firsts : List Access) → AreBlocksOf code heads arcs exposed firsts
    → (x : ℕ) (seeds points first found : List ℕ) → ((h : ℕ) → Contains seeds h ↔ Accesses exposed x h) → ((q : ℕ) → Contains points q ↔ Accesses firsts x q) → length first ≡ arcs.nodes + 1 → IsBlank first
    → FindsLiveLabels arcs.arcs seeds (with_values (λ p. p) heads points first) found → (old new : List Access) → new ≡ old ++ map (found_at x) found → AddsFound code x old new
adds-found code few leads heads arcs exposed firsts blocks x seeds points first found readers writers long blank finds old new grew = record {
  labels = found;
  grew = grew;
  exact = λ k. ((λ c. record { location = a; number = number; live = (exact k).0 c }), (λ l. (exact k).1 (subst (λ b. IsLiveLabel code b k) (number-one l.location a (l.number ∙ sym number)) l.live)));
}
  where
    a : Location
    a = (location-of x).0

    number : number_of a ≡ x
    number = (location-of x).1

    exact : (k : ℕ) → Contains found k ↔ IsLiveLabel code a k
    exact = finds code a leads blocks.arcs
        (λ h. ((λ c. (blocks.accesses.exposed a h).0 (subst (λ n. Accesses exposed n h) (sym number) ((readers h).0 c))), (λ e. (readers h).1 (subst (λ n. Accesses exposed n h) number ((blocks.accesses.exposed a h).1 e)))))
        (firsts-are code a heads blocks.heads points
        (λ q. ((λ c. (blocks.accesses.firsts a q).0 (subst (λ n. Accesses firsts n q) (sym number) ((writers q).0 c))), (λ f. (writers q).1 (subst (λ n. Accesses firsts n q) number ((blocks.accesses.firsts a q).1 f)))))
        first (let n = blocks.nodes in omega (arith, long, n)) few blank)

-- ---- all locations

module _ (code : List Instr) where
  pub none-found : AreFoundBefore code 0 []
  none-found = record { there = λ k x less. absurd (omega (arith, less)); only = λ access c. absurd (in_contains access [] c) }

  pub found-more : (x : ℕ) (old new : List Access) → AreFoundBefore code x old → AddsFound code x old new → AreFoundBefore code (suc x) new
  found-more x old new b adds = record { there = there; only = only }
    where
      there : (k y : ℕ) → y < suc x → IsLiveNumber code k y → Contains new (found_at y k)
      there k y less live = subst (λ l. Contains l (found_at y k)) (sym adds.grew) (⊎_elim
          (λ same.
          let here = (adds.exact k).1 (subst (IsLiveNumber code k) same live) in
          Contains-append_right old (map (found_at x) adds.labels) (found_at y k) (contains_in (found_at y k) (map (found_at x) adds.labels) (subst (λ z. In (found_at z k) (map (found_at x) adds.labels)) (sym same) (in_map (found_at x) k adds.labels (in_contains k adds.labels here)))))
          (λ differs. Contains-append_left old (map (found_at x) adds.labels) (found_at y k) (b.there k y (omega (arith, less, differs)) live))
          (cases_eq y x))

      only : (access : Access) → Contains new access → IsLiveNumber code access.location access.item × (access.item < suc x)
      only access c = ⊎_elim
          (λ i. let o = b.only access i in (o.0, let less = o.1 in omega (arith, less)))
          (λ i.
          let s = in_map_source (found_at x) access adds.labels (in_contains access (map (found_at x) adds.labels) i) in
          subst (λ (z : Access). IsLiveNumber code z.location z.item × (z.item < suc x)) (sym s.2) ((adds.exact s.0).0 (contains_in s.0 adds.labels s.1), omega arith))
          (Contains-append_cases old (map (found_at x) adds.labels) access (subst (λ l. Contains l access) adds.grew c))

  -- what is live is read
  live-read : (a : Location) (point : ℕ) → IsLive code a point → (q : ℕ) × (item : Instr) × (slice_get code q ≡ Some item) × Contains (reads_of item) a
  live-read a point (Here _ item at reads) = (point, item, at, reads)
  live-read a point (Later _ branch leaves none live) = live-read a branch.to live

-- a location that is live has a number below twice that of the variables
pub live-below : (F : Func) → shape_fault_of (is_some F.ret) F.code ≡ None → (a : Location) (point : ℕ) → IsLive F.code a point → number_of a < 2 * length F.vars
live-below F shaped a point live =
    let r = live-read F.code a point live in
    reads-below (is_some F.ret) (length F.vars) r.1 (shaped-at F shaped r.0 r.1 r.2) (function-below F r.0 r.1 r.2) a (in_contains a (reads_of r.1) r.3)
