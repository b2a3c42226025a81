-- The lanes of a search: first points that are written and taken out, and seeds.
use Rattle.std.proofs.Common.{◌≡◌, ◌⊎◌, ◌↔◌, ℕ, suc, ◌+◌, ◌*◌, ◌<◌, ◌≤◌, true, List, [], ◌∷◌, ◌++◌, length, map, refl, sym, ap, subst, ◌∙◌, inl, inr, ⊎_elim, set, arith}
use Rattle.std.specs.Prelude.{slice_get, slice_index}
use Rattle.std.specs.List.{Contains, filter}
use Rattle.std.proofs.lemmas.Bool.{cases_eq}
use Rattle.std.proofs.lemmas.List.{get_or-set_same, get_or-set_other, length-set}
use Rattle.bril_tree.specs.declared.numbered.Instr.{Instr}
use Rattle.bril_tree.specs.Membership.{In}
use Rattle.bril_tree.specs.Operand.{Location}
use Rattle.bril_tree.proofs.Members.{contains_in, in_append_cases, in_append_left, in_append_right, in_contains, in_map, in_map_source}
use Rattle.flow_graph.specs.Accesses.{Accesses}
use Rattle.flow_graph.specs.declared.reads.Access.{Access}
use Rattle.graph_search.specs.declared.reached_sets.Seed.{Seed}
use Rattle.flow_graph.specs.Location.{number_of}
use Rattle.flow_graph.proofs.Locations.{number-one}
use Rattle.graph_search.specs.Path.{GraphView, IsReached as IsFound}
use Rattle.ssa_search.specs.accesses.Accesses.{AreBlocksOf, AssignsFirst}
use Rattle.ssa_search.proofs.lemmas.accesses.Labels.{label-within}
use Rattle.ssa_search.proofs.lemmas.accesses.Tracking.{assigned-within, location-of}
use Rattle.ssa_search.proofs.lemmas.gets.Firsts.{FirstTold, first-told}
use Rattle.ssa_laws.specs.reaching_definitions.Told.{LeadToLabels}
use Rattle.ssa_search.specs.placing.Blocks.{AreSeeds, Enters, IsLiveLabel, block_arc}
use Rattle.ssa_search.specs.placing.Wanted.{Unassigned, head_of}
use Rattle.ssa_search.proofs.lemmas.placing.Found.{found-live}
use Rattle.graph_search.specs.Sets.{has_bit, seeds_of}
use Rattle.ssa_search.specs.live_entry_count.Lanes.{AreAbove, AreLanesBefore, AreSeedsOf, AreWordsOf, IsLaneOf, opens_in, seed_of, with_lane}
use Rattle.pass_edit_laws.proofs.lemmas.numbers.Different.{filter_in, in_filter}

-- ---- an array that is written for a lane

pub lane-length : (value : ℕ → ℕ) (heads : List ℕ) (lane : ℕ) (ps points : List ℕ) → length (with_lane value heads lane ps points) ≡ length points
lane-length value heads lane [] points = refl
lane-length value heads lane (p ∷ ps) points = lane-length value heads lane ps (set points (64 * slice_index heads p + lane) (value p)) ∙ length-set points (64 * slice_index heads p + lane) (value p)

-- the place of a lane at a head was written for one of the points, or for none
abbrev pub LaneBy : (ℕ → ℕ) → List ℕ → ℕ → List ℕ → List ℕ → ℕ → ℕ → Type 0
LaneBy value heads lane ps points head j = (j ≡ lane) × ((p : ℕ) × In p ps × (slice_index heads p ≡ head) × (slice_index (with_lane value heads lane ps points) (64 * head + j) ≡ value p))

abbrev pub LaneByNone : (ℕ → ℕ) → List ℕ → ℕ → List ℕ → List ℕ → ℕ → ℕ → Type 0
LaneByNone value heads lane ps points head j = (j ≡ lane → (p : ℕ) → In p ps → slice_index heads p ≡ head → ⊥) × (slice_index (with_lane value heads lane ps points) (64 * head + j) ≡ slice_index points (64 * head + j))

pub lane_by : (value : ℕ → ℕ) (heads : List ℕ) (lane : ℕ) → lane < 64 → (ps points : List ℕ) (head j : ℕ) → j < 64 → 64 * head + j < length points → LaneBy value heads lane ps points head j ⊎ LaneByNone value heads lane ps points head j
lane_by value heads lane few [] points head j small low = inr ((λ e p i h. i), refl)
lane_by value heads lane few (p ∷ ps) points head j small low =
    by (lane_by value heads lane few ps (set points (64 * slice_index heads p + lane) (value p)) head j small (let l = length-set points (64 * slice_index heads p + lane) (value p) in omega (arith, l, low))) (cases_eq (64 * slice_index heads p + lane) (64 * head + j))
  where
    by : LaneBy value heads lane ps (set points (64 * slice_index heads p + lane) (value p)) head j ⊎ LaneByNone value heads lane ps (set points (64 * slice_index heads p + lane) (value p)) head j
        → (64 * slice_index heads p + lane ≡ 64 * head + j) ⊎ (64 * slice_index heads p + lane ≡ 64 * head + j → ⊥) → LaneBy value heads lane (p ∷ ps) points head j ⊎ LaneByNone value heads lane (p ∷ ps) points head j
    by (inl w) h = inl (w.0, (w.1.0, inr w.1.1, w.1.2, w.1.3))
    by (inr n) (inl e) =
        let same : j ≡ lane = omega (arith, e, few, small) in
        let at : slice_index heads p ≡ head = omega (arith, e, few, small) in
        inl (same, (p, inl refl, at, n.1 ∙ ap (slice_index (set points (64 * slice_index heads p + lane) (value p))) (sym e) ∙ get_or-set_same points (64 * slice_index heads p + lane) (value p) 0 (omega (arith, e, low))))
    by (inr n) (inr d) = inr (
      (λ same q i at. ⊎_elim (λ s. d (ap (λ k. 64 * k + lane) (ap (slice_index heads) (sym s) ∙ at) ∙ ap (λ k. 64 * head + k) (sym same))) (λ k. n.0 same q k at) i),
      n.1 ∙ get_or-set_other points (64 * slice_index heads p + lane) (64 * head + j) (value p) 0 (λ e. d (sym e)),
    )

-- ---- seeds of a lane

pub seeds-there : (k node bits : ℕ) (old : List Seed) (nodes : List ℕ) → has_bit bits k ≡ true → Contains nodes node → Contains (seeds_of k (old ++ map (seed_of bits) nodes)) node
seeds-there k node bits old nodes set c =
    let seed : Seed = seed_of bits node in
    let all : List Seed = old ++ map (seed_of bits) nodes in
    let i = in_append_right seed old (map (seed_of bits) nodes) (in_map (seed_of bits) node nodes (in_contains node nodes c)) in
    contains_in node (seeds_of k all) (in_map (λ (s : Seed). s.node) seed (filter (λ (s : Seed). has_bit s.bits k) all) (in_filter (λ (s : Seed). has_bit s.bits k) all seed i set))

pub seeds-kept : (k node : ℕ) (old new : List Seed) → Contains (seeds_of k old) node → Contains (seeds_of k (old ++ new)) node
seeds-kept k node old new c =
    let s = in_map_source (λ (s : Seed). s.node) node (filter (λ (s : Seed). has_bit s.bits k) old) (in_contains node (seeds_of k old) c) in
    let f = filter_in (λ (s : Seed). has_bit s.bits k) old s.0 s.1 in
    contains_in node (seeds_of k (old ++ new)) (subst (λ n. In n (seeds_of k (old ++ new))) (sym s.2) (in_map (λ (s : Seed). s.node) s.0 (filter (λ (s : Seed). has_bit s.bits k) (old ++ new)) (in_filter (λ (s : Seed). has_bit s.bits k) (old ++ new) s.0 (in_append_left s.0 old new f.0) f.1)))

pub seeds-only : (k node bits : ℕ) (old : List Seed) (nodes : List ℕ) → Contains (seeds_of k (old ++ map (seed_of bits) nodes)) node → Contains (seeds_of k old) node ⊎ ((has_bit bits k ≡ true) × Contains nodes node)
seeds-only k node bits old nodes c =
    let all : List Seed = old ++ map (seed_of bits) nodes in
    let s = in_map_source (λ (s : Seed). s.node) node (filter (λ (s : Seed). has_bit s.bits k) all) (in_contains node (seeds_of k all) c) in
    let f = filter_in (λ (s : Seed). has_bit s.bits k) all s.0 s.1 in
    ⊎_elim
    (λ i. inl (contains_in node (seeds_of k old) (subst (λ n. In n (seeds_of k old)) (sym s.2) (in_map (λ (s : Seed). s.node) s.0 (filter (λ (s : Seed). has_bit s.bits k) old) (in_filter (λ (s : Seed). has_bit s.bits k) old s.0 i f.1)))))
    (λ i.
    let m = in_map_source (seed_of bits) s.0 nodes i in
    let n : node ≡ m.0 = s.2 ∙ ap (λ (x : Seed). x.node) m.2 in
    inr (ap (λ (x : Seed). has_bit x.bits k) (sym m.2) ∙ f.1, contains_in node nodes (subst (λ z. In z nodes) (sym n) m.1)))
    (in_append_cases s.0 old (map (seed_of bits) nodes) f.0)

-- ---- one lane more

module _ (heads : List ℕ) (reads writes : List Access) (base nodes : ℕ) where
  pub no-lanes : (points : List ℕ) → AreAbove points nodes → AreLanesBefore heads reads writes base 0 nodes points []
  no-lanes points above = record {
    filled = λ lane less. absurd (omega (arith, less));
    seeded = λ lane less. absurd (omega (arith, less));
    above = λ head lane low from small. above head lane low small;
    unseeded = λ lane node from small c. absurd (in_contains node (seeds_of lane []) c);
  }

  pub lanes-more : (lane : ℕ) → lane < 64 → (points : List ℕ) → length points ≡ 64 * nodes → (ps : List ℕ) → ((p : ℕ) → Contains ps p ↔ Accesses writes (base + lane) p) → (seeds new : List Seed) → AreLanesBefore heads reads writes base lane nodes points seeds
      → ((k node : ℕ) → Contains (seeds_of k seeds) node → Contains (seeds_of k new) node) → ((node : ℕ) → Accesses reads (base + lane) node → Contains (seeds_of lane new) node)
      → ((k node : ℕ) → k < 64 → Contains (seeds_of k new) node → Contains (seeds_of k seeds) node ⊎ ((k ≡ lane) × Accesses reads (base + lane) node))
      → AreLanesBefore heads reads writes base (suc lane) nodes (with_lane (λ p. p) heads lane ps points) new
  lanes-more lane few points long ps exact seeds new b kept there only = record {
    filled = filled;
    seeded = seeded;
    above = above;
    unseeded = λ k node from small c. ⊎_elim (λ old. b.unseeded k node (omega (arith, from)) small old) (λ h. let e = h.0 in omega (arith, e, from)) (only k node small c);
  }
    where
      place-low : (head j : ℕ) → head < nodes → j < 64 → 64 * head + j < length points
      place-low head j low small = omega (arith, long, low, small)

      filled : (k : ℕ) → k < suc lane → IsLaneOf heads writes (base + k) k nodes (with_lane (λ p. p) heads lane ps points)
      filled k less head low = ⊎_elim same other (cases_eq k lane)
        where
          small : k < 64
          small = omega (arith, few, less)

          cases : LaneBy (λ p. p) heads lane ps points head k ⊎ LaneByNone (λ p. p) heads lane ps points head k
          cases = lane_by (λ p. p) heads lane few ps points head k small (place-low head k low small)

          same : k ≡ lane → ((p : ℕ) × Accesses writes (base + k) p × (slice_index heads p ≡ head) × (slice_index (with_lane (λ p. p) heads lane ps points) (64 * head + k) ≡ p)) ⊎ (((p : ℕ) → Accesses writes (base + k) p → slice_index heads p ≡ head → ⊥) × (slice_index (with_lane (λ p. p) heads lane ps points) (64 * head + k) ≡ 4294967295))
          same e = ⊎_elim
              (λ w. inl (w.1.0, subst (λ l. Accesses writes (base + l) w.1.0) (sym e) ((exact w.1.0).0 (contains_in w.1.0 ps w.1.1)), w.1.2, w.1.3))
              (λ n. inr ((λ p a at. n.0 e p (in_contains p ps ((exact p).1 (subst (λ l. Accesses writes (base + l) p) e a))) at), n.1 ∙ b.above head k low (let z = e in omega (arith, z)) small))
              cases

          other : (k ≡ lane → ⊥) → ((p : ℕ) × Accesses writes (base + k) p × (slice_index heads p ≡ head) × (slice_index (with_lane (λ p. p) heads lane ps points) (64 * head + k) ≡ p)) ⊎ (((p : ℕ) → Accesses writes (base + k) p → slice_index heads p ≡ head → ⊥) × (slice_index (with_lane (λ p. p) heads lane ps points) (64 * head + k) ≡ 4294967295))
          other d = ⊎_elim
              (λ w. absurd (d w.0))
              (λ n. ⊎_elim
              (λ f. inl (f.0, f.1, f.2, n.1 ∙ f.3))
              (λ f. inr (f.0, n.1 ∙ f.1))
              (b.filled k (omega (arith, less, d)) head low))
              cases

      seeded : (k : ℕ) → k < suc lane → AreSeedsOf reads (base + k) k new
      seeded k less node = ⊎_elim
          (λ same. (
            (λ c. ⊎_elim (λ old. absurd (b.unseeded k node (let e = same in omega (arith, e)) (omega (arith, few, less)) old)) (λ h. subst (λ l. Accesses reads (base + l) node) (sym same) h.1) (only k node (omega (arith, few, less)) c)),
            (λ a. subst (λ l. Contains (seeds_of l new) node) (sym same) (there node (subst (λ l. Accesses reads (base + l) node) same a))),
          ))
          (λ differs.
          let s = b.seeded k (omega (arith, less, differs)) node in (
            (λ c. ⊎_elim (λ old. s.0 old) (λ h. absurd (differs h.0)) (only k node (omega (arith, few, less)) c)),
            (λ a. kept k node (s.1 a)),
          ))
          (cases_eq k lane)

      above : (head j : ℕ) → head < nodes → suc lane ≤ j → j < 64 → slice_index (with_lane (λ p. p) heads lane ps points) (64 * head + j) ≡ 4294967295
      above head j low from small = ⊎_elim
          (λ w. absurd (let e = w.0 in omega (arith, e, from)))
          (λ n. n.1 ∙ b.above head j low (omega (arith, from)) small)
          (lane_by (λ p. p) heads lane few ps points head j small (place-low head j low small))

-- ---- taken out again: the lanes below a bound are above all points

module _ (heads : List ℕ) (writes : List Access) (base nodes : ℕ) where
  pub record AreOut (bound : ℕ) (points : List ℕ) : Type 0 where
    pub out : (head lane : ℕ) → head < nodes → lane < bound → lane < 64 → slice_index points (64 * head + lane) ≡ 4294967295
    pub left : (lane : ℕ) → bound ≤ lane → lane < 64 → IsLaneOf heads writes (base + lane) lane nodes points

  pub out-more : (lane : ℕ) → lane < 64 → (points : List ℕ) → length points ≡ 64 * nodes → (ps : List ℕ) → ((p : ℕ) → Contains ps p ↔ Accesses writes (base + lane) p) → AreOut lane points → AreOut (suc lane) (with_lane (λ _. 4294967295) heads lane ps points)
  out-more lane few points long ps exact o = record { out = out; left = left }
    where
      cases : (head j : ℕ) → head < nodes → j < 64 → LaneBy (λ _. 4294967295) heads lane ps points head j ⊎ LaneByNone (λ _. 4294967295) heads lane ps points head j
      cases head j low small = lane_by (λ _. 4294967295) heads lane few ps points head j small (omega (arith, long, low, small))

      out : (head j : ℕ) → head < nodes → j < suc lane → j < 64 → slice_index (with_lane (λ _. 4294967295) heads lane ps points) (64 * head + j) ≡ 4294967295
      out head j low less small = ⊎_elim
          (λ w. w.1.3)
          (λ n. ⊎_elim
          (λ same. n.1 ∙ ⊎_elim
          (λ f. absurd (n.0 same f.0 (in_contains f.0 ps ((exact f.0).1 (subst (λ l. Accesses writes (base + l) f.0) same f.1))) f.2))
          (λ f. f.1)
          (o.left j (let e = same in omega (arith, e)) small head low))
          (λ differs. n.1 ∙ o.out head j low (omega (arith, less, differs)) small)
          (cases_eq j lane))
          (cases head j low small)

      left : (j : ℕ) → suc lane ≤ j → j < 64 → IsLaneOf heads writes (base + j) j nodes (with_lane (λ _. 4294967295) heads lane ps points)
      left j from small head low = ⊎_elim
          (λ w. absurd (let e = w.0 in omega (arith, e, from)))
          (λ n. ⊎_elim (λ f. inl (f.0, f.1, f.2, n.1 ∙ f.3)) (λ f. inr (f.0, n.1 ∙ f.1)) (o.left j (omega (arith, from)) small head low))
          (cases head j low small)

-- ---- what the search finds

-- the words of a search that begins at the seeds and crosses what the lanes open
pub words-are : (code : List Instr) → length code < 4294967295 → LeadToLabels code → (heads : List ℕ) (graph : GraphView) (reads writes : List Access) → AreBlocksOf code heads graph reads writes → (base : ℕ) (points : List ℕ) (seeds : List Seed)
    → AreLanesBefore heads reads writes base 64 graph.nodes points seeds → (words : List ℕ)
    → ((node k : ℕ) → k < 64 → (has_bit (slice_index words node) k ≡ true) ↔ IsFound graph.arcs (seeds_of k seeds) (opens_in points k) node) → AreWordsOf code base words
words-are code few leads heads graph reads writes blocks base points seeds lanes words found node lane small = (
  (λ h. record { location = a; number = number; live = (live node).0 ((found node lane small).0 h) }),
  (λ n. (found node lane small).1 ((live node).1 (subst (λ b. IsLiveLabel code b node) (number-one n.location a (n.number ∙ sym number)) n.live))),
)
  where
    a : Location
    a = (location-of (base + lane)).0

    number : number_of a ≡ base + lane
    number = (location-of (base + lane)).1

    seeded : AreSeeds code a (seeds_of lane seeds)
    seeded h =
        let s = lanes.seeded lane small h in
        let e = blocks.accesses.exposed a h in (
          (λ c. e.0 (subst (λ n. Accesses reads n h) (sym number) (s.0 c))),
          (λ x. s.1 (subst (λ n. Accesses reads n h) number (e.1 x))),
        )

    first : (q : ℕ) → Accesses writes (base + lane) q ↔ AssignsFirst code a q
    first q = let f = blocks.accesses.firsts a q in ((λ c. f.0 (subst (λ n. Accesses writes n q) (sym number) c)), (λ x. subst (λ n. Accesses writes n q) number (f.1 x)))

    told : (k p : ℕ) → Enters code k p → FirstTold code a p (slice_index points (64 * head_of code p + lane))
    told k p n = ⊎_elim
        (λ f. inl (f.0, (first f.0).0 f.1, sym (blocks.heads f.0 (assigned-within code a f.0 ((first f.0).0 f.1).assigns)) ∙ f.2, f.3))
        (λ f. inr ((λ q x same. f.0 q ((first q).1 x) (blocks.heads q (assigned-within code a q x.assigns) ∙ same)), f.1))
        (lanes.filled lane small (head_of code p) (let w = label-within code (slice_get code (head_of code p)) (head_of code p) refl n.from_label in let m = blocks.nodes in omega (arith, w, m)))

    opens : (k p : ℕ) → Enters code k p → (opens_in points lane (block_arc code k p) ≡ true) ↔ Unassigned code a (head_of code p) (suc p)
    opens k p n = first-told code a few p (slice_index points (64 * head_of code p + lane)) n.reached (told k p n)

    live : (k : ℕ) → IsFound graph.arcs (seeds_of lane seeds) (opens_in points lane) k ↔ IsLiveLabel code a k
    live = found-live code leads a graph.arcs blocks.arcs (seeds_of lane seeds) (opens_in points lane) seeded opens
