-- What the searches of a block find.
use Rattle.std.proofs.Common.{◌≡◌, ◌↔◌, ℕ, ◌*◌, ◌<◌, ◌&&◌, List, Bool, true, not, map, sym, ap, subst, ◌∙◌, arith}
use Rattle.std.specs.Prelude.{◌==◌, slice_index}
use Rattle.std.specs.List.{All, Contains}
use Rattle.std.proofs.lemmas.Bool.{lt-ltb, ne_eqb}
use Rattle.std.proofs.lemmas.List.Elements.{All-map}
use Rattle.bril_tree.specs.declared.numbered.Instr.{Instr}
use Rattle.bril_tree.specs.Operand.{Variable}
use Rattle.definite_assignment.specs.Window.{location_in}
use Rattle.flow_graph.specs.Accesses.{Accesses}
use Rattle.flow_graph.specs.Location.{number_of}
use Rattle.flow_graph.specs.Reads.{reads_from}
use Rattle.flow_graph.specs.declared.reads.Access.{Access}
use Rattle.graph_search.specs.Path.{GraphView, IsBetween, IsReached, Leads, other_than}
use Rattle.graph_search.specs.Sets.{has_bit, seeds_of}
use Rattle.graph_search.specs.declared.graph.Arc.{Arc}
use Rattle.graph_search.specs.declared.reached_sets.Seed.{Seed}
use Rattle.graph_search.proofs.Paths.{reached_seed, reached_step, reached_all}
use Rattle.graph_search.proofs.WordBits.{no-bits}
use Rattle.live_sets.proofs.Law.{AreReaders}
use Rattle.live_sets.proofs.Readers.{readers_are}
use Rattle.variable_coloring.specs.LiveWords.{AreFound, AreOfItems, AreSeeds, HasPoints, TellLive, goes_to_live, variable_in}
use Rattle.variable_coloring.proofs.LiveArcs.{reached-live, live-reached}
use Rattle.variable_coloring.proofs.Seeding.{seeds-among}

-- ---- words

block-number : (block k : ℕ) → number_of (Variable (variable_in block k)) ≡ location_in (2 * block) k
block-number block k = omega arith

module _ (code : List Instr) (reads : List Access) (graph : GraphView) (are : AreOfItems code reads graph) (block : ℕ) (seeds : List Seed) (exact : AreSeeds reads (2 * block) seeds) where
  -- the search with a number begins where its variable is read
  read-by : (k : ℕ) → k < 64 → AreReaders code (Variable (variable_in block k)) (seeds_of k seeds)
  read-by k low = readers_are code (Variable (variable_in block k)) (seeds_of k seeds) (λ item.
      let e = exact k item low in
      subst (λ n. (Contains (seeds_of k seeds) item → Accesses (reads_from 0 code) n item) × (Accesses (reads_from 0 code) n item → Contains (seeds_of k seeds) item)) (sym (block-number block k))
      (subst (λ l. (Contains (seeds_of k seeds) item → Accesses l (location_in (2 * block) k) item) × (Accesses l (location_in (2 * block) k) item → Contains (seeds_of k seeds) item)) are.items (e.0, e.1)))

  pub tell-live : (words : List ℕ) → AreFound graph.arcs seeds (λ k. other_than (location_in (2 * block) k)) words → TellLive code block words
  tell-live words found = record {
    only = λ point k low h. reached-live code graph.arcs are.arcs (Variable (variable_in block k)) (seeds_of k seeds) (read-by k low) point
        (subst (λ n. IsReached graph.arcs (seeds_of k seeds) (other_than n) point) (sym (block-number block k)) ((found point k low).0 h));
    all = λ point k low reached live. (found point k low).1
        (subst (λ n. IsReached graph.arcs (seeds_of k seeds) (other_than n) point) (block-number block k) (live-reached code graph.arcs are.arcs (Variable (variable_in block k)) (seeds_of k seeds) (read-by k low) point reached live));
  }

-- ---- the points whose words aren't 0

-- a word with a bit isn't 0
some-bit : (word k : ℕ) → has_bit word k ≡ true → word ≡ 0 → ⊥
some-bit word k h e = no-bits k (subst (λ w. has_bit w k ≡ true) e h)

is-to-live : (words : List ℕ) (points : ℕ) (arc : Arc) (k : ℕ) → arc.to < points → has_bit (slice_index words arc.to) k ≡ true → goes_to_live words points arc ≡ true
is-to-live words points arc k low h =
    ap (λ b. b && not (slice_index words arc.to == 0)) (lt-ltb arc.to points low) ∙ ap (λ b. true && not b) (ne_eqb (slice_index words arc.to) 0 (some-bit (slice_index words arc.to) k h))

module _ (arcs : List Arc) (points : ℕ) (between : All (IsBetween points) arcs) (seeds : List Seed) (opens : ℕ → Arc → Bool) (words : List ℕ) (found : AreFound arcs seeds opens words) where
  -- where a search leads, the points whose words aren't 0 lead
  module _ (k : ℕ) (low : k < 64) where
    abbrev Both : ℕ → Type 0
    Both n = IsReached arcs (seeds_of k seeds) (opens k) n × IsReached arcs (map (λ (s : Seed). s.node) seeds) (goes_to_live words points) n

    on : (m n : ℕ) → Both m → Leads arcs (opens k) m n → Both n
    on m n both leads =
        let here = reached_step arcs (seeds_of k seeds) (opens k) m n both.0 leads in
        let bit : has_bit (slice_index words n) k ≡ true = (found n k low).1 here in
        let c = leads.there in
        let ends : IsBetween points leads.arc = subst (IsBetween points) c.2 (between c.0 leads.arc c.1) in
        let bit-there : has_bit (slice_index words leads.arc.to) k ≡ true = subst (λ p. has_bit (slice_index words p) k ≡ true) (sym leads.enters) bit in (
          here,
          reached_step arcs (map (λ (s : Seed). s.node) seeds) (goes_to_live words points) m n both.1
              (record { arc = leads.arc; there = leads.there; leaves = leads.leaves; enters = leads.enters; passes = is-to-live words points leads.arc k ends.1 bit-there }),
        )

    both-there : (n : ℕ) → IsReached arcs (seeds_of k seeds) (opens k) n → Both n
    both-there = reached_all arcs (seeds_of k seeds) (opens k) Both
        (λ n c. (reached_seed arcs (seeds_of k seeds) (opens k) n c, reached_seed arcs (map (λ (s : Seed). s.node) seeds) (goes_to_live words points) n (seeds-among seeds n k c))) on

  pub has-points : (nodes list : List ℕ) → nodes ≡ map (λ (s : Seed). s.node) seeds → ((n : ℕ) → Contains list n ↔ IsReached arcs nodes (goes_to_live words points) n) → HasPoints words list
  has-points nodes list same is point k low h =
      (is point).1 (subst (λ l. IsReached arcs l (goes_to_live words points) point) (sym same) (both-there k low point ((found point k low).0 h)).1)

pub nodes-below : (points : ℕ) (seeds : List Seed) (nodes : List ℕ) → nodes ≡ map (λ (s : Seed). s.node) seeds → All (λ (s : Seed). s.node < points) seeds → All (λ n. n < points) nodes
nodes-below points seeds nodes same below = subst (All (λ n. n < points)) (sym same) (All-map (λ n. n < points) (λ (s : Seed). s.node) seeds (λ k d low. below k d low))
