-- The search for 64 locations at once, each in a lane of its own. The first points that assign the locations stand in one array, 64
-- beside each other for the head of each block, and are above all points where the block doesn't assign the location.
use Rattle.std.specs.Prelude.{◌≡◌, ◌⊎◌, ◌↔◌, ℕ, ◌+◌, ◌*◌, ◌<◌, ◌≤◌, Bool, true, List, [], ◌∷◌, slice_index, slice_set}
use Rattle.std.specs.List.{Contains}
use Rattle.flow_graph.specs.Accesses.{Accesses}
use Rattle.flow_graph.specs.declared.reads.Access.{Access}
use Rattle.graph_search.specs.declared.graph.Arc.{Arc}
use Rattle.graph_search.specs.declared.reached_sets.Seed.{Seed}
use Rattle.bril_tree.specs.declared.numbered.Instr.{Instr}
use Rattle.graph_search.specs.Sets.{has_bit, seeds_of}
use Rattle.ssa_search.specs.gets.Found.{IsLiveNumber}
use Rattle.ssa_search.specs.placing.Blocks.{passes_to}

-- the place of a lane at a head
abbrev pub place_of : ℕ → ℕ → ℕ
place_of head lane = 64 * head + lane

-- whether the search of a lane crosses an arc
abbrev pub opens_in : List ℕ → ℕ → Arc → Bool
opens_in points lane arc = passes_to (slice_index points (64 * arc.to + lane)) arc.label

-- no point stands at any head
abbrev pub AreAbove : List ℕ → ℕ → Type 0
AreAbove points nodes = (head lane : ℕ) → head < nodes → lane < 64 → slice_index points (64 * head + lane) ≡ 4294967295

-- The lane has for each head a point that is accessed there, or none is and nothing stands there.
abbrev pub IsLaneOf : List ℕ → List Access → ℕ → ℕ → ℕ → List ℕ → Type 0
IsLaneOf heads writes location lane nodes points =
    (head : ℕ) → head < nodes → ((p : ℕ) × Accesses writes location p × (slice_index heads p ≡ head) × (slice_index points (64 * head + lane) ≡ p))
    ⊎ (((p : ℕ) → Accesses writes location p → slice_index heads p ≡ head → ⊥) × (slice_index points (64 * head + lane) ≡ 4294967295))

-- the seeds of a lane are the readers of its location
abbrev pub AreSeedsOf : List Access → ℕ → ℕ → List Seed → Type 0
AreSeedsOf reads location lane seeds = (node : ℕ) → Contains (seeds_of lane seeds) node ↔ Accesses reads location node

-- what is written for the lanes below a bound, whose locations have numbers from a base on; nothing is written for the others
pub record AreLanesBefore (heads : List ℕ) (reads writes : List Access) (base bound nodes : ℕ) (points : List ℕ) (seeds : List Seed) : Type 0 where
  pub filled : (lane : ℕ) → lane < bound → IsLaneOf heads writes (base + lane) lane nodes points
  pub seeded : (lane : ℕ) → lane < bound → AreSeedsOf reads (base + lane) lane seeds
  pub above : (head lane : ℕ) → head < nodes → bound ≤ lane → lane < 64 → slice_index points (64 * head + lane) ≡ 4294967295
  pub unseeded : (lane node : ℕ) → bound ≤ lane → lane < 64 → Contains (seeds_of lane seeds) node → ⊥

-- ---- how they are written

-- a seed with these bits
abbrev pub seed_of : ℕ → ℕ → Seed
seed_of bits node = record { node = node; bits = bits }

-- the array, where a value was written for each of these points at the head of its block
abbrev pub with_lane : (ℕ → ℕ) → List ℕ → ℕ → List ℕ → List ℕ → List ℕ
with_lane value heads lane [] points = points
with_lane value heads lane (p ∷ ps) points = with_lane value heads lane ps (slice_set points (64 * slice_index heads p + lane) (value p))

-- the words have the labels at which the locations from a base on are live
abbrev pub AreWordsOf : List Instr → ℕ → List ℕ → Type 0
AreWordsOf code base words = (node lane : ℕ) → lane < 64 → (has_bit (slice_index words node) lane ≡ true) ↔ IsLiveNumber code node (base + lane)
