-- Searches that begin at the start.
use Rattle.std.proofs.Common.{◌≡◌, ℕ, zero, suc, List, [], ◌∷◌, Bool, true, arith}
use Rattle.std.specs.List.{Contains}
use Rattle.graph_search.specs.Path.{IsReached}
use Rattle.graph_search.specs.Sets.{has_bit, seeds_of}
use Rattle.graph_search.specs.declared.graph.Arc.{Arc}
use Rattle.graph_search.proofs.Paths.{reached_seed, reached_step, reached_all}
use Rattle.graph_search.proofs.Seeds.{alone-only, seed-first}

module _ (arcs : List Arc) (gate : Arc → Bool) (bits k n : ℕ) where
  -- those of all searches that begin there
  pub start-only : IsReached arcs (seeds_of k (record { node = 0; bits = bits } ∷ [])) gate n → IsReached arcs (0 ∷ []) gate n
  start-only = reached_all arcs (seeds_of k (record { node = 0; bits = bits } ∷ [])) gate (IsReached arcs (0 ∷ []) gate)
      (λ m c. reached_seed arcs (0 ∷ []) gate m (0, omega arith, alone-only (record { node = 0; bits = bits }) m k c)) (reached_step arcs (0 ∷ []) gate) n

  pub start-there : has_bit bits k ≡ true → IsReached arcs (0 ∷ []) gate n → IsReached arcs (seeds_of k (record { node = 0; bits = bits } ∷ [])) gate n
  start-there has = reached_all arcs (0 ∷ []) gate (IsReached arcs (seeds_of k (record { node = 0; bits = bits } ∷ [])) gate)
      (λ m c. reached_seed arcs (seeds_of k (record { node = 0; bits = bits } ∷ [])) gate m (seed-first (record { node = 0; bits = bits }) [] m k (one m c, has)))
      (reached_step arcs (seeds_of k (record { node = 0; bits = bits } ∷ [])) gate) n
    where
      one : (m : ℕ) → Contains (0 ∷ []) m → 0 ≡ m
      one m (zero, low, e) = e
      one m (suc i, low, e) = absurd (omega arith)
