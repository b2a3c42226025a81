-- The seeds of a window's searches.
use Rattle.std.proofs.Common.{◌≡◌, ◌⊎◌, ℕ, ◌<◌, ◌≤◌, List, [], ◌∷◌, ◌++◌, true, Some, length, map, sym, ap, subst, ◌∙◌, inl, inr, ⊎_elim, arith}
use Rattle.std.specs.Prelude.{slice_get}
use Rattle.std.specs.List.{All, Contains}
use Rattle.std.proofs.lemmas.List.{get_or-map}
use Rattle.bril_tree.proofs.Elements.{get_in, in_get}
use Rattle.bril_tree.proofs.Members.{in_contains, contains_in}
use Rattle.definite_assignment.specs.Window.{location_in, place_of, window_of, windowed}
use Rattle.definite_assignment.proofs.Windows.{all-of-window, location-back, place-in, window-in}
use Rattle.flow_graph.specs.Accesses.{Accesses, locations_of}
use Rattle.flow_graph.specs.declared.reads.Access.{Access}
use Rattle.flow_graph.proofs.AccessRows.{RowDone}
use Rattle.graph_search.specs.Adjacency.{EndsRow}
use Rattle.graph_search.specs.Sets.{has_bit, seeds_of}
use Rattle.graph_search.specs.declared.reached_sets.Seed.{Seed}
use Rattle.graph_search.proofs.Seeds.{seed-cases, seed-first, seed-later}
use Rattle.variable_coloring.specs.LiveWords.{AreSeeds}

-- a seed that was added behind the others, or one of those
pub pushed-cases : (old : List Seed) (seed : Seed) (n k : ℕ) → Contains (seeds_of k (old ++ seed ∷ [])) n → Contains (seeds_of k old) n ⊎ ((seed.node ≡ n) × (has_bit seed.bits k ≡ true))
pushed-cases [] seed n k h = seed-cases seed [] n k h
pushed-cases (first ∷ old) seed n k h = ⊎_elim
    (λ later. ⊎_elim (λ c. inl (seed-later first old n k c)) inr (pushed-cases old seed n k later))
    (λ is. inl (seed-first first old n k is))
    (seed-cases first (old ++ seed ∷ []) n k h)

-- the seeds of a search are among all seeds
pub seeds-among : (seeds : List Seed) (n k : ℕ) → Contains (seeds_of k seeds) n → Contains (map (λ (s : Seed). s.node) seeds) n
seeds-among [] n k h = absurd (omega (arith, h.1))
seeds-among (first ∷ seeds) n k h = ⊎_elim
    (λ later. contains_in n (first.node ∷ map (λ (s : Seed). s.node) seeds) (inr (in_contains n (map (λ (s : Seed). s.node) seeds) (seeds-among seeds n k later))))
    (λ is. contains_in n (first.node ∷ map (λ (s : Seed). s.node) seeds) (inl (sym is.0)))
    (seed-cases first seeds n k h)

-- a window whose number is no location's has an empty row
pub no-row : (list : List Access) (window locations : ℕ) → All (λ access. access.location < locations) list → locations ≤ window → EndsRow (locations_of list) window (length list) 0
no-row list window locations above past = record {
  within = omega arith;
  stands = λ place e. absurd (omega (arith, e));
  last = λ place late low e.
      let d : Access = record { item = 0; location = 0 } in
      let at = above place d low in
      let same = get_or-map (λ (a : Access). a.location) list place d 0 low in
      absurd (omega (arith, at, same, e, past));
}

-- what the seeds have so far is what the reads tell
abbrev pub SeedsRead : List Access → (window : ℕ) → List Seed → Type 0
SeedsRead reads window seeds = (k node : ℕ) → Contains (seeds_of k seeds) node → Accesses reads (location_in window k) node

module _ (reads : List Access) (window : ℕ) where
  pub seeds-none : (seeds : List Seed) → seeds ≡ [] → SeedsRead reads window seeds
  seeds-none seeds none k node c = absurd (nothing (subst (λ l. Contains (seeds_of k l) node) none c))
    where
      nothing : Contains (seeds_of k []) node → ⊥
      nothing h = omega (arith, h.1)

  pub more-read : (old new : List Seed) (seed : Seed) (read : Access) (j : ℕ) → new ≡ old ++ seed ∷ [] → slice_get reads j ≡ Some read → window_of read.location ≡ window → seed.node ≡ read.item
      → ((k : ℕ) → has_bit seed.bits k ≡ true → k ≡ place_of read.location) → SeedsRead reads window old → SeedsRead reads window new
  more-read old new seed read j grew at is node bits before k n c = ⊎_elim
      (before k n)
      (λ h.
      let place = bits k h.1 in
      let location : location_in window k ≡ read.location = ap (location_in window) place ∙ ap (λ w. location_in w (place_of read.location)) (sym is) ∙ location-back read.location in
      let there : Contains reads read = contains_in read reads (get_in reads j read at) in
      subst (λ l. Accesses reads l n) (sym location) (subst (λ m. Accesses reads read.location m) (sym node ∙ h.0) there))
      (pushed-cases old seed n k (subst (λ l. Contains (seeds_of k l) n) grew c))

  pub all-read : (list : List Access) → list ≡ map windowed reads → (end : ℕ) → end ≡ 0 → (seeds : List Seed)
      → RowDone list window end (λ j access. (read : Access) → slice_get reads j ≡ Some read → Contains (seeds_of (place_of read.location) seeds) read.item) → SeedsRead reads window seeds → AreSeeds reads window seeds
  all-read list same end none seeds done only k node low = (only k node, back)
    where
      back : Accesses reads (location_in window k) node → Contains (seeds_of k seeds) node
      back c =
          let read : Access = record { item = node; location = location_in window k } in
          let at = in_get read reads (in_contains read reads c) in
          subst (λ p. Contains (seeds_of p seeds) node) (place-in window k low)
          (all-of-window list reads same window end (λ j r. Contains (seeds_of (place_of r.location) seeds) r.item) none done at.0 read at.1 (window-in window k low))
