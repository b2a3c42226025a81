-- The pairs as the loops find them: what is found goes before what is to come.
use Rattle.std.proofs.Common.{◌≡◌, ℕ, suc, ◌+◌, ◌-◌, ◌<◌, ◌≤◌, List, [], ◌∷◌, ◌++◌, length, append_assoc, append-nil, refl, sym, ap, subst, ◌∙◌, inl, inr, arith}
use Rattle.std.specs.Prelude.{slice_get}
use Rattle.bril_tree.specs.declared.numbered.Instr.{Instr}
use Rattle.bril_tree.specs.Step.{point_of}
use Rattle.side_laws.specs.Paired.{ArePairs, BeginsWith, Commits, IsRun, Pair, PairsFrom, PairsWithin, Run, item_place}
use Rattle.side_pairs.specs.declared.run.Run as kept
use Rattle.side_pairs.specs.declared.step.Spot.{Spot}
use Rattle.side_pairs.specs.Adding.{Adds, AddsAt, IsFirstSpot}
use Rattle.side_pairs.specs.Runs.{run_of}
use Rattle.side_pairs.specs.Steps.{FromSpot, IsFurther}
use Rattle.side_pairs.specs.Walks.{walker_of}
use Rattle.side_pairs.proofs.Stepping.{from-parts, walker-is}

-- ---- in a run

-- with any pairs from the spot on, those that were found are the run's
abbrev pub Continues : List Instr → Run → List Pair → ℕ → Spot → List ℕ → List Pair → Type 0
Continues code r before bail spot kept found = (rest : List Pair) → FromSpot code bail spot kept rest → Adds code r before (found ++ rest)

module _ (code : List Instr) (r : Run) (before : List Pair) (spot : Spot) (kept : List ℕ) (found : List Pair) (so_far : Continues code r before r.bail spot kept found) where
  -- pairing ends
  pub ends : FromSpot code r.bail spot kept [] → Adds code r before found
  ends h = subst (Adds code r before) (append-nil found) (so_far [] h)

  pub room-ends : spot.room ≡ 0 → Adds code r before found
  room-ends e = ends (subst (λ n. PairsFrom code r.bail n spot.item (walker_of spot.walker) kept []) (sym e) refl)

  module _ (next : Spot) where
    pub passes : ((pairs : List Pair) → FromSpot code r.bail next kept pairs → FromSpot code r.bail spot kept pairs) → Continues code r before r.bail next kept found
    passes step rest h = so_far rest (step rest h)

    pub keeps : (more : List ℕ) → more ≡ kept ++ spot.item ∷ [] → ((pairs : List Pair) → FromSpot code r.bail next (kept ++ spot.item ∷ []) pairs → FromSpot code r.bail spot kept pairs) → Continues code r before r.bail next more found
    keeps more e step rest h = so_far rest (step rest (subst (λ ks. FromSpot code r.bail next ks rest) e h))

    pub adds-pair : (p : Pair) (more : List Pair) → more ≡ found ++ p ∷ [] → ((pairs : List Pair) → BeginsWith p (FromSpot code r.bail next kept) pairs → FromSpot code r.bail spot kept pairs) → Continues code r before r.bail next kept more
    adds-pair p more e step rest h =
        let a : (found ++ p ∷ []) ++ rest ≡ found ++ p ∷ rest = append_assoc found (p ∷ []) rest in
        subst (Adds code r before) (sym (ap (λ ps. ps ++ rest) e ∙ a)) (so_far (p ∷ rest) (step (p ∷ rest) (refl, h)))

-- before the first item
pub begins : (code : List Instr) (r : kept.Run) (before : List Pair) (spot : Spot) (ks : List ℕ) → IsFirstSpot code r spot → ks ≡ [] → Continues code (run_of r) before r.bail spot ks before
begins code r before spot ks is none rest h = record {
  here = rest;
  of = subst (λ zs. PairsFrom code r.bail r.size (suc r.start) (record { left = 1023; point = suc (point_of r.bail code) }) zs rest) none
      (from-parts code r.bail spot r.size (suc r.start) (record { left = 1023; point = suc (point_of r.bail code) }) ks rest is.room is.item (walker-is spot.walker 1023 (suc (point_of r.bail code)) is.left is.point) h);
  are = refl;
}

-- the commit stands where the run ends
pub first-closes : (code : List Instr) (r : kept.Run) (spot : Spot) → IsFirstSpot code r spot → IsRun code (run_of r) → item_place (slice_get code (spot.item + spot.room)) ≡ Commits
first-closes code r spot is run =
    let same : spot.item + spot.room ≡ suc (r.start + r.size) = let i = is.item in let n = is.room in omega (arith, i, n) in
    ap (λ k. item_place (slice_get code k)) same ∙ run.closes

pub further-closes : (code : List Instr) (spot next : Spot) → IsFurther spot next → item_place (slice_get code (spot.item + spot.room)) ≡ Commits → item_place (slice_get code (next.item + next.room)) ≡ Commits
further-closes code spot next is closes = ap (λ k. item_place (slice_get code k)) is.end ∙ closes

-- ---- in a function

-- with any pairs from the point on, those that were found are the function's
abbrev pub Goes : List Instr → ℕ → List Pair → Type 0
Goes code k found = (rest : List Pair) → PairsWithin code (length code - k) k rest → ArePairs code (found ++ rest)

module _ (code : List Instr) where
  one-less : (k : ℕ) → k < length code → length code - k ≡ suc (length code - (k + 1))
  one-less k l = omega (arith, l)

  pub goes-more : (k : ℕ) (found more : List Pair) → k < length code → Goes code k found → AddsAt code k found more → Goes code (k + 1) more
  goes-more k found more less so_far at rest h = by at
    where
      next : PairsWithin code (length code - (k + 1)) (suc k) rest
      next = let e : k + 1 ≡ suc k = omega arith in subst (λ n. PairsWithin code (length code - (k + 1)) n rest) e h

      from : (pairs : List Pair) → PairsWithin code (suc (length code - (k + 1))) k pairs → ArePairs code (found ++ pairs)
      from pairs w = so_far pairs (subst (λ n. PairsWithin code n k pairs) (sym (one-less k less)) w)

      by : AddsAt code k found more → ArePairs code (more ++ rest)
      by (inl a) = subst (ArePairs code) (sym (ap (λ ps. ps ++ rest) a.adds.are ∙ append_assoc found a.adds.here rest)) (from (a.adds.here ++ rest) (inl (a.run, a.begins, a.is, a.adds.here, a.adds.of, rest, next, refl)))
      by (inr a) = subst (ArePairs code) (sym (ap (λ ps. ps ++ rest) a.1)) (from rest (inr (a.0, next)))

  pub goes-all : (k : ℕ) (found : List Pair) → length code ≤ k → Goes code k found → ArePairs code found
  goes-all k found past so_far = subst (ArePairs code) (append-nil found) (so_far [] (let e : 0 ≡ length code - k = omega (arith, past) in subst (λ n. PairsWithin code n k []) e refl))
