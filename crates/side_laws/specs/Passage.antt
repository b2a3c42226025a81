-- How control goes from the label behind a run to the branch of a paired guard: over labels, `nop`s, `jmp`s and the branches of earlier
-- pairs, and through the items that are kept.
use Rattle.std.specs.Prelude.{◌≡◌, ℕ, suc, ◌+◌, ◌<◌, ◌≤◌, true, List, [], ◌∷◌, length, Some, slice_get}
use Rattle.bril_tree.specs.declared.numbered.Instr.{Instr}
use Rattle.bril_tree.specs.Assigned.{assigned_of}
use Rattle.bril_tree.specs.Edge.{Branch}
use Rattle.bril_tree.specs.Membership.{In}
use Rattle.bril_tree.specs.Sites.{sites_of}
use Rattle.bril_tree.specs.Step.{point_of}
use Rattle.bril_tree.specs.Walk.{IsWalk, end_of}
use Rattle.pass_edit_laws.proofs.lemmas.steps.Attempts.{is_attempted}
use Rattle.side_laws.specs.Paired.{Run, IsRun, Pair, IsKept, IsBranchOn, IsGuardOn}

module _ (code : List Instr) where
  -- a walk drawn on to a point, with the sites and the assigned locations that it had
  pub record Drawn (v : List Branch) (to : ℕ) : Type 0 where
    pub walk : List Branch
    pub is : IsWalk code walk
    pub ends : end_of walk ≡ to
    pub sites : sites_of code walk ≡ sites_of code v
    pub assigned : (args : ℕ) → assigned_of code args walk ≡ assigned_of code args v

  -- each walk to the first point can be drawn on to the second
  abbrev pub Glides : (from to : ℕ) → Type 0
  Glides from to = (v : List Branch) → IsWalk code v → end_of v ≡ from → Drawn v to

  -- the same, but that these items are made on the way
  abbrev pub Passage : (from : ℕ) (kept : List ℕ) (to : ℕ) → Type 0
  Passage from [] to = Glides from to
  Passage from (i ∷ kept) to = (a : ℕ) × Glides from a × (h : IsKept code i a) × (is_attempted h.item ≡ true) × Passage (suc a) kept to

  -- the passage from the label to the branch of a paired guard, and which way the branch goes once the guard has failed
  pub record Turning (pair : Pair) : Type 0 where
    pub stands : ℕ
    pub passage : Passage (point_of pair.bail code) pair.kept stands
    pub c : ℕ
    pub on : ℕ
    pub off : ℕ
    pub turns : IsBranchOn (slice_get code stands) c on off
    pub other : In pair.other (on ∷ off ∷ [])

  -- what is known of each pair of a run
  pub record PairFacts (r : Run) (pair : Pair) : Type 0 where
    pub bail : pair.bail ≡ r.bail
    pub low : suc r.start ≤ pair.guard
    pub high : pair.guard < suc (r.start + r.size)
    pub tested : ℕ
    pub guards : IsGuardOn (slice_get code pair.guard) tested
    pub few : length pair.kept < r.size
    pub computes : (j : ℕ) → In j pair.kept → (a : Instr) × (slice_get code j ≡ Some a) × (is_attempted a ≡ true)
    pub turning : Turning pair

  -- the pair is one of a run
  pub record IsPaired (pair : Pair) : Type 0 where
    pub run : Run
    pub is : IsRun code run
    pub fine : PairFacts run pair
