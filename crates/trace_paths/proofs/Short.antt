-- Paths lay few items.
use Rattle.std.proofs.Common.{◌≡◌, ℕ, zero, suc, ◌≤◌, Bool, true, false, List, [], ◌∷◌, length, refl, sym, subst, arith, cond}
use Rattle.std.specs.Prelude.{slice_get, ◌==◌}
use Rattle.bril_tree.specs.declared.numbered.Instr.{Instr}
use Rattle.bril_tree.specs.Step.{point_of}
use Rattle.trace_paths.specs.Path.{Path, Meeting, Over, To, Lays, Turns, Stops, stopped, turns, chosen, path_by, path_from, path_of, item_met}
use Rattle.trace_paths.specs.Laws.{PathsAreShort}

-- What a path lays and takes, where so many items may be laid.
record Few (p : Path) (room : ℕ) (choices : List Bool) : Type 0 where
  laid : length p.legs ≤ room
  taken : length (turns p.legs) ≤ length choices

none : (i room : ℕ) (choices : List Bool) → Few (stopped i) room choices
none i room choices = record { laid = omega arith; taken = omega arith }

module _ (code : List Instr) (next : ℕ → List Bool → ℕ → Path) (rest : (room : ℕ) (choices : List Bool) (i : ℕ) → Few (next room choices i) room choices) where
  one_more : (m : Meeting) (room : ℕ) (choices : List Bool) (i : ℕ) → Few (path_by code next m room choices i) room choices
  one_more Over room choices i = rest room choices (suc i)
  one_more (To l) room choices i = rest room choices (point_of l code)
  one_more Lays zero choices i = none i zero choices
  one_more Lays (suc room) choices i =
      let r = rest room choices (suc i) in
      let a = r.laid in
      record { laid = omega arith; taken = r.taken }
  one_more (Turns on off) zero choices i = none i zero choices
  one_more (Turns on off) (suc room) [] i = none i (suc room) []
  one_more (Turns on off) (suc room) (c ∷ choices) i =
      let r = rest room choices (point_of (chosen c on off) code) in
      let a = r.laid in
      let b = r.taken in
      record { laid = omega arith; taken = omega arith }
  one_more Stops room choices i = none i room choices

few_from : (code : List Instr) (own fuel room : ℕ) (choices : List Bool) (i : ℕ) → Few (path_from code own fuel room choices i) room choices
few_from code own zero room choices i = none i room choices
few_from code own (suc fuel) room choices i = by (i == own) (one_more code (path_from code own fuel) (λ r cs j. few_from code own fuel r cs j) (item_met (slice_get code i)) room choices i)
  where
    by : (b : Bool) → Few (path_by code (path_from code own fuel) (item_met (slice_get code i)) room choices i) room choices
        → Few (cond b (stopped i) (path_by code (path_from code own fuel) (item_met (slice_get code i)) room choices i)) room choices
    by true rest = none i room choices
    by false rest = rest

few_within : (code : List Instr) (own fuel room : ℕ) (choices : List Bool) (i : ℕ) (p : Path) → p ≡ path_from code own fuel room choices i → Few p room choices
few_within code own fuel room choices i p e = subst (λ q. Few q room choices) (sym e) (few_from code own fuel room choices i)

pub paths_are_short : PathsAreShort
paths_are_short code own choices =
    let f = few_within code own 1023 256 choices (suc own) (path_of code own choices) refl in
    record { laid = f.laid; taken = f.taken }
