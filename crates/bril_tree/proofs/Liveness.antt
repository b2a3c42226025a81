-- Live locations: they flow back along branches and to the `speculate` of an abort, and each walk to a point has assigned what
-- is live there.
use Rattle.std.proofs.Common.{◌≡◌, ℕ, Bool, true, false, List, [], ◌∷◌, Some, None, refl, sym, ap, subst, ◌∙◌, inl, inr, ⊎_elim}
use Rattle.std.specs.Prelude.{slice_get}
use Rattle.std.specs.List.{Contains}
use Rattle.bril_tree.specs.declared.numbered.Instr.{Instr}
use Rattle.bril_tree.specs.Accepted.{AreWalksAccepted}
use Rattle.bril_tree.specs.Assigned.{Assigned, assigned_of, assigned_behind, assigned_changed, newest_saved, assigns_at}
use Rattle.bril_tree.specs.Edge.{Branch, branches_at}
use Rattle.bril_tree.specs.Live.{IsLive, Here, Later}
use Rattle.bril_tree.specs.Membership.{In}
use Rattle.bril_tree.specs.Operand.{Location, reads_of}
use Rattle.bril_tree.specs.Sites.{Change, Opens, Closes, Keeps, change_of, item_change, sites_of}
use Rattle.bril_tree.specs.Walk.{IsWalk, end_of}
use Rattle.bril_tree.proofs.Assignments.{in_or_not}
use Rattle.bril_tree.proofs.Members.{in_contains, contains_in, in_append_cases}
use Rattle.bril_tree.proofs.Replays.{replay}
use Rattle.bril_tree.proofs.Branches.{branch_from, aborts-close}

-- ---- what is live flows back

module _ (code : List Instr) where
  pub live-reads : (point : ℕ) (item : Instr) (location : Location) → slice_get code point ≡ Some item → In location (reads_of item) → IsLive code location point
  live-reads point item location at i = Here point item at (contains_in location (reads_of item) i)

  pub live-flows : (point : ℕ) (branch : Branch) (location : Location) → In branch (branches_at code point) → branch.aborts ≡ false → IsLive code location branch.to → (In location (assigns_at (slice_get code point)) → ⊥) → IsLive code location point
  live-flows point branch location i plain live none =
      Later point branch (inl (contains_in branch (branches_at code point) i, plain)) (λ c. none (in_contains location (assigns_at (slice_get code point)) c)) live

  pub live-back : (branch : Branch) (location : Location) (walk : List Branch) → IsWalk code walk → In branch (branches_at code (end_of walk)) → branch.aborts ≡ true → (site : ℕ) (older : List ℕ) → sites_of code walk ≡ site ∷ older → IsLive code location branch.to
      → assigns_at (slice_get code site) ≡ [] → IsLive code location site
  live-back branch location walk is i aborts site older sites live none =
      Later site branch (inr (record { aborts = aborts; walk = walk; is = is; at = contains_in branch (branches_at code (end_of walk)) i; older = older; sites = sites }))
      (λ c. subst (In location) none (in_contains location (assigns_at (slice_get code site)) c)) live

-- ---- what is live is assigned

first_get : (xs : List ℕ) (x : ℕ) (rest : List ℕ) → xs ≡ x ∷ rest → slice_get xs 0 ≡ Some x
first_get xs x rest e = ap (λ l. slice_get l 0) e

newest-is : (saved : List (List Location)) (locations newest : List Location) → slice_get saved 0 ≡ Some newest → newest_saved locations saved ≡ newest
newest-is [] locations newest e = absurd (let f : None ≡ Some newest = e in cc)
newest-is (s ∷ saved) locations newest e = let f : Some s ≡ Some newest = e in cc

module _ (code : List Instr) (args : ℕ) (returns : Bool) (accepted : AreWalksAccepted code args returns) (location : Location) where
  -- a branch that isn't an abort has added only what its item assigns
  was_assigned : (c : Change) (locations : List Location) (aborts : Bool) (a : Assigned) → aborts ≡ false → (In location locations → ⊥) → In location (assigned_changed c locations aborts a).locations → In location a.locations
  was_assigned Opens locations b a e none i = i
  was_assigned Closes locations true a e none i = absurd cc
  was_assigned Closes locations false a e none i = i
  was_assigned Keeps locations b a e none i = ⊎_elim (λ n. absurd (none n)) (λ h. h) (in_append_cases location locations a.locations i)

  -- an abort puts back what was saved
  put_back : (branch : Branch) (point : ℕ) (a : Assigned) (newest : List Location) → In branch (branches_at code point) → branch.aborts ≡ true → slice_get a.saved 0 ≡ Some newest → (assigned_behind code branch a).locations ≡ newest
  put_back branch point a newest i aborts saved =
      let from = branch_from code point branch i in
      let closes : change_of code branch ≡ Closes = ap (λ n. item_change (slice_get code n) branch.aborts) from ∙ ap (item_change (slice_get code point)) aborts ∙ aborts-close code point (slice_get code point) branch i aborts in
      ap (λ c. (assigned_changed c (assigns_at (slice_get code branch.from)) branch.aborts a).locations) closes ∙ ap (λ b. (assigned_changed Closes (assigns_at (slice_get code branch.from)) b a).locations) aborts ∙ newest-is a.saved a.locations newest saved

  pub live_assigned : (point : ℕ) → IsLive code location point → (walk : List Branch) → IsWalk code walk → end_of walk ≡ point → In location (assigned_of code args walk).locations
  live_assigned point (Here _ item at reads) walk is ends = ⊎_elim (λ i. i) (λ n. absurd (lacks n)) (in_or_not location (assigned_of code args walk).locations)
    where
      lacks : (In location (assigned_of code args walk).locations → ⊥) → ⊥
      lacks n = accepted.assigned point item location at reads (record { walk = walk; is = is; ends = ends; lacks = λ c. n (in_contains location (assigned_of code args walk).locations c) })
  live_assigned point (Later _ branch (inl on) none live) walk is ends =
      let leads : Contains (branches_at code (end_of walk)) branch = subst (λ n. Contains (branches_at code n) branch) (sym ends) on.0 in
      let from : branch.from ≡ point = branch_from code point branch (in_contains branch (branches_at code point) on.0) in
      let further = live_assigned branch.to live (branch ∷ walk) (leads, is) refl in
      was_assigned (change_of code branch) (assigns_at (slice_get code branch.from)) branch.aborts (assigned_of code args walk) on.1
      (λ i. none (contains_in location (assigns_at (slice_get code point)) (subst (λ n. In location (assigns_at (slice_get code n))) from i))) further
  live_assigned point (Later _ branch (inr abort) none live) walk is ends =
      let r = replay code args abort.walk walk abort.is is 0 (first_get (sites_of code abort.walk) point abort.older abort.sites ∙ ap Some (sym ends)) in
      let leads : Contains (branches_at code (end_of r.walk)) branch = subst (λ n. Contains (branches_at code n) branch) (sym r.ends) abort.at in
      let further = live_assigned branch.to live (branch ∷ r.walk) (leads, r.is) refl in
      subst (In location) (put_back branch (end_of r.walk) (assigned_of code args r.walk) (assigned_of code args walk).locations (in_contains branch (branches_at code (end_of r.walk)) leads) abort.aborts r.saved) further
