-- Walks, with the open sites and the assigned locations that they carry.
use Rattle.std.proofs.Common.{◌≡◌, ℕ, suc, zero, ◌<◌, List, [], ◌∷◌, Bool, Some, length, sym, ap, ◌∙◌, subst, refl, arith}
use Rattle.std.specs.Prelude.{slice_get}
use Rattle.std.specs.List.{Contains}
use Rattle.bril_tree.specs.Assigned.{Assigned, assigned_of, assigned_behind, assigned_changed, assigns_at}
use Rattle.bril_tree.specs.Edge.{Branch, branches_at}
use Rattle.bril_tree.specs.Operand.{Location}
use Rattle.bril_tree.specs.Sites.{Change, Opens, Closes, Keeps, change_of, item_change, sites_of, sites_changed, without_newest}
use Rattle.bril_tree.specs.Walk.{IsWalk, end_of}
use Rattle.bril_tree.specs.declared.numbered.Instr.{Instr}
use Rattle.bril_tree.proofs.Assignments.{without_newest-length}
use Rattle.bril_tree.proofs.Members.{in_contains}
use Rattle.bril_tree.proofs.Branches.{branch_from, branch_at_item}

newest_dropped : {A : Type 0} (xs : List A) (k : ℕ) → slice_get (without_newest xs) k ≡ slice_get xs (suc k)
newest_dropped [] k = refl
newest_dropped (x ∷ xs) k = refl

-- what was saved at an open site, behind a change
pub record IsSaved (sites : List ℕ) (a : Assigned) (k site : ℕ) (locations : List Location) : Type 0 where
  pub site_there : slice_get sites k ≡ Some site
  pub saved_there : slice_get a.saved k ≡ Some locations

-- what was saved at a site is either what is assigned at the `speculate` that just opened it, or was saved before
pub saved-back : (R : ℕ → List Location → Type 0) (change : Change) (locations : List Location) (aborts : Bool) (at : ℕ) (sites : List ℕ) (a : Assigned) →
    R at a.locations → ((k site : ℕ) (set : List Location) → IsSaved sites a k site set → R site set) →
    (k site : ℕ) (set : List Location) → IsSaved (sites_changed change at sites) (assigned_changed change locations aborts a) k site set → R site set
saved-back R Opens locations aborts at sites a here before zero site set s =
    let one : at ≡ site = let h = s.site_there in cc in
    let two : a.locations ≡ set = let h = s.saved_there in cc in
    subst (λ x. R x set) one (subst (R at) two here)
saved-back R Opens locations aborts at sites a here before (suc k) site set s = before k site set (record { site_there = s.site_there; saved_there = s.saved_there })
saved-back R Closes locations aborts at sites a here before k site set s =
    before (suc k) site set (record { site_there = sym (newest_dropped sites k) ∙ s.site_there; saved_there = sym (newest_dropped a.saved k) ∙ s.saved_there })
saved-back R Keeps locations aborts at sites a here before k site set s = before k site set (record { site_there = s.site_there; saved_there = s.saved_there })

pub same-length : (change : Change) (locations : List Location) (aborts : Bool) (at : ℕ) (sites : List ℕ) (a : Assigned) → length sites ≡ length a.saved →
    length (sites_changed change at sites) ≡ length (assigned_changed change locations aborts a).saved
same-length Opens locations aborts at sites a e = ap suc e
same-length Closes locations aborts at sites a e = without_newest-length sites a.saved e
same-length Keeps locations aborts at sites a e = e

-- an open site is an item that opens it
opened : (code : List Instr) (change : Change) (at : ℕ) (aborts : Bool) (sites : List ℕ) → change ≡ item_change (slice_get code at) aborts →
    ((k site : ℕ) → slice_get sites k ≡ Some site → (b : Bool) × (item_change (slice_get code site) b ≡ Opens)) →
    (k site : ℕ) → slice_get (sites_changed change at sites) k ≡ Some site → (b : Bool) × (item_change (slice_get code site) b ≡ Opens)
opened code Opens at aborts sites e before zero site h =
    let one : at ≡ site = cc in
    (aborts, subst (λ x. item_change (slice_get code x) aborts ≡ Opens) one (sym e))
opened code Opens at aborts sites e before (suc k) site h = before k site h
opened code Closes at aborts sites e before k site h = before (suc k) site (sym (newest_dropped sites k) ∙ h)
opened code Keeps at aborts sites e before k site h = before k site h

pub open-sites : (code : List Instr) (walk : List Branch) (k site : ℕ) → slice_get (sites_of code walk) k ≡ Some site → (b : Bool) × (item_change (slice_get code site) b ≡ Opens)
open-sites code [] k site h = cc
open-sites code (branch ∷ walk) k site h = opened code (change_of code branch) branch.from branch.aborts (sites_of code walk) refl (open-sites code walk) k site h

-- A walk that goes on from another walk to an open site as the first did: what was assigned at the `speculate` is saved
-- there.
pub record Replays (code : List Instr) (args : ℕ) (end k : ℕ) (locations : List Location) : Type 0 where
  pub walk : List Branch
  pub is : IsWalk code walk
  pub ends : end_of walk ≡ end
  pub saved : slice_get (assigned_of code args walk).saved k ≡ Some locations

-- the branch, behind the walk that replays
goes_on : (code : List Instr) (args : ℕ) (branch : Branch) (walk : List Branch) (k : ℕ) (locations : List Location) → Contains (branches_at code (end_of walk)) branch →
    (r : Replays code args (end_of walk) k locations) → (m : ℕ) → slice_get (assigned_behind code branch (assigned_of code args r.walk)).saved m ≡ Some locations →
    Replays code args branch.to m locations
goes_on code args branch walk k locations leads r m saved = record {
  walk = branch ∷ r.walk;
  is = (subst (λ p. Contains (branches_at code p) branch) (sym r.ends) leads, r.is);
  ends = refl;
  saved = saved;
}

replay_branch : (code : List Instr) (args : ℕ) (branch : Branch) (walk other : List Branch) (change : Change) → change ≡ change_of code branch → Contains (branches_at code (end_of walk)) branch →
    IsWalk code other → ((k : ℕ) → slice_get (sites_of code walk) k ≡ Some (end_of other) → Replays code args (end_of walk) k (assigned_of code args other).locations) →
    (k : ℕ) → slice_get (sites_changed change branch.from (sites_of code walk)) k ≡ Some (end_of other) →
    Replays code args branch.to k (assigned_of code args other).locations
replay_branch code args branch walk other Opens e leads is before zero h =
    let same : branch.from ≡ end_of other = cc in
    let from : branch.from ≡ end_of walk = branch_from code (end_of walk) branch (in_contains branch (branches_at code (end_of walk)) leads) in
    record {
      walk = branch ∷ other;
      is = (subst (λ p. Contains (branches_at code p) branch) (sym from ∙ same) leads, is);
      ends = refl;
      saved = subst (λ ch. slice_get (assigned_changed ch (assigns_at (slice_get code branch.from)) branch.aborts (assigned_of code args other)).saved 0 ≡ Some (assigned_of code args other).locations) e refl;
    }
replay_branch code args branch walk other Opens e leads is before (suc k) h =
    let r = before k h in
    goes_on code args branch walk k (assigned_of code args other).locations leads r (suc k)
    (subst (λ ch. slice_get (assigned_changed ch (assigns_at (slice_get code branch.from)) branch.aborts (assigned_of code args r.walk)).saved (suc k) ≡ Some (assigned_of code args other).locations) e r.saved)
replay_branch code args branch walk other Closes e leads is before k h =
    let r = before (suc k) (sym (newest_dropped (sites_of code walk) k) ∙ h) in
    goes_on code args branch walk (suc k) (assigned_of code args other).locations leads r k
    (subst (λ ch. slice_get (assigned_changed ch (assigns_at (slice_get code branch.from)) branch.aborts (assigned_of code args r.walk)).saved k ≡ Some (assigned_of code args other).locations) e
    (newest_dropped (assigned_of code args r.walk).saved k ∙ r.saved))
replay_branch code args branch walk other Keeps e leads is before k h =
    let r = before k h in
    goes_on code args branch walk k (assigned_of code args other).locations leads r k
    (subst (λ ch. slice_get (assigned_changed ch (assigns_at (slice_get code branch.from)) branch.aborts (assigned_of code args r.walk)).saved k ≡ Some (assigned_of code args other).locations) e r.saved)

pub replay : (code : List Instr) (args : ℕ) (walk other : List Branch) → IsWalk code walk → IsWalk code other →
    (k : ℕ) → slice_get (sites_of code walk) k ≡ Some (end_of other) → Replays code args (end_of walk) k (assigned_of code args other).locations
replay code args [] other is is' k h = cc
replay code args (branch ∷ walk) other is is' k h =
    replay_branch code args branch walk other (change_of code branch) refl is.0 is' (replay code args walk other is.1 is') k h

-- the sites of a walk are items
pub sites-inside : (code : List Instr) (walk : List Branch) → IsWalk code walk → (k site : ℕ) → slice_get (sites_of code walk) k ≡ Some site → site < length code
sites-inside code [] is k site h = cc
sites-inside code (branch ∷ walk) is k site h =
    let low : branch.from < length code = subst (λ p. p < length code) (sym (branch_from code (end_of walk) branch (in_contains branch (branches_at code (end_of walk)) is.0))) (branch_at_item code (end_of walk) branch (in_contains branch (branches_at code (end_of walk)) is.0)) in
    inside_changed (change_of code branch) branch.from (sites_of code walk) (length code) low (sites-inside code walk is.1) k site h
  where
    inside_changed : (change : Change) (at : ℕ) (sites : List ℕ) (n : ℕ) → at < n → ((k site : ℕ) → slice_get sites k ≡ Some site → site < n) →
        (k site : ℕ) → slice_get (sites_changed change at sites) k ≡ Some site → site < n
    inside_changed Opens at sites n low before zero site h = let one : at ≡ site = cc in omega arith
    inside_changed Opens at sites n low before (suc k) site h = before k site h
    inside_changed Closes at sites n low before k site h = before (suc k) site (sym (newest_dropped sites k) ∙ h)
    inside_changed Keeps at sites n low before k site h = before k site h
