-- What walks open and assign.
use Rattle.std.proofs.Common.{◌≡◌, ◌⊎◌, ℕ, ◌<◌, Bool, true, false, List, [], ◌∷◌, ◌++◌, length, map, Option, Some, None, refl, sym, ap, subst, ◌∙◌, inl, inr, ⊎_elim, arith}
use Rattle.std.specs.Prelude.{slice_get}
use Rattle.std.specs.List.{range_with_len}
use Rattle.std.proofs.lemmas.Bool.{cases_eq}
use Rattle.bril_tree.specs.declared.numbered.Instr.{Instr}
use Rattle.bril_tree.specs.declared.numbered.Instr.TheVariants.{Label, Const, Act}
use Rattle.bril_tree.specs.declared.operation.Op.TheVariants as op
use Rattle.bril_tree.specs.Assigned.{Assigned, assigned_of, assigned_changed, newest_saved, assigns_at, assigns_of}
use Rattle.bril_tree.specs.Edge.{Branch, onward, item_branches, branches_from, branches_at}
use Rattle.bril_tree.specs.Membership.{In}
use Rattle.bril_tree.specs.Operand.{Location, Variable, Shadow, dest_of}
use Rattle.bril_tree.specs.Sites.{Change, Opens, Closes, Keeps, change_of, item_change, sites_of, sites_changed, without_newest}
use Rattle.bril_tree.specs.Walk.{IsWalk, end_of}
use Rattle.bril_tree.proofs.Members.{in_contains, contains_in, in_append_cases}
use Rattle.bril_tree.proofs.Branches.{branch_from}

-- ---- locations are among those of a list or not

pub same_location : (a b : Location) → (a ≡ b) ⊎ (a ≡ b → ⊥)
same_location (Variable x) (Variable y) = ⊎_elim (λ e. inl (ap Variable e)) (λ n. inr (λ e. n (cc))) (cases_eq x y)
same_location (Variable x) (Shadow y) = inr (λ e. cc)
same_location (Shadow x) (Variable y) = inr (λ e. cc)
same_location (Shadow x) (Shadow y) = ⊎_elim (λ e. inl (ap Shadow e)) (λ n. inr (λ e. n (cc))) (cases_eq x y)

pub in_or_not : (a : Location) (list : List Location) → In a list ⊎ (In a list → ⊥)
in_or_not a [] = inr (λ h. h)
in_or_not a (b ∷ list) = ⊎_elim (λ e. inl (inl e)) (λ n. ⊎_elim (λ i. inl (inr i)) (λ m. inr (λ h. ⊎_elim n m h)) (in_or_not a list)) (same_location a b)

-- ---- open sites

pub without_newest-length : {A B : Type 0} (xs : List A) (ys : List B) → length xs ≡ length ys → length (without_newest xs) ≡ length (without_newest ys)
without_newest-length [] [] e = refl
without_newest-length [] (y ∷ ys) e = absurd (omega arith)
without_newest-length (x ∷ xs) [] e = absurd (omega arith)
without_newest-length (x ∷ xs) (y ∷ ys) e = omega arith

saved-changed : (c : Change) (locations : List Location) (aborts : Bool) (site : ℕ) (sites : List ℕ) (a : Assigned) → length a.saved ≡ length sites → length (assigned_changed c locations aborts a).saved ≡ length (sites_changed c site sites)
saved-changed Opens locations aborts site sites a e = omega arith
saved-changed Closes locations aborts site sites a e = without_newest-length a.saved sites e
saved-changed Keeps locations aborts site sites a e = e

-- as many sets are saved as sites are open
pub saved-length : (code : List Instr) (args : ℕ) (walk : List Branch) → length (assigned_of code args walk).saved ≡ length (sites_of code walk)
saved-length code args [] = refl
saved-length code args (branch ∷ walk) =
    saved-changed (change_of code branch) (assigns_at (slice_get code branch.from)) branch.aborts branch.from (sites_of code walk) (assigned_of code args walk) (saved-length code args walk)

-- the item is a `speculate`
abbrev pub Speculates : Option Instr → Type 0
Speculates item = item_change item false ≡ Opens

opens : (item : Option Instr) (aborts : Bool) → item_change item aborts ≡ Opens → Speculates item
opens None b e = absurd cc
opens (Some (Label l)) b e = absurd cc
opens (Some (Const dest ty value)) b e = absurd cc
opens (Some (Act dest ty op.Speculate args funcs labels)) b e = refl
opens (Some (Act dest ty op.Guard args funcs labels)) true e = absurd cc
opens (Some (Act dest ty op.Guard args funcs labels)) false e = absurd cc
opens (Some (Act dest ty _ args funcs labels)) b e = e

in_rest : (s : ℕ) (sites : List ℕ) → In s (without_newest sites) → In s sites
in_rest s [] i = i
in_rest s (t ∷ sites) i = inr i

speculates-by : (code : List Instr) (c : Change) (from s : ℕ) (sites : List ℕ) → (c ≡ Opens → Speculates (slice_get code from)) → (In s sites → Speculates (slice_get code s)) → In s (sites_changed c from sites) → Speculates (slice_get code s)
speculates-by code Opens from s sites o rest (inl e) = subst (λ n. Speculates (slice_get code n)) (sym e) (o refl)
speculates-by code Opens from s sites o rest (inr i) = rest i
speculates-by code Closes from s sites o rest i = rest (in_rest s sites i)
speculates-by code Keeps from s sites o rest i = rest i

-- an open site is a `speculate`
pub site_speculates : (code : List Instr) (walk : List Branch) (s : ℕ) → In s (sites_of code walk) → Speculates (slice_get code s)
site_speculates code [] s i = absurd i
site_speculates code (branch ∷ walk) s i = speculates-by code (change_of code branch) branch.from s (sites_of code walk) (λ e. opens (slice_get code branch.from) branch.aborts e) (λ j. site_speculates code walk s j) i

-- ---- what is saved was assigned on a walk to its site

module _ (code : List Instr) (args : ℕ) where
  -- a shorter walk to the site assigned these locations
  pub record SavedAt (walk : List Branch) (site : ℕ) (locations : List Location) : Type 0 where
    pub before : List Branch
    pub shorter : length before < length walk
    pub is : IsWalk code before
    pub ends : end_of before ≡ site
    pub assigned : locations ≡ (assigned_of code args before).locations

  abbrev pub AreSaved : List Branch → List ℕ → List (List Location) → Type 0
  AreSaved walk [] [] = Unit {0}
  AreSaved walk (site ∷ sites) (locations ∷ saved) = SavedAt walk site locations × AreSaved walk sites saved
  AreSaved walk _ _ = ⊥

  saved-later : (branch : Branch) (walk : List Branch) (sites : List ℕ) (saved : List (List Location)) → AreSaved walk sites saved → AreSaved (branch ∷ walk) sites saved
  saved-later branch walk [] [] h = tt
  saved-later branch walk (s ∷ sites) (p ∷ saved) h = (record { before = h.0.before; shorter = (let l = h.0.shorter in omega arith); is = h.0.is; ends = h.0.ends; assigned = h.0.assigned }, saved-later branch walk sites saved h.1)
  saved-later branch walk [] (p ∷ saved) h = absurd h
  saved-later branch walk (s ∷ sites) [] h = absurd h

  saved-rest : (walk : List Branch) (sites : List ℕ) (saved : List (List Location)) → AreSaved walk sites saved → AreSaved walk (without_newest sites) (without_newest saved)
  saved-rest walk [] [] h = tt
  saved-rest walk (s ∷ sites) (p ∷ saved) h = h.1
  saved-rest walk [] (p ∷ saved) h = absurd h
  saved-rest walk (s ∷ sites) [] h = absurd h

  pub saved_by_walks : (walk : List Branch) → IsWalk code walk → AreSaved walk (sites_of code walk) (assigned_of code args walk).saved
  saved_by_walks [] is = tt
  saved_by_walks (branch ∷ walk) is = by (change_of code branch) (saved_by_walks walk is.1)
    where
      by : (c : Change) → AreSaved walk (sites_of code walk) (assigned_of code args walk).saved
          → AreSaved (branch ∷ walk) (sites_changed c branch.from (sites_of code walk)) (assigned_changed c (assigns_at (slice_get code branch.from)) branch.aborts (assigned_of code args walk)).saved
      by Opens h = (
        record { before = walk; shorter = omega arith; is = is.1; ends = sym (branch_from code (end_of walk) branch (in_contains branch (branches_at code (end_of walk)) is.0)); assigned = refl },
        saved-later branch walk (sites_of code walk) (assigned_of code args walk).saved h,
      )
      by Closes h = saved-later branch walk (without_newest (sites_of code walk)) (without_newest (assigned_of code args walk).saved) (saved-rest walk (sites_of code walk) (assigned_of code args walk).saved h)
      by Keeps h = saved-later branch walk (sites_of code walk) (assigned_of code args walk).saved h

-- ---- one point further

-- the walk that goes on to the next point past an item that neither opens nor closes a site
pub record WentOn (code : List Instr) (args : ℕ) (walk : List Branch) (item : Instr) : Type 0 where
  pub is : IsWalk code (onward (end_of walk) ∷ walk)
  pub sites : sites_of code (onward (end_of walk) ∷ walk) ≡ sites_of code walk
  pub assigned : assigned_of code args (onward (end_of walk) ∷ walk) ≡ record { locations = assigns_of item ++ (assigned_of code args walk).locations; saved = (assigned_of code args walk).saved }

pub went_on : (code : List Instr) (args : ℕ) (walk : List Branch) (item : Instr) → IsWalk code walk → slice_get code (end_of walk) ≡ Some item → In (onward (end_of walk)) (item_branches code (end_of walk) item) → item_change (Some item) false ≡ Keeps → WentOn code args walk item
went_on code args walk item is at among keeps =
    let i = end_of walk in
    let here : In (onward i) (branches_at code i) = subst (λ o. In (onward i) (branches_from code i o)) (sym at) among in
    let change : change_of code (onward i) ≡ Keeps = ap (λ o. item_change o false) at ∙ keeps in
    record {
      is = (contains_in (onward i) (branches_at code i) here, is);
      sites = ap (λ c. sites_changed c i (sites_of code walk)) change;
      assigned = ap (λ o. assigned_changed (item_change o false) (assigns_at o) false (assigned_of code args walk)) at ∙ ap (λ c. assigned_changed c (assigns_of item) false (assigned_of code args walk)) keeps;
    }

-- ---- what was assigned is an argument or an item's

abbrev pub HasSource : List Instr → List Location → Location → Type 0
HasSource code start location = In location start ⊎ ((item : Instr) × (k : ℕ) × (slice_get code k ≡ Some item) × In location (assigns_of item))

abbrev AllHaveSource : List Instr → List Location → List Location → Type 0
AllHaveSource code start list = (location : Location) → In location list → HasSource code start location

abbrev SetsHaveSource : List Instr → List Location → List (List Location) → Type 0
SetsHaveSource code start [] = Unit {0}
SetsHaveSource code start (set ∷ sets) = AllHaveSource code start set × SetsHaveSource code start sets

module _ (code : List Instr) (start : List Location) where
  source-here : (k : ℕ) (item : Option Instr) → slice_get code k ≡ item → AllHaveSource code start (assigns_at item)
  source-here k None e location i = absurd i
  source-here k (Some item) e location i = inr (item, k, e, i)

  source-newest : (now : List Location) (saved : List (List Location)) → AllHaveSource code start now → SetsHaveSource code start saved → AllHaveSource code start (newest_saved now saved)
  source-newest now [] h s = h
  source-newest now (n ∷ saved) h s = s.0

  source-rest : (saved : List (List Location)) → SetsHaveSource code start saved → SetsHaveSource code start (without_newest saved)
  source-rest [] s = tt
  source-rest (n ∷ saved) s = s.1

  source-both : (xs ys : List Location) → AllHaveSource code start xs → AllHaveSource code start ys → AllHaveSource code start (xs ++ ys)
  source-both xs ys h k location i = ⊎_elim (h location) (k location) (in_append_cases location xs ys i)

  source-changed : (c : Change) (locations : List Location) (aborts : Bool) (a : Assigned) → AllHaveSource code start locations → AllHaveSource code start a.locations → SetsHaveSource code start a.saved
      → AllHaveSource code start (assigned_changed c locations aborts a).locations × SetsHaveSource code start (assigned_changed c locations aborts a).saved
  source-changed Opens locations b a h k s = (k, (k, s))
  source-changed Closes locations true a h k s = (source-newest a.locations a.saved k s, source-rest a.saved s)
  source-changed Closes locations false a h k s = (k, source-rest a.saved s)
  source-changed Keeps locations b a h k s = (source-both locations a.locations h k, s)

sources : (code : List Instr) (args : ℕ) (walk : List Branch) → AllHaveSource code (assigned_of code args []).locations (assigned_of code args walk).locations × SetsHaveSource code (assigned_of code args []).locations (assigned_of code args walk).saved
sources code args [] = ((λ location i. inl i), tt)
sources code args (branch ∷ walk) =
    let r = sources code args walk in
    source-changed code (assigned_of code args []).locations (change_of code branch) (assigns_at (slice_get code branch.from)) branch.aborts (assigned_of code args walk)
    (source-here code (assigned_of code args []).locations branch.from (slice_get code branch.from) refl) r.0 r.1

pub assigned_from : (code : List Instr) (args : ℕ) (walk : List Branch) (location : Location) → In location (assigned_of code args walk).locations → HasSource code (map Variable (range_with_len 0 args)) location
assigned_from code args walk location i = (sources code args walk).0 location i

-- an item that assigns a variable has it as its destination
pub assigns-dest : (item : Instr) (x : ℕ) → In (Variable x) (assigns_of item) → dest_of item ≡ Some x
assigns-dest (Label l) x i = absurd i
assigns-dest (Const dest ty value) x (inl e) = cc
assigns-dest (Const dest ty value) x (inr i) = absurd i
assigns-dest (Act dest ty op.Set args funcs labels) x (inl e) = absurd cc
assigns-dest (Act dest ty op.Set args funcs labels) x (inr i) = absurd i
assigns-dest (Act None ty _ args funcs labels) x i = absurd i
assigns-dest (Act (Some y) ty _ args funcs labels) x i = ⊎_elim (λ e. cc) (λ n. absurd n) i
