-- The open sites of a walk: the `speculate` items whose speculation is open at its end, the newest first.
use Rattle.std.specs.Prelude.{◌≡◌, ◌≢◌, ℕ, ◌<◌, Bool, true, false, List, [], ◌∷◌, length, Option, Some, None, slice_get, IsTrue}
use Rattle.std.specs.List.{Contains}
use Rattle.bril_tree.specs.declared.numbered.Instr.{Instr}
use Rattle.bril_tree.specs.declared.numbered.Instr.TheVariants.{Label, Const, Act}
use Rattle.bril_tree.specs.declared.operation.Op.{Op}
use Rattle.bril_tree.specs.declared.operation.Op.TheVariants as op
use Rattle.bril_tree.specs.Edge.{Branch, branches_at}
use Rattle.bril_tree.specs.Walk.{IsFirstWalk}

-- the most sites that may be open
abbrev pub most_sites : ℕ
most_sites = 8

-- a list without its newest; the empty list stays
abbrev pub without_newest : {A : Type 0} → List A → List A
without_newest [] = []
without_newest (newest ∷ older) = older

-- what passing an operation does to what a speculation keeps: it opens one, it closes the newest, or neither
pub data Change : Type 0 where
  Opens : Change
  Closes : Change
  Keeps : Change

abbrev pub guard_change : Bool → Change
guard_change true = Closes
guard_change false = Keeps

abbrev pub operation_change : Op → Bool → Change
operation_change op.Speculate aborts = Opens
operation_change op.Commit aborts = Closes
operation_change op.Guard aborts = guard_change aborts
operation_change _ aborts = Keeps

abbrev pub item_change : Option Instr → Bool → Change
item_change None aborts = Keeps
item_change (Some (Label l)) aborts = Keeps
item_change (Some (Const dest ty value)) aborts = Keeps
item_change (Some (Act dest ty operation args funcs labels)) aborts = operation_change operation aborts

-- A `speculate` opens a site; a `commit`, and the abort of a guard, close the newest.
abbrev pub change_of : List Instr → Branch → Change
change_of code branch = item_change (slice_get code branch.from) branch.aborts

abbrev pub sites_changed : Change → ℕ → List ℕ → List ℕ
sites_changed Opens site sites = site ∷ sites
sites_changed Closes site sites = without_newest sites
sites_changed Keeps site sites = sites

-- the open sites behind a branch, from those before it
abbrev pub sites_behind : List Instr → Branch → List ℕ → List ℕ
sites_behind code branch sites = sites_changed (change_of code branch) branch.from sites

-- the open sites of a walk
abbrev pub sites_of : List Instr → List Branch → List ℕ
sites_of code [] = []
sites_of code (branch ∷ walk) = sites_behind code branch (sites_of code walk)

-- the sites of the first walk to the point
pub record AreFirstSites (code : List Instr) (point : ℕ) (sites : List ℕ) : Type 0 where
  pub walk : List Branch
  pub first : IsFirstWalk code point walk
  pub are : sites_of code walk ≡ sites

-- the item needs an open site: it is a `commit` or a `guard`
abbrev pub needs_site : Option Instr → Bool
needs_site None = false
needs_site (Some (Label l)) = false
needs_site (Some (Const dest ty value)) = false
needs_site (Some (Act dest ty op.Commit args funcs labels)) = true
needs_site (Some (Act dest ty op.Guard args funcs labels)) = true
needs_site (Some (Act dest ty _ args funcs labels)) = false

-- A branch brings another list to the point than its first walk.
pub record BringsOthers (code : List Instr) (point : ℕ) : Type 0 where
  pub branch : Branch
  pub at : Contains (branches_at code branch.from) branch
  pub to : branch.to ≡ point
  pub before : List ℕ
  pub sites : List ℕ
  pub first_before : AreFirstSites code branch.from before
  pub first : AreFirstSites code point sites
  pub other : sites_behind code branch before ≢ sites

pub record HasTooMany (code : List Instr) (point : ℕ) : Type 0 where
  pub sites : List ℕ
  pub first : AreFirstSites code point sites
  pub many : most_sites < length sites

pub record LacksSite (code : List Instr) (point : ℕ) : Type 0 where
  pub first : AreFirstSites code point []
  pub needs : IsTrue (needs_site (slice_get code point))

-- The sites fail at a point: too many are open, none is where one is needed, or two walks bring others.
pub data SitesFail (code : List Instr) (point : ℕ) : Type 0 where
  TooMany : HasTooMany code point → SitesFail code point
  NoSite : LacksSite code point → SitesFail code point
  Others : BringsOthers code point → SitesFail code point

-- The sites fail nowhere: all walks to one point have one list.
abbrev pub AreSitesSound : List Instr → Type 0
AreSitesSound code = (point : ℕ) → SitesFail code point → ⊥
