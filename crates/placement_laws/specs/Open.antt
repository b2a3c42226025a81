-- Walks on which an open speculation stays open, and its ways out. A level counts the open sites, of which the oldest has
-- level 1.
use Rattle.std.specs.Prelude.{◌≡◌, ℕ, ◌≤◌, true, List, ◌∷◌, length, slice_index}
use Rattle.std.specs.List.{Contains}
use Rattle.bril_tree.specs.declared.numbered.Instr.{Instr}
use Rattle.bril_tree.specs.Edge.{Branch, branches_at}
use Rattle.bril_tree.specs.Sites.{sites_of}
use Rattle.bril_tree.specs.Walk.{IsWalk, end_of}

-- Some walk leads to the point with a site of the level open.
pub record IsOpen (code : List Instr) (level point : ℕ) : Type 0 where
  pub walk : List Branch
  pub is : IsWalk code walk
  pub ends : end_of walk ≡ point
  pub has : level ≤ length (sites_of code walk)

-- From the point some walk leads on to the last one, and the site of the level stays open all the way.
pub data StaysOpen (code : List Instr) (level last : ℕ) : ℕ → Type 0 where
  Already : (point : ℕ) → point ≡ last → IsOpen code level point → StaysOpen code level last point
  Onward : (point : ℕ) (branch : Branch) → IsOpen code level point → Contains (branches_at code point) branch → StaysOpen code level last branch.to → StaysOpen code level last point

-- A way out of a speculation of the level: the abort of a guard to which a walk leads, and whose newest site has that level.
pub record IsWayOut (code : List Instr) (level : ℕ) (way : Branch) : Type 0 where
  pub aborts : way.aborts ≡ true
  pub walk : List Branch
  pub is : IsWalk code walk
  pub at : Contains (branches_at code (end_of walk)) way
  pub deep : length (sites_of code walk) ≡ level
  pub some : 1 ≤ level

-- the newest open site of a walk
abbrev pub newest_site : List Instr → List Branch → ℕ
newest_site code walk = slice_index (sites_of code walk) 0

-- the site that a way out leaves: the newest one of its guard
abbrev pub site_left : (code : List Instr) (level : ℕ) (way : Branch) → IsWayOut code level way → ℕ
site_left code level way out = newest_site code out.walk

-- the guard of the way out has these open sites, the newest first
pub record IsWayOutOf (code : List Instr) (site : ℕ) (older : List ℕ) (way : Branch) : Type 0 where
  pub out : IsWayOut code (length (site ∷ older)) way
  pub sites : sites_of code out.walk ≡ site ∷ older

-- From the point some walk, on which the site of the level stays open, leads to a guard of that site which aborts to the label.
pub record LeadsOut (code : List Instr) (level label point : ℕ) : Type 0 where
  pub way : Branch
  pub out : IsWayOut code level way
  pub to : way.to ≡ label
  pub stays : StaysOpen code level way.from point
