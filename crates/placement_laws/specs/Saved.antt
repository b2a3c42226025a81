-- Which locations a speculation saves: those that its guards may have to give back.
use Rattle.std.specs.Prelude.{◌≡◌, ◌↔◌, ℕ, ◌≤◌, Bool, IsTrue, List, length, slice_get}
use Rattle.std.specs.List.{Contains}
use Rattle.bril_tree.specs.declared.numbered.Instr.{Instr}
use Rattle.bril_tree.specs.Assigned.{assigns_at}
use Rattle.bril_tree.specs.Edge.{Branch, branches_at}
use Rattle.bril_tree.specs.Live.{IsLive}
use Rattle.bril_tree.specs.Operand.{Location}
use Rattle.bril_tree.specs.Sites.{sites_of}
use Rattle.bril_tree.specs.Walk.{IsWalk, end_of}
use Rattle.placement_laws.specs.Open.{IsWayOut, StaysOpen, site_left}

-- The location is live at the label of a guard whose newest site is this one, and some walk assigns it between the two: by
-- the item at the end of `walk`, where the site is open, which it stays from the branch `on` to the guard. What an inner abort
-- takes back counts.
pub record IsSaved (code : List Instr) (site : ℕ) (x : Location) : Type 0 where
  pub level : ℕ
  pub way : Branch
  pub out : IsWayOut code level way
  pub left : site_left code level way out ≡ site
  pub live : IsLive code x way.to
  pub walk : List Branch
  pub is : IsWalk code walk
  pub has : level ≤ length (sites_of code walk)
  pub assigns : Contains (assigns_at (slice_get code (end_of walk))) x
  pub on : Branch
  pub at : Contains (branches_at code (end_of walk)) on
  pub stays : StaysOpen code level way.from on.to

-- the table tells of each location that the speculation of a site saves that it does, and perhaps of others
abbrev pub HasAllSaved : List Instr → (ℕ → Location → Bool) → Type 0
HasAllSaved code saved = (site : ℕ) (x : Location) → IsSaved code site x → IsTrue (saved site x)

-- The table tells exactly which locations the speculations of sites save.
abbrev pub TellsSaved : List Instr → (ℕ → Location → Bool) → Type 0
TellsSaved code saved = (site : ℕ) (x : Location) → IsTrue (saved site x) ↔ IsSaved code site x
