-- What homes promise: where a location gets a value, none is lost that is needed.
use Rattle.std.specs.Prelude.{◌≡◌, ◌≢◌, ℕ, ◌<◌, Bool, false, List, ◌++◌, ◌∷◌, slice_get}
use Rattle.std.specs.List.{Contains}
use Rattle.bril_tree.specs.declared.numbered.Instr.{Instr}
use Rattle.bril_tree.specs.Assigned.{assigns_at}
use Rattle.bril_tree.specs.Edge.{Branch, branches_at}
use Rattle.bril_tree.specs.Live.{IsLive}
use Rattle.bril_tree.specs.Operand.{Location, Variable}
use Rattle.bril_tree.specs.Sites.{sites_of}
use Rattle.bril_tree.specs.Walk.{IsWalk, end_of}
use Rattle.placement_laws.specs.Needed.{IsNeeded}
use Rattle.placement_laws.specs.Open.{IsWayOutOf}

-- the homes of the locations of a function with so many arguments, of which these are saved
module _ (code : List Instr) (args : ℕ) {H : Type 0} (homes : Location → H) (saved : ℕ → Location → Bool) where
  -- no item that a walk leads to assigns a location whose home is that of another one which is live at the next point
  abbrev pub NoClash : Type 0
  NoClash = (walk : List Branch) (branch : Branch) (x y : Location) → IsWalk code walk → Contains (branches_at code (end_of walk)) branch →
      Contains (assigns_at (slice_get code (end_of walk))) x → IsLive code y branch.to → y ≢ x → homes y ≢ homes x

  -- arguments count as assigned at the start
  abbrev pub NoArgumentClash : Type 0
  NoArgumentClash = (k : ℕ) (y : Location) → k < args → IsLive code y 0 → y ≢ Variable k → homes y ≢ homes (Variable k)

  -- While a site is open, no item assigns a location whose home is that of another one which is live at the label of a guard
  -- of the site and isn't saved by its speculation.
  abbrev pub NoOpenClash : Type 0
  NoOpenClash = (walk : List Branch) (branch : Branch) (x y : Location) (newer older : List ℕ) (site : ℕ) (way : Branch) → IsWalk code walk → Contains (branches_at code (end_of walk)) branch →
      sites_of code (branch ∷ walk) ≡ newer ++ site ∷ older → Contains (assigns_at (slice_get code (end_of walk))) x → IsWayOutOf code site older way → IsLive code y way.to → saved site y ≡ false → y ≢ x → homes y ≢ homes x

  -- two locations that one point needs have two homes
  abbrev pub NeededApart : Type 0
  NeededApart = (walk : List Branch) (x y : Location) → IsWalk code walk → IsNeeded code saved (end_of walk) x → IsNeeded code saved (end_of walk) y → x ≢ y → homes x ≢ homes y

  pub record IsPlaced : Type 0 where
    pub assigned : NoClash
    pub arguments : NoArgumentClash
    pub kept : NoOpenClash
    pub needed : NeededApart

-- No two locations that are live at one point, reachable or not, have one home.
abbrev pub LiveApart : List Instr → {H : Type 0} → (Location → H) → Type 0
LiveApart code homes = (point : ℕ) (x y : Location) → IsLive code x point → IsLive code y point → homes x ≡ homes y → x ≡ y
