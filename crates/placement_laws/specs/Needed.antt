-- Which locations a point needs at their homes, where a table tells which ones the speculations of sites save.
use Rattle.std.specs.Prelude.{◌≡◌, ℕ, Bool, false, List}
use Rattle.bril_tree.specs.declared.numbered.Instr.{Instr}
use Rattle.bril_tree.specs.Edge.{Branch}
use Rattle.bril_tree.specs.Live.{IsLive}
use Rattle.bril_tree.specs.Operand.{Location}
use Rattle.placement_laws.specs.Open.{IsWayOut, StaysOpen, site_left}

-- From the point some walk, on which the site of the level stays open, leads to a way out of it where the location is live.
pub record IsLiveOut (code : List Instr) (level point : ℕ) (x : Location) : Type 0 where
  pub way : Branch
  pub out : IsWayOut code level way
  pub stays : StaysOpen code level way.from point
  pub live : IsLive code x way.to

module _ (code : List Instr) (saved : ℕ → Location → Bool) where
  -- the location is live out at the level, and isn't saved by the speculation that its way out leaves
  pub record IsUnsaved (level point : ℕ) (x : Location) : Type 0 where
    pub out : IsLiveOut code level point x
    pub unsaved : saved (site_left code level out.way out.out) x ≡ false

  -- The point needs the location at its home: it is live, or live out and not saved.
  pub data IsNeeded (point : ℕ) (x : Location) : Type 0 where
    Live : IsLive code x point → IsNeeded point x
    Unsaved : (level : ℕ) → IsUnsaved level point x → IsNeeded point x
