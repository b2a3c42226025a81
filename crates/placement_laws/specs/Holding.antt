-- What the words of homes and of shadow words hold of a frame, whatever they are words of.
use Rattle.std.specs.Prelude.{◌≡◌, ℕ, suc, ◌≤◌, Bool, true, List, [], ◌∷◌, length, Some}
use Rattle.bril_tree.specs.declared.numbered.Instr.{Instr}
use Rattle.bril_tree.specs.declared.value.Value.{Value}
use Rattle.bril_tree.specs.Locals.{location_value}
use Rattle.bril_tree.specs.Operand.{Location}
use Rattle.bril_tree.specs.State.{Locals}
use Rattle.placement_laws.specs.Needed.{IsLiveOut, IsNeeded, IsUnsaved}
use Rattle.placement_laws.specs.Open.{site_left}

-- `Has v w`: w is the word of the value v
module _ (code : List Instr) {H : Type 0} (homes : Location → H) (saved : ℕ → Location → Bool) (Has : Value → ℕ → Type 0) where
  -- each location that the point needs, and that holds a value, has its word at its home
  pub record HomesHold (point : ℕ) (locations : Locals) (word : H → ℕ) : Type 0 where
    pub at : (x : Location) (v : Value) → IsNeeded code saved point x → location_value locations x ≡ Some v → Has v (word (homes x))

  -- each save has the words of the locations that are live out at its level and have a shadow word of the speculation that they
  -- leave
  abbrev pub SavesHold : ℕ → List Locals → (ℕ → Location → ℕ) → Type 0
  SavesHold point [] shadow = Unit {0}
  SavesHold point (save ∷ older) shadow =
      ((x : Location) (v : Value) → (o : IsLiveOut code (suc (length older)) point x) → saved (site_left code (suc (length older)) o.way o.out) x ≡ true → location_value save x ≡ Some v → Has v (shadow (suc (length older)) x))
      × SavesHold point older shadow

  -- a location that is live out of an open speculation without a shadow word still holds what it held when that speculation, and
  -- each newer one, began
  abbrev pub IsSteady : ℕ → Locals → List Locals → Type 0
  IsSteady point locations [] = Unit {0}
  IsSteady point locations (save ∷ older) =
      ((level : ℕ) (x : Location) → level ≤ suc (length older) → IsUnsaved code saved level point x → location_value locations x ≡ location_value save x)
      × IsSteady point locations older

  pub record FrameHolds (point : ℕ) (locations : Locals) (saves : List Locals) (word : H → ℕ) (shadow : ℕ → Location → ℕ) : Type 0 where
    pub homes_hold : HomesHold point locations word
    pub saves_hold : SavesHold point saves shadow
    pub steady : IsSteady point locations saves
