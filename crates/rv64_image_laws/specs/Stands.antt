-- At which item a program stands.
use Rattle.std.specs.Prelude.{◌≡◌, ℕ, List, ◌∷◌, None}
use Rattle.bril_tree.specs.State as bril

-- The program runs, and its newest frame is at this item of this function.
pub record StandsAt (s : bril.State) (f item : ℕ) : Type 0 where
  pub frame : bril.Frame
  pub older : List bril.Frame
  pub frames : s.frames ≡ frame ∷ older
  pub running : s.ended ≡ None
  pub in_function : frame.function ≡ f
  pub at_item : frame.point ≡ item
