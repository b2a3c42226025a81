-- Points that list all items at which a monitor may stop.
use Rattle.std.specs.Prelude.{◌≡◌, ℕ, Some, slice_get}
use Rattle.bril_tree.specs.declared.home.Home.{Home}
use Rattle.bril_tree.specs.declared.program.Prog.{Prog}
use Rattle.bril_tree.specs.Operand.{Location}
use Rattle.rv64_words.specs.declared.points.HomeAt.{HomeAt}
use Rattle.rv64_words.specs.declared.points.PointAt.{PointAt}
use Rattle.rv64_words.specs.declared.points.Points.{Points}
use Rattle.rv64_image_laws.specs.PointsShown.{IsHomeNamed}
use Rattle.rv64_image_laws.specs.ProgramPoints.{ArePointsOf}

-- Exactly the items other than labels and `nop` that some walk leads to have a point, in order, with the variables that are live
-- there, in order, with their types. The words are those at which the items begin, and the homes those of the variables, each a
-- register of the machine or a word of the frame: so for some tables of words and homes.
pub record ListsPoints (p : Prog) (points : Points) : Type 0 where
  pub homes : ℕ → Location → Home
  pub entry : ℕ → ℕ → ℕ
  pub are : ArePointsOf homes entry p points
  pub named : (k j : ℕ) (at : PointAt) (h : HomeAt) → slice_get points.points k ≡ Some at → slice_get at.homes j ≡ Some h → IsHomeNamed h.home
