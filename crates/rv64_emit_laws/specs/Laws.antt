-- That the image of a program does what the program does, as laws.
use Rattle.bril_tree.specs.declared.limits.Limits.{Limits}
use Rattle.bril_tree.specs.declared.program.Prog.{Prog}
use Rattle.bril_tree.specs.Accepted.{IsAccepted}
use Rattle.bril_tree.specs.Literals.{AreLiteralsInRange}
use Rattle.rv64_image_laws.specs.Implements.{ImplementsAt}
use Rattle.rv64_image_laws.specs.PointsShown.{Shows}
use Rattle.rv64_image_laws.specs.ProgramPoints.{ArePointsOf}
use Rattle.rv64_image_laws.specs.WordBounds.{IsWithin}
use Rattle.std.specs.Prelude.{ℕ, List}
use Rattle.bril_tree.specs.declared.value.Value.{Value}
use Rattle.bril_tree.specs.Run.{FitMain}
use Rattle.rv64_emit_laws.specs.layout.Homes.{AreMarked, FunctionHomes}
use Rattle.rv64_emit_laws.specs.layout.Image.{IsImageOf, entry_at}
use Rattle.rv64_words.specs.declared.image.Image.{Image}
use Rattle.rv64_words.specs.declared.points.Points.{Points}
use Rattle.slot_code.specs.declared.slots.Slots.{Slots}
use Rattle.slot_code.specs.Lowered.{IsLowered}
use Rattle.rv64_emit_laws.specs.Entered.{MeetsItems}
use Rattle.rv64_emit_laws.specs.Homes.{AllHomesServe, homes_of}

-- The image of an accepted program within the bounds, laid out from its code over slots by homes that serve, does what the
-- program does, with all arguments that fit.
abbrev pub ImagesImplementPrograms : Type 0
ImagesImplementPrograms = (p : Prog) (homes : ℕ → FunctionHomes) (slots : Slots) (limits : Limits) (image : Image) → IsAccepted p → AreLiteralsInRange p → IsLowered p slots → IsWithin p limits →
    AllHomesServe homes p slots → IsImageOf homes slots limits image → ImplementsAt (homes_of homes) image p limits

-- There the machine is at the first words of items that have words exactly where the program is at the items, with all arguments
-- that fit.
abbrev pub ImagesMeetItems : Type 0
ImagesMeetItems = (p : Prog) (homes : ℕ → FunctionHomes) (slots : Slots) (limits : Limits) (image : Image) → IsAccepted p → AreLiteralsInRange p → IsLowered p slots → IsWithin p limits →
    AllHomesServe homes p slots → IsImageOf homes slots limits image → (args : List Value) → FitMain p args → MeetsItems (homes_of homes) homes slots image p limits args

-- With the points of the program's items the image shows the program, where items are marked.
abbrev pub ImagesShowPoints : Type 0
ImagesShowPoints = (p : Prog) (homes : ℕ → FunctionHomes) (slots : Slots) (limits : Limits) (image : Image) (points : Points) → IsAccepted p → AreLiteralsInRange p → IsLowered p slots → IsWithin p limits →
    AllHomesServe homes p slots → AreMarked homes → IsImageOf homes slots limits image → ArePointsOf (homes_of homes) (entry_at homes slots) p points → Shows image points p limits
