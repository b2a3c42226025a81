-- A machine that was made for an image, and hasn't run yet.
use Rattle.std.specs.Prelude.{◌≡◌, false, List}
use Rattle.bril_tree.specs.declared.limits.Limits.{Limits}
use Rattle.bril_tree.specs.declared.value.Value.{Value}
use Rattle.rv64_machine.specs.MachineView.{state_of, image_in, sizes_in, has_failed}
use Rattle.rv64_machine.specs.declared.machine.Machine.{Machine}
use Rattle.rv64_words.specs.Region.{sizes_of}
use Rattle.rv64_words.specs.State.{start}
use Rattle.rv64_words.specs.declared.image.Image.{Image}

-- The machine was made for the image, the limits and the values, and has executed nothing.
pub record IsFresh (m : Machine) (image : Image) (limits : Limits) (values : List Value) : Type 0 where
  pub state : state_of m ≡ start values
  pub holds : image_in m ≡ image
  pub sizes : sizes_in m ≡ sizes_of image limits.cells
  pub sound : has_failed m ≡ false
