-- Where a monitor stands in the run of an image.
use Rattle.std.specs.Prelude.{◌≡◌, ℕ, List}
use Rattle.bril_tree.specs.declared.limits.Limits.{Limits}
use Rattle.bril_tree.specs.declared.value.Value.{Value}
use Rattle.rv64_image_laws.specs.Implements.{image_after}
use Rattle.rv64_machine.specs.MachineView.{image_in, sizes_in, state_of}
use Rattle.rv64_machine.specs.StepAnswers.{unprinted}
use Rattle.rv64_words.specs.declared.image.Image.{Image}
use Rattle.rv64_words.specs.Region.{sizes_of}
use Rattle.rv64_words.specs.declared.points.Points.{Points}
use Rattle.step_monitor.specs.declared.monitor.Monitor.{Monitor}
use Rattle.step_monitor.specs.MonitorView.{spots_in}
use Rattle.step_monitor.specs.Spots.{AreSpots}

-- The monitor's machine has executed so many words of the image with these arguments, and its spots are those of the points.
pub record StandsAfter (image : Image) (points : Points) (limits : Limits) (args : List Value) (words : ℕ) (m : Monitor) : Type 0 where
  pub image_is : image_in m.machine ≡ image
  pub sizes_are : sizes_in m.machine ≡ sizes_of image limits.cells
  pub state_is : state_of m.machine ≡ unprinted (image_after image limits args words)
  pub spots_are : AreSpots points (spots_in m)
