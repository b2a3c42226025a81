-- `exec`: the machine runs the image that a file has, with ints on its stack.
use Rattle.std.specs.Prelude.{ℕ, ◌≡◌, ◌+◌, ◌-◌, ◌<◌, ◌≤◌, List, [], length, Option, Some}
use Rattle.std.specs.Option.{option_map}
use Rattle.bril_arguments.specs.Ints.{AreInts, IsIntFaultOf}
use Rattle.bril_arguments.specs.declared.fault.ArgFault.TheVariants.{Spelling}
use Rattle.bril_outside.specs.Sink.{joined}
use Rattle.bril_report.specs.StageFaults.{elf_status}
use Rattle.bril_report.specs.declared.status.Status.TheVariants as status
use Rattle.bril_report.specs.declared.status.Status.{Status}
use Rattle.bril_tree.specs.declared.limits.Limits.{Limits}
use Rattle.bril_tree.specs.declared.value.Value.{Value}
use Rattle.elf_wrap.specs.Form.{elf_fault}
use Rattle.elf_wrap.specs.Laws.{IsFile}
use Rattle.elf_wrap.specs.declared.fault.ElfFault.{ElfFault}
use Rattle.rv64_image_laws.specs.Implements.{image_after}
use Rattle.rv64_words.specs.State.{Stop, Finished, Trapped}
use Rattle.rv64_words.specs.declared.image.Image.{Image}
use Rattle.bril_commands.specs.Command.{OfBytes}
use Rattle.bril_commands.specs.Outcome.{Outcome}
use Rattle.bril_commands.specs.commands.Run.{pieces_within}

-- ---- the file

-- The bytes are the file of the image, which has no guards.
pub record HoldImage (bytes : List ℕ) (image : Image) : Type 0 where
  pub file : IsFile bytes image.stack image.words
  pub unguarded : image.guards ≡ []

-- The bytes have this fault of a file first, which is answered so.
pub record HaveFault (how : Status) (path bytes : List ℕ) : Type 0 where
  pub fault : ElfFault
  pub first : elf_fault bytes ≡ Some fault
  pub is : how ≡ elf_status path fault

-- why bytes are the file of no image
abbrev pub RefusesFile : Status → (path bytes : List ℕ) → Type 0
RefusesFile status.OutOfMemory path bytes = Unit {0}
RefusesFile how path bytes = HaveFault how path bytes

-- ---- the arguments

-- The words spell these ints, and the stack of the image has room for them and two words more.
pub record AreOnStack (image : Image) (args : List (List ℕ)) (values : List Value) : Type 0 where
  pub ints : AreInts args values
  pub room : length values + 2 ≤ image.stack

-- The words spell ints, but there are more than the stack has room for.
pub record LacksRoom (given room : ℕ) (image : Image) (args : List (List ℕ)) : Type 0 where
  pub values : List Value
  pub ints : AreInts args values
  pub small : image.stack < length args + 2
  pub given_is : given ≡ length args
  pub room_is : room ≡ image.stack - 2

-- why words give no arguments: the one at this place, from 1, is the first that spells no int, or they have no room
abbrev pub RefusesInts : Status → Image → List (List ℕ) → Type 0
RefusesInts (status.BadArgument place) image args = IsIntFaultOf args (Spelling place)
RefusesInts (status.ArgumentRoom given room) image args = LacksRoom given room image args
RefusesInts status.OutOfMemory image args = Unit {0}
RefusesInts _ image args = ⊥

-- ---- the run

-- After so many words of the image, with these values on its stack, the machine has stopped so, or runs on for None, and has printed
-- this, in pieces of which each is one put.
pub record ShowsExecution (image : Image) (values : List Value) (cells words : ℕ) (stopped : Option Stop) (output : List (List ℕ)) : Type 0 where
  pub limits : Limits
  pub cells_are : limits.cells ≡ cells
  pub stops : (image_after image limits values words).stopped ≡ stopped
  pub prints : (image_after image limits values words).printed ≡ joined output
  pub pieces : output ≡ pieces_within image limits values words

-- what executing so many words comes to
abbrev pub execution : Image → List Value → (cells words : ℕ) → Outcome
execution image values cells words = record {
  steps = words;
  Shows = λ ended told output. (told ≡ []) × ShowsExecution image values cells words (option_map Finished ended) output;
  Traps = λ trap told output. (told ≡ []) × ShowsExecution image values cells words (Some (Trapped trap)) output;
  Exhausts = λ output. ⊥;
  unwritten = [];
}

-- The image of the file is run for so many words, on a machine with so many cells.
abbrev pub executes : (cells words : ℕ) → OfBytes
executes cells words = record {
  Read = Image;
  AreRead = HoldImage;
  RefusesBytes = RefusesFile;
  AreGiven = AreOnStack;
  RefusesArguments = RefusesInts;
  outcome = λ image values. execution image values cells words;
}
