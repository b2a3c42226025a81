-- What executing the image of a program shows.
use Rattle.std.specs.Prelude.{◌≡◌, ℕ, List, [], map, Option}
use Rattle.std.specs.Option.{option_map}
use Rattle.bril_outside.specs.Sink.{joined}
use Rattle.bril_tree.specs.Run.{FitMain}
use Rattle.bril_tree.specs.Value.{word_of}
use Rattle.bril_tree.specs.declared.limits.End.{End}
use Rattle.bril_tree.specs.declared.limits.Limits.{Limits}
use Rattle.bril_tree.specs.declared.program.Prog.{Prog}
use Rattle.bril_tree.specs.declared.value.Value.{Value}
use Rattle.rv64_image_laws.specs.Implements.{Implements, image_after}
use Rattle.rv64_image_laws.specs.Shown.{ProgramShows}
use Rattle.rv64_words.specs.State.{Stop, Finished}
use Rattle.rv64_words.specs.declared.image.Image.{Image}
use Rattle.bril_commands.specs.commands.Execute.{ShowsExecution}
use Rattle.bril_commands.specs.commands.Run.{pieces_within}

-- The image has the same words and the same stack, and no guards: it is what the file of the image tells.
pub record IsBare (bare image : Image) : Type 0 where
  pub words : bare.words ≡ image.words
  pub stack : bare.stack ≡ image.stack
  pub guards : bare.guards ≡ []

-- So many words of the whole image, with the arguments of `main`, stop so, or run on for None, and print this, by these pieces. The machine
-- never traps, and the program ends alike and prints the same, or it has not ended in as many steps and begins to print so.
pub record IsRun (image : Image) (q : Prog) (limits : Limits) (args : List Value) (words : ℕ) (stopped : Option Stop) (output : List (List ℕ)) : Type 0 where
  pub stops : (image_after image limits args words).stopped ≡ stopped
  pub prints : (image_after image limits args words).printed ≡ joined output
  pub pieces : output ≡ pieces_within image limits args words
  pub ended : Option End
  pub ends : stopped ≡ option_map Finished ended
  pub program : ProgramShows q limits args words ended (joined output)

-- What is shown of executing the file of an image that implements a program is what `run` shows of the whole image: with arguments that
-- fit, and ints of which each has the word of the argument at its place.
abbrev pub ExecutionIsARun : Type 0
ExecutionIsARun = (image bare : Image) (q : Prog) (limits : Limits) (args ints : List Value) (words : ℕ) (stopped : Option Stop) (output : List (List ℕ)) →
    Implements image q limits → FitMain q args → IsBare bare image → map word_of ints ≡ map word_of args →
    ShowsExecution bare ints limits.cells words stopped output → IsRun image q limits args words stopped output
