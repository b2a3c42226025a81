-- What an image that implements a program shows of it, as laws.
use Rattle.std.specs.Prelude.{◌≡◌, ℕ, ◌+◌, ◌*◌, ◌≤◌, List, Option, Some}
use Rattle.std.specs.Option.{option_map}
use Rattle.bril_tree.specs.declared.limits.End.{End}
use Rattle.bril_tree.specs.declared.limits.Limits.{Limits}
use Rattle.bril_tree.specs.declared.program.Prog.{Prog}
use Rattle.bril_tree.specs.declared.value.Value.{Value}
use Rattle.program_numbers.specs.Cost.{IsCost}
use Rattle.bril_tree.specs.Run.{FitMain, state_after}
use Rattle.rv64_words.specs.declared.image.Image.{Image}
use Rattle.rv64_words.specs.State.{Stop, Finished}
use Rattle.rv64_image_laws.specs.Implements.{Implements, CountsFailures, image_after}
use Rattle.rv64_image_laws.specs.Shown.{ProgramShows}

-- However many words are executed, the machine has not trapped, and what it shows holds of the program.
abbrev pub ImagesShowPrograms : Type 0
ImagesShowPrograms = (image : Image) (p : Prog) (limits : Limits) (args : List Value) → Implements image p limits → FitMain p args → (words : ℕ) →
    (ended : Option End) × ((image_after image limits args words).stopped ≡ option_map Finished ended)
    × ProgramShows p limits args words ended (image_after image limits args words).printed

-- Where the program has ended after n steps, the machine has ended alike, and has printed the same, by the cost of n + 1 steps.
abbrev pub ImagesEndInTime : Type 0
ImagesEndInTime = (image : Image) (p : Prog) (limits : Limits) (args : List Value) → Implements image p limits → FitMain p args →
    (n cost words : ℕ) (end : End) → IsCost p cost → cost * (n + 1) ≤ words → (state_after p limits args n).ended ≡ Some end →
    ((image_after image limits args words).stopped ≡ Some (Finished end))
    × ((image_after image limits args words).printed ≡ (state_after p limits args n).printed)

-- Where the program and the machine have both ended, the arrivals at each guard's word are the guard's failures.
abbrev pub ImagesCountFailures : Type 0
ImagesCountFailures = (image : Image) (p : Prog) (limits : Limits) (args : List Value) → Implements image p limits → FitMain p args →
    (n words : ℕ) (end : End) (how : Stop) → (state_after p limits args n).ended ≡ Some end → (image_after image limits args words).stopped ≡ Some how →
    CountsFailures image.guards (state_after p limits args n) (image_after image limits args words)
