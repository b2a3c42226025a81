-- What is done with the demo's program.
use Rattle.std.specs.Prelude.{◌≡◌, ℕ, List, [], Option}
use Rattle.bril_commands.specs.Driver.{DoesGiven, IsIdle, Stage}
use Rattle.bril_commands.specs.PassList.{PassList}
use Rattle.bril_commands.specs.Recording.{AreRecorded}
use Rattle.bril_commands.specs.commands.Demo.{demo_cells, demo_frames, demo_hot, demo_most, demo_words, demonstrates}
use Rattle.bril_outside.specs.Files.{FileMap}
use Rattle.bril_outside.specs.Sink.{SinkSeen}
use Rattle.bril_report.specs.declared.status.Status.{Status}
use Rattle.bril_report.specs.declared.status.Status.TheVariants as status
use Rattle.bril_tree.specs.declared.program.Prog.{Prog}

-- what is answered of the accepted program of the demo of so many functions, whatever its second file is, which it doesn't read: memory ran out
-- before its run was recorded, or this is what is done with the profile
abbrev pub DoesRecorded : (functions : ℕ) → Status → PassList → Prog → List (List ℕ) → SinkSeen → SinkSeen → Type 0
DoesRecorded functions how l p told s t = (named : Option (List ℕ)) (holds : Option FileMap) →
    Stage (how ≡ status.OutOfMemory) (IsIdle l told s t) (λ entries. AreRecorded p [] demo_frames demo_cells demo_words demo_hot demo_most entries) (λ entries is.
    DoesGiven (demonstrates functions) how l named holds entries p [] told s t)
