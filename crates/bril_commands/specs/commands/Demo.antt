-- `demo`: the demo program is recorded, compiled with the profile of this run, and run.
use Rattle.std.specs.Fmt.{decimal}
use Rattle.std.specs.Prelude.{ℕ, ◌≡◌, ◌^◌, ◌-◌, min, true, false, List, [], ◌∷◌, ◌++◌, length, Option, Some, None, codes}
use Rattle.bril_outside.specs.Sink.{joined}
use Rattle.bril_report.specs.Stats.{words_pieces}
use Rattle.bril_tree.specs.Size.{item_count}
use Rattle.bril_tree.specs.declared.limits.End.TheVariants.{Ended, Faulted}
use Rattle.bril_tree.specs.declared.limits.End.{End}
use Rattle.bril_tree.specs.declared.limits.Limits.{Limits}
use Rattle.bril_tree.specs.declared.program.Prog.{Prog}
use Rattle.rv64_image_laws.specs.Implements.{image_after}
use Rattle.bril_commands.specs.Command.{OfProgram, NoArguments, ImageFor, Subject}
use Rattle.bril_commands.specs.Outcome.{Outcome, untrapped}
use Rattle.bril_commands.specs.Profiles.{OwnRun}
use Rattle.bril_commands.specs.commands.Run.{Executes, RunShows}

-- ---- its limits

abbrev pub demo_frames : ℕ
demo_frames = 8192

abbrev pub demo_cells : ℕ
demo_cells = 1048576

-- the most words that are executed, and the most steps that are recorded
abbrev pub demo_words : ℕ
demo_words = 1000000000000

-- so many arrivals make a label hot, and the profile has so many entries at most
abbrev pub demo_hot : ℕ
demo_hot = 16

abbrev pub demo_most : ℕ
demo_most = 64

-- ---- its line

-- 0 where the program has ended, 2 where it stopped with a fault
abbrev pub shown_status : End → List ℕ
shown_status Ended = codes "0"
shown_status (Faulted fault) = codes "2"

-- how many bytes were printed, or 2^64 - 1 where they are more
abbrev pub bytes_shown : List ℕ → ℕ
bytes_shown printed = min (length printed) (2 ^ 64 - 1)

-- of a demo of so many functions, how many functions and items its program has
pub record DemoSize : Type 0 where
  pub functions : ℕ
  pub all : ℕ
  pub items : ℕ

abbrev pub size_of : (functions : ℕ) → Prog → DemoSize
size_of functions p = record { functions = functions; all = length p.funcs; items = item_count p }

-- the line of a demo that printed so many bytes and ended so
abbrev pub line_of : DemoSize → (bytes : ℕ) → End → List ℕ
line_of size bytes end =
    codes "demo " ++ decimal size.functions ++ codes ": " ++ decimal size.all ++ codes " functions, " ++ decimal size.items ++ codes " items, "
    ++ decimal bytes ++ codes " bytes, status " ++ shown_status end ++ codes "\n"

-- of one that printed this
abbrev pub demo_line : DemoSize → (printed : List ℕ) → End → List ℕ
demo_line size printed end = line_of size (bytes_shown printed) end

-- ---- its run

-- `Runs` says of a run how it ended, or that it goes on for None, what it printed, in pieces, and how many words were executed.
module _ (size : DemoSize) (Runs : Option End → (printed : List (List ℕ)) → (words : ℕ) → Type 0) where
  -- The machine has ended, or stopped with a fault, and this is put and told of it.
  pub record DemoEnds (told output : List (List ℕ)) : Type 0 where
    pub end : End
    pub printed : List (List ℕ)
    pub words : ℕ
    pub runs : Runs (Some end) printed words
    pub line : output ≡ demo_line size (joined printed) end ∷ []
    pub tells : told ≡ words_pieces words

  -- The machine goes on, and nothing is put or told.
  pub record DemoGoesOn (told output : List (List ℕ)) : Type 0 where
    pub printed : List (List ℕ)
    pub words : ℕ
    pub runs : Runs None printed words
    pub silent : output ≡ []
    pub untold : told ≡ []

  -- what the demo comes to; a fault of its program is told on the output
  abbrev pub DemoShows : Option End → (told output : List (List ℕ)) → Type 0
  DemoShows (Some Ended) told output = DemoEnds told output
  DemoShows (Some (Faulted fault)) told output = ⊥
  DemoShows None told output = DemoGoesOn told output

  abbrev pub demonstrated : Outcome
  demonstrated = record { steps = demo_words; Shows = DemoShows; Traps = untrapped; Exhausts = λ output. ⊥; unwritten = [] }

-- the run of a program: what so many words of the machine come to
abbrev pub MadeRuns : Prog → Limits → Option End → List (List ℕ) → ℕ → Type 0
MadeRuns q limits ended printed words =
    (executes : Executes q limits [] demo_words false ended [] printed) × (words ≡ (image_after executes.shows.machine.image limits [] demo_words).done)

-- and what it says of its source
abbrev pub SourceRuns : Subject → Option End → List (List ℕ) → ℕ → Type 0
SourceRuns on ended printed words =
    (runs : RunShows on.source on.made on.IsFactor on.AreEnough [] demo_frames demo_cells demo_words false ended [] printed)
    × (words ≡ (image_after runs.executes.shows.machine.image runs.limits [] demo_words).done)

-- The demo of so many functions is given to its list of passes, with the profile of its own run, and the image of what this makes is run.
abbrev pub demonstrates : (functions : ℕ) → OfProgram
demonstrates functions = record {
  arguments = NoArguments;
  profile = OwnRun demo_frames demo_cells demo_words demo_hot demo_most;
  takes_passes = true;
  emission = ImageFor demo_frames demo_cells;
  outcome = λ on. demonstrated (size_of functions on.source) (SourceRuns on);
}
