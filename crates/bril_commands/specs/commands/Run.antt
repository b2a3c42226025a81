-- `run`: an accepted program is made into machine words, which the machine executes with the arguments that the words of the
-- command line spell.
use Rattle.std.specs.Prelude.{ℕ, zero, suc, ◌≡◌, ◌+◌, ◌*◌, ◌≤◌, Bool, true, List, [], ◌∷◌, ◌++◌, Option, Some}
use Rattle.bril_outside.specs.Sink.{joined}
use Rattle.program_numbers.specs.Cost.{IsCost}
use Rattle.bril_tree.specs.Run.{state_after}
use Rattle.bril_tree.specs.declared.limits.End.{End}
use Rattle.bril_tree.specs.declared.limits.Limits.{Limits}
use Rattle.bril_tree.specs.declared.program.Prog.{Prog}
use Rattle.bril_tree.specs.declared.value.Value.{Value}
use Rattle.rv64_image_laws.specs.Implements.{image_after}
use Rattle.rv64_image_laws.specs.Shown.{ProgramShows}
use Rattle.rv64_words.specs.Machine.{machine_step}
use Rattle.rv64_words.specs.Region.{sizes_of}
use Rattle.rv64_words.specs.State.{State}
use Rattle.rv64_words.specs.declared.image.Image.{Image}
use Rattle.bril_commands.specs.Command.{OfProgram, OfMain, ImageFor, AreLimitsOf, Subject}
use Rattle.bril_commands.specs.Images.{MachineShows}
use Rattle.bril_commands.specs.Outcome.{Outcome, untrapped}
use Rattle.bril_commands.specs.Profiles.{NamedFile}
use Rattle.bril_commands.specs.Sources.{SourceShows}
use Rattle.bril_commands.specs.Stats.{TellsStats}

-- ---- the pieces that words print

-- one piece, and none where there is nothing
abbrev pub piece_of : List ℕ → List (List ℕ)
piece_of [] = []
piece_of (byte ∷ bytes) = (byte ∷ bytes) ∷ []

-- what the next word prints in a state
abbrev pub printed_next : Image → Limits → State → List ℕ
printed_next image limits t = (machine_step image (sizes_of image limits.cells) (record t { printed = [] })).printed

-- what the first words print, in pieces of which each is one put: one for each word that prints
abbrev pub pieces_within : Image → Limits → List Value → (words : ℕ) → List (List ℕ)
pieces_within image limits values zero = []
pieces_within image limits values (suc m) = pieces_within image limits values m ++ piece_of (printed_next image limits (image_after image limits values m))

-- ---- the run

-- What so many words of the machine come to, with these values as the arguments of `main`: the machine has ended so, or runs on
-- for None, and has printed this, and so the program ends alike and prints the same, or it has not ended in as many steps and
-- begins to print so.
pub record ShowsRun (p : Prog) (limits : Limits) (values : List Value) (words : ℕ) (ended : Option End) (output : List ℕ) : Type 0 where
  pub machine : MachineShows p limits values words ended output
  pub program : ProgramShows p limits values words ended output

-- the same of an output in pieces, and this is told of it
pub record Executes (p : Prog) (limits : Limits) (values : List Value) (words : ℕ) (stats : Bool) (ended : Option End) (told output : List (List ℕ)) : Type 0 where
  pub shows : ShowsRun p limits values words ended (joined output)
  pub pieces : output ≡ pieces_within shows.machine.image limits values words
  pub tells : TellsStats stats shows.machine.image p limits values words ended told

-- what executing so many words comes to
abbrev pub executed : Prog → Limits → List Value → ℕ → Bool → Outcome
executed p limits values words stats = record { steps = words; Shows = Executes p limits values words stats; Traps = untrapped; Exhausts = λ output. ⊥; unwritten = [] }

-- A program was made of a source, and this is what so many words of it come to, and what they say of the source. Where the source has
-- ended after n steps, and the words are at least the cost of a step of the program that was made, times the factor, times n + 1, the
-- machine has this end, and has printed just what the source printed; and so where the words are enough, for so many steps, by the list.
pub record RunShows (source made : Prog) (IsFactor : ℕ → Type 0) (AreEnough : (steps words : ℕ) → Type 0) (values : List Value) (frames cells words : ℕ) (stats : Bool) (ended : Option End) (told output : List (List ℕ)) : Type 0 where
  pub limits : Limits
  pub are : AreLimitsOf (ImageFor frames cells) limits
  pub executes : Executes made limits values words stats ended told output
  pub shows_source : SourceShows source made IsFactor limits values words ended (joined output)
  pub ends : (n cost factor : ℕ) (end : End) → IsCost made cost → IsFactor factor → cost * (factor * (n + 1)) ≤ words → (state_after source limits values n).ended ≡ Some end →
      (ended ≡ Some end) × (joined output ≡ (state_after source limits values n).printed)
  pub ends_by_list : (n : ℕ) (end : End) → AreEnough n words → (state_after source limits values n).ended ≡ Some end → (ended ≡ Some end) × (joined output ≡ (state_after source limits values n).printed)

-- what so many words of a program that was made of a source come to
abbrev pub ran : Subject → (frames cells words : ℕ) → Bool → Outcome
ran on frames cells words stats = record {
  steps = words;
  Shows = RunShows on.source on.made on.IsFactor on.AreEnough on.values frames cells words stats;
  Traps = untrapped;
  Exhausts = λ output. ⊥;
  unwritten = [];
}

-- The image of the program that the list makes, for limits of so many frames and cells, is run for so many words.
abbrev pub runs : (frames cells words : ℕ) → Bool → OfProgram
runs frames cells words stats = record {
  arguments = OfMain;
  profile = NamedFile;
  takes_passes = true;
  emission = ImageFor frames cells;
  outcome = λ on. ran on frames cells words stats;
}
