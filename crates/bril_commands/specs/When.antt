-- When a command's work is done: once its files have a tree, unless a stage has its cause.
use Rattle.std.specs.Prelude.{ℕ, ◌≡◌, ◌⊎◌, Bool, true, false, List, Option, Some}
use Rattle.bril_outside.specs.Sink.{Rose}
use Rattle.bril_profile.specs.declared.profile.Entry.{Entry}
use Rattle.bril_report.specs.Puts.{WritesAll}
use Rattle.bril_report.specs.Report.{pass_pieces, unknown_pass_pieces}
use Rattle.bril_tree.specs.Accepted.{IsAccepted}
use Rattle.bril_tree.specs.Numbered.{Numbered}
use Rattle.rv64_words.specs.State.{Stop}
use Rattle.bril_tree.specs.declared.limits.Limits.{Limits}
use Rattle.bril_tree.specs.declared.program.Prog.{Prog}
use Rattle.bril_tree.specs.declared.tree.Tree.{Tree}
use Rattle.bril_tree.specs.declared.value.Value.{Value}
use Rattle.bril_words.specs.declared.subcommands.Action.{Action}
use Rattle.rv64_image_laws.specs.WordBounds.{IsWithin}
use Rattle.bril_commands.specs.Call.{Call}
use Rattle.bril_commands.specs.Comes.{SaysAlone, ReadsWell, UnlessMemory, TellsRun}
use Rattle.bril_commands.specs.Command.{Command, OnBytes, OnFile, OnTree, OnProgram, Makes, Emission, NoImage, ImageFor, AreLimitsOf, Spell, reach}
use Rattle.bril_commands.specs.Driver.{subject}
use Rattle.bril_commands.specs.Outcome.{Outcome, ShowsSo}
use Rattle.bril_commands.specs.PassList.{IsFirstUnknown, IsRefusedPass}
use Rattle.bril_commands.specs.Profiles.{IsProfileFrom}
use Rattle.bril_commands.specs.Source.{HaveTree, HoldsBytes}
use Rattle.bril_commands.specs.Table.{command}

-- ---- the stages

-- No pass answers to the name at this place, which is the first such.
pub record StopsUnknown (number : ℕ) (c : Call) : Type 0 where
  pub place : ℕ
  pub unknown : IsFirstUnknown c.passes (Some place)
  pub is : number ≡ 70
  pub alone : SaysAlone c (unknown_pass_pieces place)

-- The pass of the name at this place refuses the program that it was given, for its bound on items.
pub record StopsTooLarge (number : ℕ) (c : Call) (entries : List Entry) (p : Prog) : Type 0 where
  pub place : ℕ
  pub bound : ℕ
  pub refused : IsRefusedPass c.passes entries p place bound
  pub is : number ≡ 68
  pub alone : SaysAlone c (pass_pieces place bound)

-- why the list makes no program
abbrev pub StopsMaking : Bool → ℕ → Call → List Entry → Prog → Type 0
StopsMaking false number c entries p = ⊥
StopsMaking true number c entries p = StopsUnknown number c ⊎ StopsTooLarge number c entries p

-- The list of passes, where one is taken, makes a program of p, of which this holds; or it makes none, which is told.
abbrev pub AfterPasses : (by_list : Bool) → ℕ → (c : Call) → (entries : List Entry) → (p : Prog) → ((q : Prog) → Makes by_list c.passes entries p q → Type 0) → Type 0
AfterPasses by_list number c entries p Does = StopsMaking by_list number c entries p ⊎ ((q : Prog) × (makes : Makes by_list c.passes entries p q) × Does q makes)

-- A program of which an image is made is within the bounds, and this holds; or else it is too large.
abbrev pub AfterEmission : Emission → ℕ → Prog → Type 0 → Type 0
AfterEmission NoImage number q Does = Does
AfterEmission (ImageFor frames cells) number q Does =
    (limits : Limits) × AreLimitsOf (ImageFor frames cells) limits × ((¬ IsWithin q limits × (number ≡ 68)) ⊎ (IsWithin q limits × Does))

-- ---- the work

-- This is how the run stopped, what is told and what the output took.
pub record IsDone (number : ℕ) (c : Call) (o : Outcome) : Type 0 where
  pub ended : Option Stop
  pub told : List (List ℕ)
  pub output : List (List ℕ)
  pub shows : ShowsSo o ended told output
  pub says : TellsRun ended o.steps told number c
  pub took : WritesAll c.out_before output c.out_after

-- it is done where no write failed
abbrev pub IsDoneUnless : ℕ → Call → Outcome → Type 0
IsDoneUnless number c o = ¬ Rose c.out_before.faults c.out_after.faults → IsDone number c o

-- What a command does where its files have this tree: it is worked on, or its accepted program with arguments that are spelled is given
-- to the list of passes, with the profile; what this makes is told where it is too large, and else it is worked on.
abbrev pub CommandDone : Command → ℕ → Call → Tree → List (List ℕ) → Type 0
CommandDone (OnBytes does) number c tree args = ⊥
CommandDone (OnFile outcome) number c tree args = UnlessMemory number (IsDoneUnless number c (outcome tree))
CommandDone (OnTree outcome) number c tree args = UnlessMemory number (IsDoneUnless number c (outcome tree))
CommandDone (OnProgram origin does) number c tree args =
    (p : Prog) (values : List Value) (entries : List Entry) → Numbered tree p → IsAccepted p → Spell does.arguments p args values → IsProfileFrom does.profile c.second c.files_before.holds p entries →
    UnlessMemory number (AfterPasses does.takes_passes number c entries p (λ q makes. AfterEmission does.emission number q (IsDoneUnless number c (does.outcome (subject does c.passes c.second c.files_before.holds entries p q makes values)))))

-- The command that the words ask for is done, where its files have a tree.
abbrev pub DoneWhere : ℕ → Call → Type 0
DoneWhere number c = (action : Action) (reads : ReadsWell c action) (tree : Tree) → HaveTree (reach (command action)) c.files_before.holds reads.path tree → CommandDone (command action) number c tree reads.args

-- What a command does that works on bytes, where those of its file are read so, and words give these values: it is worked on.
abbrev pub BytesDone : Command → ℕ → Call → List ℕ → List (List ℕ) → Type 0
BytesDone (OnBytes does) number c path args =
    (bytes : List ℕ) (read : does.Read) (values : List Value) → HoldsBytes c.files_before.holds path bytes → does.AreRead bytes read → does.AreGiven read args values → UnlessMemory number (IsDoneUnless number c (does.outcome read values))
BytesDone _ number c path args = Unit {0}

-- The command that the words ask for is done, where it works on bytes.
abbrev pub BytesDoneWhere : ℕ → Call → Type 0
BytesDoneWhere number c = (action : Action) (reads : ReadsWell c action) → BytesDone (command action) number c reads.path reads.args
