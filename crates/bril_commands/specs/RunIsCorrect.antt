-- The main theorem, of the command `run`: the output, the error output and the status are those of the program by its semantics, whichever of
-- the passes that the call was lent the words name. `bril_top` (crates/bril_cli/src/top.rt) promises it of every call, by its clause `run`.
use Rattle.std.specs.Prelude.{ℕ, ◌≡◌, ◌⊎◌, ◌+◌, ◌*◌, ◌≤◌, true, false, List, [], ◌∷◌, ◌++◌, Some, None}
use Rattle.bril_arguments.specs.Spelled.{AreSpelled}
use Rattle.bril_outside.specs.Files.{FileMap}
use Rattle.bril_outside.specs.Sink.{Rose, Took}
use Rattle.bril_profile.specs.declared.profile.Entry.{Entry}
use Rattle.bril_report.specs.Lines.{fault_line}
use Rattle.bril_report.specs.Puts.{Puts}
use Rattle.bril_report.specs.Report.{spent_pieces}
use Rattle.bril_tree.specs.Accepted.{IsAccepted}
use Rattle.bril_tree.specs.Numbered.{Numbered}
use Rattle.bril_tree.specs.Run.{main_types, state_after}
use Rattle.bril_tree.specs.State.{State}
use Rattle.bril_tree.specs.declared.limits.End.TheVariants.{Ended, Faulted}
use Rattle.bril_tree.specs.declared.limits.End.{End}
use Rattle.bril_tree.specs.declared.limits.Fault.{Fault}
use Rattle.bril_tree.specs.declared.program.Prog.{Prog}
use Rattle.bril_tree.specs.declared.tree.Tree.{Tree}
use Rattle.bril_tree.specs.declared.value.Value.{Value}
use Rattle.bril_words.specs.declared.request.RunSettings.{RunSettings}
use Rattle.bril_words.specs.declared.subcommands.Action.TheVariants.{Program}
use Rattle.bril_words.specs.declared.subcommands.PassesAction.TheVariants.{Run}
use Rattle.bril_words.specs.declared.subcommands.ProgramAction.TheVariants.{WithPasses}
use Rattle.import_linker.specs.Linked.{Linked}
use Rattle.program_numbers.specs.Cost.{IsCost}
use Rattle.rv64_image_laws.specs.WordBounds.{IsWithin}
use Rattle.simulation.specs.System.{IsPrefix}
use Rattle.bril_commands.specs.Call.{Call}
use Rattle.bril_commands.specs.CommandLine.{AsksFor}
use Rattle.bril_commands.specs.PassList.{AreEnoughFor, AreFactorsOf, IsFirstUnknown, IsMade, IsRefusedPass}
use Rattle.bril_commands.specs.ProfileFiles.{IsProfileAt}

-- ---- what is asked

-- The words ask for `run`, and what they name is good.
pub record AsksToRun (c : Call) : Type 0 where
  -- the words are `run` with these settings, the path of a file, and arguments
  pub settings : RunSettings
  pub path : List ℕ
  pub args : List (List ℕ)
  pub asked : AsksFor c.words (Program (WithPasses (Run settings))) path args
  -- these are the files, and no read of them failed
  pub files : FileMap
  pub told : c.files_before.holds ≡ Some files
  pub read : ¬ Rose c.files_before.faults c.files_after.faults
  -- the file at the path and all that it imports are linked into this tree; the source is its program, with numbers for names
  pub tree : Tree
  pub linked : Linked (Some files) path tree
  pub source : Prog
  pub numbered : Numbered tree source
  -- the source keeps the rules of the language
  pub accepted : IsAccepted source
  -- the arguments spell these values, one for each argument of its `main` and of the type that this has
  pub values : List Value
  pub spelled : AreSpelled (main_types source) args values
  -- these are the entries of the profile that the words name; where they name none, there are none
  pub entries : List Entry
  pub profiled : IsProfileAt c.second (Some files) entries
  -- each name of the list of passes that the words give is one to which a pass answers
  pub known : IsFirstUnknown c.passes None
  -- no write to the output failed
  pub written : ¬ Rose c.out_before.faults c.out_after.faults

-- ---- what comes

-- the source after so many steps, by its semantics: started with the values, under as many frames and cells as the settings have
abbrev pub source_after : {c : Call} → AsksToRun c → ℕ → State
source_after run n = state_after run.source run.settings.limits run.values n

-- The error output got this line and nothing else; with `--stats` it got the counts of the run before it.
pub record Says (c : Call) (run : AsksToRun c) (line : List (List ℕ)) : Type 0 where
  pub counts : List (List ℕ)
  pub uncounted : run.settings.stats ≡ false → counts ≡ []
  pub says : Puts c.err_before (counts ++ line) c.err_after

-- The source has ended so.
pub record HasEnded (c : Call) (run : AsksToRun c) (end : End) (line : List (List ℕ)) : Type 0 where
  -- it has, after so many steps
  pub steps : ℕ
  pub ended : (source_after run steps).ended ≡ Some end
  -- the output took exactly what it has printed by then, and handed on all of it
  pub took : Took c.out_before (source_after run steps).printed c.out_after
  pub out : c.out_after.is_out ≡ true
  -- the error output got this line
  pub says : Says c run line

-- The machine goes on after as many words as the settings allow, which are too few for the source.
pub record RunsOn (c : Call) (run : AsksToRun c) : Type 0 where
  -- the output took exactly this, and handed on all of it
  pub output : List ℕ
  pub took : Took c.out_before output c.out_after
  pub out : c.out_after.is_out ≡ true
  -- what the source has printed after so many steps begins with it
  pub steps : ℕ
  pub begins : IsPrefix output (source_after run steps).printed
  -- the list made this program of the source
  pub made : Prog
  pub makes : IsMade c.passes run.entries run.source made
  -- the source has not ended after n steps, where the words are as many as n + 1 of its steps may take: for each the product of the factors
  -- of the passes, times the cost of a step of the program that was made
  pub too_few : (n cost factor : ℕ) → IsCost made cost → AreFactorsOf c.passes run.entries run.source made makes factor → cost * (factor * (n + 1)) ≤ run.settings.steps → (source_after run n).ended ≡ None
  -- nor where they are as many as the budget of the list for n steps, which is computed from numbers of the source
  pub below_budget : (n : ℕ) → AreEnoughFor c.passes run.entries run.source n run.settings.steps → (source_after run n).ended ≡ None
  -- the error output got the line of the words
  pub says : Says c run (spent_pieces run.settings.steps)

-- A pass of the list refuses what it was given, of which it may make too many items; or the program that the list made may have too many
-- words of code, or needs too many of stack.
abbrev pub IsTooLarge : (c : Call) → AsksToRun c → Type 0
IsTooLarge c run =
    ((place : ℕ) × (bound : ℕ) × IsRefusedPass c.passes run.entries run.source place bound) ⊎
    ((made : Prog) × IsMade c.passes run.entries run.source made × (¬ IsWithin made run.settings.limits))

-- What each status says. So where the source has ended after n steps, and the words are enough for these, the status isn't 3.
pub record ComesAsSource (status : ℕ) (c : Call) (run : AsksToRun c) : Type 0 where
  -- 0: the source has ended, and the error output got no line
  pub done : status ≡ 0 → HasEnded c run Ended []
  -- 2: it has stopped with a fault, of which the error output got the line
  pub faulted : status ≡ 2 → (fault : Fault) × HasEnded c run (Faulted fault) (fault_line fault ∷ [])
  -- 3: the words are spent
  pub spent : status ≡ 3 → RunsOn c run
  -- 68: what was to be run is too large
  pub refused : status ≡ 68 → IsTooLarge c run
  -- 71: memory ran out. Then and at 68 the output got nothing
  pub silent : (status ≡ 68) ⊎ (status ≡ 71) → c.out_after ≡ c.out_before
  -- there is no other status
  pub only : (status ≡ 0) ⊎ ((status ≡ 2) ⊎ ((status ≡ 3) ⊎ ((status ≡ 68) ⊎ (status ≡ 71))))

-- A run that is asked for comes as its source has it.
abbrev pub RunIsCorrect : ℕ → Call → Type 0
RunIsCorrect status c = (run : AsksToRun c) → ComesAsSource status c run
