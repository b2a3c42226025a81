-- How many instructions a run carries out.
use Rattle.std.specs.Prelude.{ℕ, zero, suc, ◌≡◌, ◌+◌, ◌⊎◌, List, [], ◌∷◌, codes}
use Rattle.std.specs.Fmt.{decimal}
use Rattle.bril_commands.specs.Arguments.{AreOnlyValues, RefusesArgs}
use Rattle.bril_commands.specs.Outcome.{ShowsPut, end_status}
use Rattle.bril_commands.specs.Source.{WithImports, IsProgramOf}
use Rattle.bril_commands.specs.commands.Interp.{interpreted}
use Rattle.bril_outside.specs.Files.{FilesSeen}
use Rattle.bril_outside.specs.Sink.{HandedOn, SinkSeen}
use Rattle.bril_report.specs.Report.{status_number, status_pieces}
use Rattle.bril_report.specs.Told.{Tells}
use Rattle.bril_report.specs.declared.error_output.ErrorOutput.{ErrorOutput}
use Rattle.bril_report.specs.declared.status.Status.{Status}
use Rattle.bril_report.specs.declared.status.Status.TheVariants.{CannotWrite, OutOfMemory}
use Rattle.bril_tree.specs.Run.{state_after}
use Rattle.bril_tree.specs.declared.limits.Limits.{Limits}
use Rattle.bril_tree.specs.declared.program.Prog.{Prog}
use Rattle.bril_tree.specs.declared.value.Value.{Value}
use Rattle.step_count.specs.Executed.{counts_at}
use Rattle.bril_explain.specs.Explained.{Refuses}
use Rattle.bril_explain.specs.declared.counting.Run.{Run}

-- how many instructions the first steps of a program carry out, by its semantics: each step of an item that is no label
abbrev pub executed_by : Prog → Limits → List Value → ℕ → ℕ
executed_by p limits values zero = 0
executed_by p limits values (suc n) = executed_by p limits values n + counts_at p (state_after p limits values n)

-- The run with these values, under limits of 8,192 frames and 1,048,576 cells and of so many steps at most, carries out so many
-- instructions and ends so, and what it prints was put.
pub record CountsRun (p : Prog) (values : List Value) (s t : SinkSeen) (run : Run) : Type 0 where
  pub limits : Limits
  pub frames : limits.frames ≡ 8192
  pub cells : limits.cells ≡ 1048576
  pub executed : run.executed ≡ executed_by p limits values 1000000000000
  pub ended : (state_after p limits values 1000000000000).ended ≡ run.ended
  pub prints : ShowsPut (interpreted p values 8192 1048576 1000000000000) run.ended [] s t

-- and the words spell these values
pub record IsRunOf (p : Prog) (words : List (List ℕ)) (s t : SinkSeen) (run : Run) : Type 0 where
  pub values : List Value
  pub are : AreOnlyValues p words values
  pub counts : CountsRun p values s t run

-- a run was not made to its end: memory was wanting, or a write failed
abbrev pub IsCutShort : Status → Type 0
IsCutShort how = (how ≡ OutOfMemory) ⊎ (how ≡ CannotWrite)

-- or the words spell no values
abbrev pub RefusesRun : Status → Prog → List (List ℕ) → Type 0
RefusesRun how p words = RefusesArgs how p words ⊎ IsCutShort how

-- ---- what is told

abbrev pub count_pieces : ℕ → List (List ℕ)
count_pieces executed = codes "total_dyn_inst: " ∷ decimal executed ∷ codes "\n" ∷ []

-- The accepted program was run with the values that the words spell, its output was handed on, and how many instructions were carried
-- out is told. The status is that of the run.
pub record CountsProgram {E : Type 0} (seen : E → SinkSeen) (how : Status) (before : FilesSeen) (root : List ℕ) (words : List (List ℕ)) (s t : SinkSeen) (old new : ErrorOutput E) : Type 0 where
  pub p : Prog
  pub accepted : IsProgramOf WithImports before.holds root p
  pub run : Run
  pub between : SinkSeen
  pub is : IsRunOf p words s between run
  pub out : HandedOn between t
  pub status : how ≡ end_status run.ended 1000000000000
  pub told : Tells seen old (count_pieces run.executed) new

-- There is no accepted program, or its run was not made to its end.
pub record StopsBefore (how : Status) (before : FilesSeen) (root : List ℕ) (words : List (List ℕ)) : Type 0 where
  pub p : Prog
  pub accepted : IsProgramOf WithImports before.holds root p
  pub refuses : RefusesRun how p words

abbrev pub IsCounted : {E : Type 0} → (E → SinkSeen) → Status → FilesSeen → FilesSeen → List ℕ → List (List ℕ) → SinkSeen → SinkSeen → ErrorOutput E → ErrorOutput E → Type 0
IsCounted seen how before after root words s t old new =
    CountsProgram seen how before root words s t old new ⊎ ((Refuses how before after root ⊎ StopsBefore how before root words) × (new ≡ old))

-- The answer is the number of the status, and its line is told last.
pub record TellsCount {E : Type 0} (seen : E → SinkSeen) (result : ℕ) (before after : FilesSeen) (root : List ℕ) (words : List (List ℕ)) (s t : SinkSeen) (old new : ErrorOutput E) : Type 0 where
  pub how : Status
  pub answer : result ≡ status_number how
  pub between : ErrorOutput E
  pub counted : IsCounted seen how before after root words s t old between
  pub line : Tells seen between (status_pieces how) new
