-- What is told of a program's first fault.
use Rattle.std.specs.Prelude.{ℕ, ◌≡◌, ◌≢◌, ◌⊎◌, List, [], ◌∷◌, Option, Some}
use Rattle.bril_outside.specs.Files.{FileMap, FilesSeen}
use Rattle.bril_outside.specs.Sink.{SinkSeen}
use Rattle.bril_commands.specs.Source.{WithImports, IsProgramOf, IsTreeAt}
use Rattle.bril_commands.specs.Stages.{RefusesProgram, RefusesTree}
use Rattle.bril_report.specs.Report.{status_number, status_pieces}
use Rattle.bril_report.specs.Told as told
use Rattle.bril_report.specs.declared.error_output.ErrorOutput.{ErrorOutput}
use Rattle.bril_report.specs.declared.status.Status.{Status}
use Rattle.bril_report.specs.declared.status.Status.TheVariants as status
use Rattle.bril_tree.specs.declared.program.Prog.{Prog}
use Rattle.bril_tree.specs.declared.tree.Tree.{Tree}
use Rattle.import_linker.specs.Names.{clash, not_there}
use Rattle.import_linker.specs.Reading.{IsMisread}
use Rattle.import_linker.specs.Refusing.{IsMisnamed}
use Rattle.bril_explain.specs.Kept.{AreOf}
use Rattle.bril_explain.specs.Message.{IsMessage}
use Rattle.bril_explain.specs.Locate.{IsLocated}
use Rattle.bril_explain.specs.Target.{fault_name, fault_path, target_of}
use Rattle.bril_explain.specs.Words.{help, problem}
use Rattle.bril_explain.specs.declared.explanation.Explanation.{Explanation}
use Rattle.bril_explain.specs.declared.located.Located.{Located}

-- ---- why a program is refused

-- the tree of its files has no accepted program
pub record RefusesLinked (how : Status) (holds : Option FileMap) (root : List ℕ) : Type 0 where
  pub tree : Tree
  pub is : IsTreeAt WithImports holds root tree
  pub refuses : RefusesProgram how tree

-- The program whose first file is at the path is refused with this status, as by `check`: its files have no tree, or their tree has no
-- accepted program.
abbrev pub Refuses : Status → FilesSeen → FilesSeen → List ℕ → Type 0
Refuses how before after root = RefusesTree WithImports how before after root ⊎ RefusesLinked how before.holds root

-- the fault of a status is that of the program of files with these bytes, where it is one of what files say
abbrev pub IsFaultOf : Status → FileMap → List ℕ → Type 0
IsFaultOf (status.Misread path why) map root = IsMisread (Some map) root path why
IsFaultOf (status.NotThere path name) map root = IsMisnamed (Some map) root path (not_there name)
IsFaultOf (status.Clash path name) map root = IsMisnamed (Some map) root path (clash name)
IsFaultOf (status.Misnamed why) map root = RefusesLinked (status.Misnamed why) (Some map) root
IsFaultOf (status.Unaccepted p why) map root = RefusesLinked (status.Unaccepted p why) (Some map) root
IsFaultOf _ map root = Unit {0}

-- ---- what is told

-- the message says what is wrong where the fault of the status stands in these bytes, and what would mend it
pub record Tells (map : FileMap) (root : List ℕ) (how : Status) (message : List ℕ) : Type 0 where
  pub there : Located
  pub located : IsLocated map root (fault_path root how) (fault_name how) (target_of how) there
  pub is : IsMessage there (problem how) (help how) message

-- The program is refused with the status for its first fault, memory not wanting, and the message is on this fault: by the bytes that were
-- read, which are those that the files hold where they tell them.
pub record Explains (before after : FilesSeen) (root : List ℕ) (e : Explanation) : Type 0 where
  pub lasting : e.status ≢ status.OutOfMemory
  pub refuses : Refuses e.status before after root
  pub map : FileMap
  pub read : AreOf before.holds map
  pub fault : IsFaultOf e.status map root
  pub tells : Tells map root e.status e.message

-- The program is accepted, the answer 0, and nothing is told.
pub record IsSilent {E : Type 0} (result : ℕ) (before : FilesSeen) (root : List ℕ) (old new : ErrorOutput E) : Type 0 where
  pub answer : result ≡ 0
  pub p : Prog
  pub accepted : IsProgramOf WithImports before.holds root p
  pub silent : new ≡ old

-- The program is refused, the answer is the number of the status, and the message on the fault is told by one put.
pub record IsRefused {E : Type 0} (seen : E → SinkSeen) (result : ℕ) (before after : FilesSeen) (root : List ℕ) (old new : ErrorOutput E) : Type 0 where
  pub e : Explanation
  pub explains : Explains before after root e
  pub answer : result ≡ status_number e.status
  pub tells : told.Tells seen old (e.message ∷ []) new

-- Memory is wanting, the answer 71, and its line is told.
pub record IsCutOff {E : Type 0} (seen : E → SinkSeen) (result : ℕ) (old new : ErrorOutput E) : Type 0 where
  pub answer : result ≡ 71
  pub tells : told.Tells seen old (status_pieces status.OutOfMemory) new

abbrev pub IsExplained : {E : Type 0} → (E → SinkSeen) → ℕ → FilesSeen → FilesSeen → List ℕ → ErrorOutput E → ErrorOutput E → Type 0
IsExplained seen result before after root old new =
    IsSilent result before root old new ⊎ (IsRefused seen result before after root old new ⊎ IsCutOff seen result old new)
