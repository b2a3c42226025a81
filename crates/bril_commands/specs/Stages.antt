-- What each stage on the way to a command's work answers: why it refuses, and what it hands on.
use Rattle.std.specs.Prelude.{ℕ, ◌≡◌, ◌⊎◌, List}
use Rattle.bril_checker.specs.Faults as checker
use Rattle.bril_checker.specs.declared.fault.CheckFault.{CheckFault}
use Rattle.bril_outside.specs.Files.{FilesSeen}
use Rattle.bril_report.specs.StageFaults.{link_status}
use Rattle.bril_report.specs.declared.status.Status.TheVariants as status
use Rattle.bril_report.specs.declared.status.Status.{Status}
use Rattle.bril_tree.specs.Accepted.{IsAccepted}
use Rattle.bril_tree.specs.Size.{IsCounted}
use Rattle.bril_tree.specs.declared.program.Prog.{Prog}
use Rattle.bril_tree.specs.declared.tree.Tree.{Tree}
use Rattle.import_linker.specs.declared.fault.LinkFault.{LinkFault}
use Rattle.bril_commands.specs.Source.{Reach, RefusesFiles, IsOnlyNameFault, IsOnlyProgram, HasOnlyCheckFault}

-- why the files of a command have no tree
abbrev pub RefusesTree : Reach → Status → FilesSeen → FilesSeen → List ℕ → Type 0
RefusesTree reach how f g path = (why : LinkFault) × (how ≡ link_status why) × RefusesFiles reach why f g path

-- why a tree was not numbered
abbrev pub RefusesNames : Status → Tree → Type 0
RefusesNames (status.Misnamed fault) tree = IsOnlyNameFault tree fault
RefusesNames status.OutOfMemory tree = Unit {0}
RefusesNames _ tree = ⊥

-- The program is accepted, and has no fault.
pub record IsFaultless (p : Prog) : Type 0 where
  pub accepted : IsAccepted p
  pub faultless : (fault : CheckFault) → checker.HasFault p fault → ⊥

-- why a program was not accepted: memory runs out only for the checker, or where no numbers of 32 bits count its parts
abbrev pub RefusesCheck : Status → Prog → Type 0
RefusesCheck (status.Unaccepted program fault) p = (program ≡ p) × HasOnlyCheckFault p fault
RefusesCheck status.OutOfMemory p = (¬ IsCounted p) ⊎ checker.TakesMemory p
RefusesCheck _ p = ⊥

-- why a tree has no accepted program
abbrev pub RefusesProgram : Status → Tree → Type 0
RefusesProgram (status.Misnamed fault) tree = IsOnlyNameFault tree fault
RefusesProgram (status.Unaccepted program fault) tree = IsOnlyProgram tree program × HasOnlyCheckFault program fault
RefusesProgram status.OutOfMemory tree = Unit {0}
RefusesProgram _ tree = ⊥

-- The program is the tree's, and accepted.
pub record IsAcceptedProgram (tree : Tree) (p : Prog) : Type 0 where
  pub only : IsOnlyProgram tree p
  pub sound : IsFaultless p
