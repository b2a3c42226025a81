-- The program that a command's list of passes makes with the profile of the file that the words name, or why it makes none.
use Rattle.std.specs.Prelude.{ℕ, ◌⊎◌, List, Option}
use Rattle.bril_outside.specs.Files.{FileMap, FilesSeen}
use Rattle.bril_profile.specs.declared.profile.Entry.{Entry}
use Rattle.bril_report.specs.declared.status.Status.{Status}
use Rattle.bril_tree.specs.declared.program.Prog.{Prog}
use Rattle.bril_commands.specs.PassList.{PassList, AreUnused, IsMade, RefusesList}
use Rattle.bril_commands.specs.ProfileFiles.{IsProfileAt, RefusesProfile}

-- These are the entries of the profile, and the list made q of p with them.
pub record IsMadeWith (l : PassList) (named : Option (List ℕ)) (holds : Option FileMap) (p q : Prog) : Type 0 where
  pub entries : List Entry
  pub profiled : IsProfileAt named holds entries
  pub made : IsMade l entries p q

-- the profile was not read, and no pass ran; or it has these entries, and the list makes no program with them
abbrev pub RefusesMadeWith : Status → PassList → Option (List ℕ) → FilesSeen → FilesSeen → Prog → Type 0
RefusesMadeWith how l named before after p =
    (RefusesProfile named how before after × AreUnused l) ⊎ ((entries : List Entry) × IsProfileAt named before.holds entries × RefusesList how l entries p)
