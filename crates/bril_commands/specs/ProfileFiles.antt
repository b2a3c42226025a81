-- The file with a profile that the words name: its entries, or why there are none.
use Rattle.std.specs.Prelude.{ℕ, ◌≡◌, ◌<◌, ◌≤◌, List, [], length, Option, Some, None}
use Rattle.bril_outside.specs.Files.{FileMap, FilesSeen, MayFail, MayHold}
use Rattle.bril_profile.specs.declared.profile.Entry.{Entry}
use Rattle.bril_report.specs.declared.status.Status.TheVariants as status
use Rattle.bril_report.specs.declared.status.Status.{Status}
use Rattle.profile_text.specs.Fault.{IsFirstFault}
use Rattle.profile_text.specs.Form.{IsProfileText}

-- the most bytes that the file of a profile may have
abbrev pub most_profile_bytes : ℕ
most_profile_bytes = 1048576

-- ---- the file

-- The bytes at the path are few enough, and the text of these entries.
pub record HoldsProfile (holds : Option FileMap) (path : List ℕ) (entries : List Entry) : Type 0 where
  pub bytes : List ℕ
  pub held : MayHold holds path bytes
  pub short : length bytes ≤ most_profile_bytes
  pub text : IsProfileText bytes entries

-- The bytes at the path are few enough, and this line, from 1, is the first that breaks the form.
pub record HoldsBrokenLine (holds : Option FileMap) (path : List ℕ) (line : ℕ) : Type 0 where
  pub bytes : List ℕ
  pub held : MayHold holds path bytes
  pub short : length bytes ≤ most_profile_bytes
  pub broken : IsFirstFault bytes line

-- There are too many bytes at the path.
pub record HoldsLongProfile (holds : Option FileMap) (path : List ℕ) : Type 0 where
  pub bytes : List ℕ
  pub held : MayHold holds path bytes
  pub long : most_profile_bytes < length bytes

-- why no profile was read of the file at a path
abbrev pub RefusesProfileFile : Status → FilesSeen → FilesSeen → List ℕ → Type 0
RefusesProfileFile (status.CannotRead other) before after path = (other ≡ path) × MayFail before after path
RefusesProfileFile status.ProfileTooLarge before after path = HoldsLongProfile before.holds path
RefusesProfileFile (status.MisreadProfile line) before after path = HoldsBrokenLine before.holds path line
RefusesProfileFile status.OutOfMemory before after path = Unit {0}
RefusesProfileFile _ before after path = ⊥

-- ---- where there may be no file

-- these are the entries
abbrev pub IsProfileAt : Option (List ℕ) → Option FileMap → List Entry → Type 0
IsProfileAt None holds entries = entries ≡ []
IsProfileAt (Some path) holds entries = HoldsProfile holds path entries

-- why there are none
abbrev pub RefusesProfile : Option (List ℕ) → Status → FilesSeen → FilesSeen → Type 0
RefusesProfile None how before after = ⊥
RefusesProfile (Some path) how before after = RefusesProfileFile how before after path

-- the files are told, where there is one
abbrev pub IsProfileTold : Option (List ℕ) → Option FileMap → Type 0
IsProfileTold None holds = Unit {0}
IsProfileTold (Some path) holds = (map : FileMap) × (holds ≡ Some map)
