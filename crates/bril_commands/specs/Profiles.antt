-- The second file of a command: the profile that it gives to its list of passes, whose entries are those of the file that the words name, or of
-- a run of the program itself, or its script; or why there are none.
use Rattle.std.specs.Prelude.{ℕ, ◌≡◌, List, [], Option, Some, None}
use Rattle.bril_outside.specs.Files.{FileMap, FilesSeen}
use Rattle.bril_profile.specs.declared.profile.Entry.{Entry}
use Rattle.bril_report.specs.declared.status.Status.TheVariants as status
use Rattle.bril_report.specs.declared.status.Status.{Status}
use Rattle.bril_tree.specs.declared.program.Prog.{Prog}
use Rattle.bril_commands.specs.ProfileFiles.{IsProfileAt, IsProfileTold, RefusesProfile}
use Rattle.bril_commands.specs.Recording.{AreRecorded}
use Rattle.bril_commands.specs.Scripts.{IsScriptAt, RefusesScript}
use Rattle.monitor_script.specs.declared.order.Order.{Order}

-- where a command has its profile from
pub data ProfileSource : Type 0 where
  -- it takes none: it has no entries
  NoProfile : ProfileSource
  -- the file that the words name; where they name none, it has no entries
  NamedFile : ProfileSource
  -- it takes none, and the file that the words name has its script
  NamedScript : ProfileSource
  -- a run of the program itself, without arguments, so far: under limits of so many frames and cells, after so many steps at most; a label
  -- that was arrived at `hot` times has an entry, and there are `most` entries at most
  OwnRun : (frames cells steps hot most : ℕ) → ProfileSource

-- these are the entries of a program's profile, by the path that the words name
abbrev pub IsProfileFrom : ProfileSource → Option (List ℕ) → Option FileMap → Prog → List Entry → Type 0
IsProfileFrom NoProfile named holds p entries = entries ≡ []
IsProfileFrom NamedFile named holds p entries = IsProfileAt named holds entries
IsProfileFrom NamedScript named holds p entries = (entries ≡ []) × ((orders : List Order) × IsScriptAt named holds orders)
IsProfileFrom (OwnRun frames cells steps hot most) named holds p entries = AreRecorded p [] frames cells steps hot most entries

-- these are the orders of its script, where it takes one
abbrev pub IsScriptFrom : ProfileSource → Option (List ℕ) → Option FileMap → List Order → Type 0
IsScriptFrom NamedScript named holds orders = IsScriptAt named holds orders
IsScriptFrom _ named holds orders = ⊥

-- why there are none; of a run there are, unless memory runs out
abbrev pub RefusesProfileFrom : ProfileSource → Option (List ℕ) → Status → FilesSeen → FilesSeen → Type 0
RefusesProfileFrom NoProfile named how before after = ⊥
RefusesProfileFrom NamedFile named how before after = RefusesProfile named how before after
RefusesProfileFrom NamedScript named how before after = RefusesScript named how before after
RefusesProfileFrom (OwnRun frames cells steps hot most) named how before after = how ≡ status.OutOfMemory

-- the files are told, where one of them has the profile or the script
abbrev pub IsSourceTold : ProfileSource → Option (List ℕ) → Option FileMap → Type 0
IsSourceTold NoProfile named holds = Unit {0}
IsSourceTold NamedFile named holds = IsProfileTold named holds
IsSourceTold NamedScript named holds = IsProfileTold named holds
IsSourceTold (OwnRun frames cells steps hot most) named holds = Unit {0}
