-- The file with a script that the words name: its orders, or why there are none.
use Rattle.std.specs.Prelude.{ℕ, ◌≡◌, ◌<◌, ◌≤◌, List, [], length, Option, Some, None}
use Rattle.bril_outside.specs.Files.{FileMap, FilesSeen, MayFail, MayHold}
use Rattle.bril_report.specs.declared.status.Status.TheVariants as status
use Rattle.bril_report.specs.declared.status.Status.{Status}
use Rattle.monitor_script.specs.Fault.{IsFirstFault}
use Rattle.monitor_script.specs.Form.{IsScript}
use Rattle.monitor_script.specs.declared.order.Order.{Order}

-- the most bytes that the file of a script may have
abbrev pub most_script_bytes : ℕ
most_script_bytes = 1048576

-- The bytes at the path are few enough, and the text of these orders.
pub record HoldsScript (holds : Option FileMap) (path : List ℕ) (orders : List Order) : Type 0 where
  pub bytes : List ℕ
  pub held : MayHold holds path bytes
  pub short : length bytes ≤ most_script_bytes
  pub text : IsScript bytes orders

-- The bytes at the path are few enough, and this line, from 1, is the first that breaks the form.
pub record HoldsBrokenScript (holds : Option FileMap) (path : List ℕ) (line : ℕ) : Type 0 where
  pub bytes : List ℕ
  pub held : MayHold holds path bytes
  pub short : length bytes ≤ most_script_bytes
  pub broken : IsFirstFault bytes line

-- There are too many bytes at the path.
pub record HoldsLongScript (holds : Option FileMap) (path : List ℕ) : Type 0 where
  pub bytes : List ℕ
  pub held : MayHold holds path bytes
  pub long : most_script_bytes < length bytes

-- why no script was read of the file at a path
abbrev pub RefusesScriptFile : Status → FilesSeen → FilesSeen → List ℕ → Type 0
RefusesScriptFile (status.CannotRead other) before after path = (other ≡ path) × MayFail before after path
RefusesScriptFile status.ScriptTooLarge before after path = HoldsLongScript before.holds path
RefusesScriptFile (status.MisreadScript line) before after path = HoldsBrokenScript before.holds path line
RefusesScriptFile status.OutOfMemory before after path = Unit {0}
RefusesScriptFile _ before after path = ⊥

-- ---- where there may be no file

-- these are the orders; where no file is named there are none
abbrev pub IsScriptAt : Option (List ℕ) → Option FileMap → List Order → Type 0
IsScriptAt None holds orders = orders ≡ []
IsScriptAt (Some path) holds orders = HoldsScript holds path orders

-- why there are none
abbrev pub RefusesScript : Option (List ℕ) → Status → FilesSeen → FilesSeen → Type 0
RefusesScript None how before after = ⊥
RefusesScript (Some path) how before after = RefusesScriptFile how before after path
