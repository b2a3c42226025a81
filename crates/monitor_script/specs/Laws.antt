-- The laws of scripts.
use Rattle.std.specs.Prelude.{◌≡◌, ℕ, List}
use Rattle.monitor_script.specs.declared.order.Order.{Order}
use Rattle.monitor_script.specs.Form.{IsScript}
use Rattle.monitor_script.specs.Fault.{IsFirstFault}

-- a text is one script's
abbrev pub ScriptsDiffer : Type 0
ScriptsDiffer = (source : List ℕ) (orders others : List Order) → IsScript source orders → IsScript source others → orders ≡ others

-- a source has one first line that breaks the form
abbrev pub FaultsAreOne : Type 0
FaultsAreOne = (source : List ℕ) (m n : ℕ) → IsFirstFault source m → IsFirstFault source n → m ≡ n

-- the text of a script has none
abbrev pub ScriptsHaveNoFault : Type 0
ScriptsHaveNoFault = (source : List ℕ) (orders : List Order) (line : ℕ) → IsScript source orders → IsFirstFault source line → ⊥
