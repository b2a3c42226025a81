-- The first line of a source that breaks the form.
use Rattle.std.specs.Prelude.{◌≡◌, ◌≢◌, ℕ, suc, List, [], ◌∷◌, ◌++◌, All, length}
use Rattle.monitor_script.specs.declared.order.Order.{Order}
use Rattle.monitor_script.specs.declared.fault.ScriptFault.{ScriptFault}
use Rattle.monitor_script.specs.declared.fault.ScriptFault.TheVariants.{Line, Memory}
use Rattle.monitor_script.specs.Form.{IsOrder, IsScript, order_line, script_text}

-- no line of an order stands at the front, with its LF
abbrev pub HasNoOrder : List ℕ → Type 0
HasNoOrder rest = (order : Order) (after : List ℕ) → IsOrder order → rest ≡ order_line order ++ 10 ∷ after → ⊥

-- The lines before this one, counted from 1, are those of orders. This one has a byte at least, and it is no order's, or doesn't
-- end with LF.
pub record IsFirstFault (source : List ℕ) (line : ℕ) : Type 0 where
  pub before : List Order
  pub rest : List ℕ
  pub is : source ≡ script_text before ++ rest
  pub place : line ≡ suc (length before)
  pub begun : All IsOrder before
  pub broken : HasNoOrder rest
  pub there : rest ≢ []

-- The source is the text of a script.
pub record IsScriptText (source : List ℕ) : Type 0 where
  pub orders : List Order
  pub text : IsScript source orders

-- what a source's fault says of it; memory may be wanting for any text of a script
abbrev pub IsFaultOf : List ℕ → ScriptFault → Type 0
IsFaultOf source (Line line) = IsFirstFault source line
IsFaultOf source Memory = IsScriptText source
