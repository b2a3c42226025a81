-- The text of a script, and what its orders keep.
use Rattle.std.specs.Fmt.{decimal}
use Rattle.std.specs.Prelude.{◌≡◌, ◌≢◌, ℕ, ◌<◌, ◌^◌, List, [], ◌∷◌, ◌++◌, All, IsTrue, codes}
use Rattle.std.specs.List.{flat_map}
use Rattle.bril_tree.specs.Identifier.{is_identifier}
use Rattle.monitor_script.specs.declared.order.Order.{Order}
use Rattle.monitor_script.specs.declared.order.Order.TheVariants.{Break, Clear, Go, Step, Show}
use Rattle.monitor_script.specs.declared.order_text.OrderRef.{OrderRef}
use Rattle.monitor_script.specs.declared.order_text.OrderRef.TheVariants as text

-- the byte is none of these
abbrev pub Lacks : ℕ → List ℕ → Type 0
Lacks byte bytes = All (λ b. b ≢ byte) bytes

-- ---- orders

-- what stands behind `@`
abbrev pub point_text : (func : List ℕ) → (item : ℕ) → List ℕ
point_text func item = func ++ 32 ∷ decimal item

-- the line of an order, without its LF
abbrev pub order_line : Order → List ℕ
order_line (Break func item) = codes "break @" ++ point_text func item
order_line (Clear func item) = codes "clear @" ++ point_text func item
order_line Go = codes "go"
order_line Step = codes "step"
order_line Show = codes "show"

-- The function is named by an identifier, and the item is below 2^32.
pub record IsPoint (func : List ℕ) (item : ℕ) : Type 0 where
  pub named : IsTrue (is_identifier func)
  pub low : item < 2 ^ 32

-- what an order keeps
abbrev pub IsOrder : Order → Type 0
IsOrder (Break func item) = IsPoint func item
IsOrder (Clear func item) = IsPoint func item
IsOrder Go = Unit {0}
IsOrder Step = Unit {0}
IsOrder Show = Unit {0}

-- the order whose name stands in a source
abbrev pub order_of : OrderRef → Order
order_of (text.Break func item) = Break func.now item
order_of (text.Clear func item) = Clear func.now item
order_of text.Go = Go
order_of text.Step = Step
order_of text.Show = Show

-- ---- scripts

-- the lines of the orders, each with LF behind it
abbrev pub script_text : List Order → List ℕ
script_text orders = flat_map (λ order. order_line order ++ 10 ∷ []) orders

-- The source is the text of the script that has these orders.
pub record IsScript (source : List ℕ) (orders : List Order) : Type 0 where
  pub all : All IsOrder orders
  pub text : script_text orders ≡ source
