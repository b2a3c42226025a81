-- Pairs of variables that meet: one is assigned while the other is live.
use Rattle.std.specs.Prelude.{◌≡◌, ◌⊎◌, ◌↔◌, ◌+◌, ◌-◌, ◌^◌, ◌<◌, ◌≤◌, Bool, true, ℕ, suc, nat_lt, List, length, Option, Some, None, slice_index, slice_index_or, if◌then◌else◌}
use Rattle.std.specs.List.{Contains}
use Rattle.bril_tree.specs.declared.numbered.Instr.{Instr}
use Rattle.bril_tree.specs.declared.numbered_function.Func.{Func}
use Rattle.bril_tree.specs.Live.{IsLive}
use Rattle.bril_tree.specs.Operand.{Variable}
use Rattle.bril_tree.specs.Walk.{IsReached}
use Rattle.flow_graph.specs.Accesses.{Accesses}
use Rattle.flow_graph.specs.Graph.{GraphView, IsGraphOf}
use Rattle.flow_graph.specs.declared.reads.Access.{Access}
use Rattle.graph_search.specs.Marks.{is_marked}
use Rattle.graph_search.specs.Sets.{has_bit}
use Rattle.variable_coloring.specs.LiveWords.{variable_in}
use Rattle.variable_renaming.specs.Clashes.{Clashes}

-- some item assigns one of them while the other is live
pub record Meet (code : List Instr) (x y : ℕ) : Type 0 where
  pub item : ℕ
  pub clash : Clashes code item x y ⊎ Clashes code item y x

-- two variables of the function that meet, the larger one first
pub record IsPair (F : Func) (x y : ℕ) : Type 0 where
  pub order : y < x
  pub below : x < length F.vars
  pub meet : Meet F.code x y

-- the list has the pairs, each in the row of its larger variable, and no others
abbrev pub ArePairs : Func → List Access → Type 0
ArePairs F list = (x y : ℕ) → Accesses list x y ↔ IsPair F x y

-- ---- how they are found

-- the smaller of two variables, in the row of the larger one
abbrev pub pair : (x y : ℕ) → Access
pair x y = if nat_lt x y then record { item = x; location = y } else record { item = y; location = x }

-- a pair of variables that meet
abbrev pub IsPairOf : Func → Access → Type 0
IsPairOf F a = IsPair F a.location a.item

-- the pair of x and y was added, if anything
pub record AddsPair (x y : ℕ) (old new : List Access) : Type 0 where
  pub kept : (a : Access) → Contains old a → Contains new a
  pub only : (a : Access) → Contains new a → Contains old a ⊎ (pair x y ≡ a)
  pub there : Contains new (pair x y)

-- The pairs were added of variables of a block and of what items before points assign, and no others: of those variables and points of
-- which a fact holds.
pub record AddsPairs (F : Func) (block : ℕ) (P : (k point : ℕ) → Type 0) (old new : List Access) : Type 0 where
  pub kept : (a : Access) → Contains old a → Contains new a
  pub only : (a : Access) → Contains new a → Contains old a ⊎ IsPairOf F a
  pub all : (item y k : ℕ) → P k (suc item) → Clashes F.code item y (variable_in block k) → Contains new (pair (variable_in block k) y)

-- a number and a word for each of so many variables: a bit of the word is set only where the variable's pair with that variable of the
-- block before the number is there
pub record AreDone (count : ℕ) (list : List Access) (blocks words : List ℕ) : Type 0 where
  pub long : length blocks ≡ count
  pub words_long : length words ≡ count
  pub there : (y block k : ℕ) → slice_index blocks y ≡ suc block → has_bit (slice_index words y) k ≡ true → Contains list (pair (variable_in block k) y)

-- each variable of the block whose bit is set is live at the point
abbrev pub LiveBits : Func → (block word point : ℕ) → Type 0
LiveBits F block word point = (k : ℕ) → k < 64 → has_bit word k ≡ true → IsLive F.code (Variable (variable_in block k)) point

-- a place for each point, with the variable that the item before the point assigns where it clashes with any
pub record AreDests (code : List Instr) (dests : List (Option ℕ)) : Type 0 where
  pub long : length dests ≡ length code + 1
  pub tells : (item y x : ℕ) → Clashes code item y x → slice_index_or dests (suc item) None ≡ Some y

-- What the search goes by: the function's graph and a mark for each variable. What is live is a variable of the function, and walks go on
-- behind what clashes.
pub record IsPrepared (F : Func) (graph : GraphView) (marks : List Bool) : Type 0 where
  pub is_graph : IsGraphOf F.code graph
  pub marked : (y : ℕ) → y < length F.vars → is_marked marks y ≡ true
  pub few : length F.vars ≤ 2 ^ 32 - 1
  pub below : (x point : ℕ) → IsLive F.code (Variable x) point → x < length F.vars
  pub goes_on : (item x y : ℕ) → Clashes F.code item x y → IsReached F.code (suc item)
