-- The array of a sweep tells the tables of a function, from item to item.
use Rattle.std.specs.Prelude.{ℕ, suc, ◌+◌, List, Option, slice_get}
use Rattle.bril_tree.specs.declared.numbered.Instr.{Instr}
use Rattle.bril_tree.specs.Operand.{Location}
use Rattle.ssa_laws.specs.reaching_definitions.Tables.{else_passed}
use Rattle.ssa_laws.specs.reaching_definitions.Told.{argument, into_at, passed_by}
use Rattle.ssa_search.specs.renaming.Tells.{TellsNow}

-- where a function begins it tells what is told just before its first item
abbrev pub BeginsTold : List Instr → ℕ → (ℕ → Location → Option ℕ) → List ℕ → Type 0
BeginsTold code args gets now = TellsNow (argument args) now → TellsNow (into_at code args gets 0) now

-- behind an item and its `get`s it tells what is told just before the next one
abbrev pub GoesOnTold : List Instr → ℕ → (ℕ → Location → Option ℕ) → List ℕ → Type 0
GoesOnTold code args gets now = (i : ℕ) → TellsNow (λ a. else_passed (gets i a) (passed_by (slice_get code i) (args + i) (into_at code args gets i) a)) now → TellsNow (into_at code args gets (suc i)) now

-- So it does for all items of a function.
abbrev pub SweepTellsTables : Type 0
SweepTellsTables = (code : List Instr) (args : ℕ) (gets : ℕ → Location → Option ℕ) (now : List ℕ) → BeginsTold code args gets now × GoesOnTold code args gets now
