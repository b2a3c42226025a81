-- The lines of one item that a path lays.
use Rattle.std.specs.Prelude.{◌≡◌, ℕ, suc, true, false, List, [], ◌∷◌, Option}
use Rattle.bril_tree.specs.declared.function_tree.Item.{Item}
use Rattle.trace_laws.specs.lines.Lines.{TraceNames, args_in, bool_type, guard_line, not_line}
use Rattle.pass_edit_laws.specs.plan.Lines.{listed_item}
use Rattle.trace_laws.specs.lines.Names.{trace_bases}
use Rattle.pass_edit_laws.specs.labels.Fresh.{IsFresh}
use Rattle.trace_paths.specs.Path.{Leg, Straight, Turn}

-- the number of the next `not` behind an item
abbrev pub nots_behind : ℕ → Leg → ℕ
nots_behind n (Straight i) = n
nots_behind n (Turn i true) = n
nots_behind n (Turn i false) = suc n

-- the lines of an item, by the function's items at their points
abbrev pub one_leg : (ℕ → Option Item) → TraceNames → ℕ → Leg → List Item
one_leg tree names n (Straight i) = listed_item (tree i)
one_leg tree names n (Turn i true) = guard_line (args_in (tree i)) names.bail ∷ []
one_leg tree names n (Turn i false) = not_line bool_type (names.nots n) (args_in (tree i)) ∷ guard_line (names.nots n ∷ []) names.bail ∷ []

-- The trace of this number goes to the label where a guard fails, and its `not`s have names that are fresh among the variables.
pub record AreGuardNames (variables : List (List ℕ)) (K : ℕ) (to : List ℕ) (names : TraceNames) : Type 0 where
  pub bail : names.bail ≡ to
  pub nots : (n : ℕ) → IsFresh variables (trace_bases.not K (suc n)) (names.nots n)
