-- What is put after the label of an entry: the items of its path, laid between a `speculate` and its `commit`.
use Rattle.std.specs.Prelude.{ℕ, suc, true, false, List, [], ◌∷◌, ◌++◌, Option, Some, None}
use native.Mathlib.Nat.{min-le_right}
use Rattle.bril_tree.specs.declared.function_tree.Item.{Item}
use Rattle.bril_tree.specs.declared.function_tree.Item.TheVariants as item
use Rattle.bril_tree.specs.declared.operation.Op.TheVariants as op
use Rattle.bril_tree.specs.declared.types.Base.TheVariants as base
use Rattle.bril_tree.specs.declared.types.Ty.{Ty}
use Rattle.bril_tree.specs.Numbered.{typed_name}
use Rattle.pass_edit_laws.specs.plan.Lines.{jmp_line, listed_item}
use Rattle.trace_paths.specs.Path.{Leg, Straight, Turn}

-- The names of one trace: of the label behind it, to which its guards go; of the label to which it jumps; and of the variables of
-- its `not`s, from 0.
pub record TraceNames : Type 0 where
  pub bail : List ℕ
  pub stop : List ℕ
  pub nots : ℕ → List ℕ

abbrev pub bool_type : Ty
bool_type = record { depth = 0; base = base.Bool; nests = min-le_right 0 32 }

-- ---- items

abbrev pub speculate_line : Item
speculate_line = item.Act None op.Speculate [] [] []

abbrev pub commit_line : Item
commit_line = item.Act None op.Commit [] [] []

abbrev pub guard_line : List (List ℕ) → List ℕ → Item
guard_line args bail = item.Act None op.Guard args [] (bail ∷ [])

-- the type is that of what is assigned
abbrev pub not_line : Ty → List ℕ → List (List ℕ) → Item
not_line bool name args = item.Act (Some (typed_name name bool)) op.Not args [] []

-- the arguments of an item
abbrev pub args_in : Option Item → List (List ℕ)
args_in None = []
args_in (Some (item.Label name)) = []
args_in (Some (item.Const dest ty value)) = []
args_in (Some (item.Act dest operation args funcs labels)) = args

-- ---- a trace

-- by the items of the function at their points
module _ (bool : Ty) (tree : ℕ → Option Item) (names : TraceNames) where
  -- The laid items. In place of a `br` stands a `guard` of its condition, or, where the second label was taken, a `not` of the
  -- condition and a `guard` of that. The next `not` is that of number n.
  abbrev pub leg_lines : ℕ → List Leg → List Item
  leg_lines n [] = []
  leg_lines n (Straight i ∷ legs) = listed_item (tree i) ++ leg_lines n legs
  leg_lines n (Turn i true ∷ legs) = guard_line (args_in (tree i)) names.bail ∷ leg_lines n legs
  leg_lines n (Turn i false ∷ legs) = not_line bool (names.nots n) (args_in (tree i)) ∷ guard_line (names.nots n ∷ []) names.bail ∷ leg_lines (suc n) legs

  abbrev pub end_lines : List Item
  end_lines = commit_line ∷ jmp_line names.stop ∷ item.Label names.bail ∷ []

  abbrev pub trace_lines : List Leg → List Item
  trace_lines legs = speculate_line ∷ (leg_lines 0 legs ++ end_lines)
