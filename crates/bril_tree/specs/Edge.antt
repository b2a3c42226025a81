-- Where control can go in a function. A point is the number of an item, or the number of items for the end.
use Rattle.std.specs.Prelude.{ℕ, suc, Bool, true, false, List, [], ◌∷◌, map, Option, Some, None, slice_get}
use Rattle.bril_tree.specs.declared.numbered.Instr.{Instr}
use Rattle.bril_tree.specs.declared.numbered.Instr.TheVariants.{Label, Const, Act}
use Rattle.bril_tree.specs.declared.operation.Op.{Op}
use Rattle.bril_tree.specs.declared.operation.Op.TheVariants as op
use Rattle.bril_tree.specs.Step.{point_of}

-- The point of an item, a point to which control can go from there, and whether that is the abort of a guard.
pub record Branch : Type 0 where
  pub from : ℕ
  pub to : ℕ
  pub aborts : Bool

-- on to the next point
abbrev pub onward : ℕ → Branch
onward p = record { from = p; to = suc p; aborts = false }

-- to the point of a label, which is found by searching the items
abbrev pub jump : List Instr → ℕ → ℕ → Branch
jump code p label = record { from = p; to = point_of label code; aborts = false }

abbrev pub abort : List Instr → ℕ → ℕ → Branch
abort code p label = record { from = p; to = point_of label code; aborts = true }

abbrev pub action_branches : List Instr → ℕ → Op → List ℕ → List Branch
action_branches code p op.Jmp labels = map (jump code p) labels
action_branches code p op.Br labels = map (jump code p) labels
action_branches code p op.Ret labels = []
action_branches code p op.Guard labels = onward p ∷ map (abort code p) labels
action_branches code p _ labels = onward p ∷ []

abbrev pub item_branches : List Instr → ℕ → Instr → List Branch
item_branches code p (Label l) = onward p ∷ []
item_branches code p (Const dest ty value) = onward p ∷ []
item_branches code p (Act dest ty operation args funcs labels) = action_branches code p operation labels

-- The branches from a point: the next point before a label, and of two labels the first one first. The
-- function's end has none.
abbrev pub branches_from : List Instr → ℕ → Option Instr → List Branch
branches_from code p None = []
branches_from code p (Some item) = item_branches code p item

abbrev pub branches_at : List Instr → ℕ → List Branch
branches_at code p = branches_from code p (slice_get code p)

-- Control doesn't go on from the item to the next point, also where a jump leads there.
abbrev pub leads_away : Option Instr → Bool
leads_away None = false
leads_away (Some (Label l)) = false
leads_away (Some (Const dest ty value)) = false
leads_away (Some (Act dest ty op.Jmp args funcs labels)) = true
leads_away (Some (Act dest ty op.Br args funcs labels)) = true
leads_away (Some (Act dest ty op.Ret args funcs labels)) = true
leads_away (Some (Act dest ty _ args funcs labels)) = false
