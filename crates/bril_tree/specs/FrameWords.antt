-- How many words a frame has.
use Rattle.std.specs.Prelude.{◌≡◌, ℕ, ◌+◌, ◌*◌, ◌≤◌, Bool, false, ◌==◌, List, length, count_by, Option, Some, None, slice_index}
use Rattle.std.specs.List.{list_any, range_with_len}
use Rattle.bril_tree.specs.declared.numbered.Instr.{Instr}
use Rattle.bril_tree.specs.declared.numbered.Instr.TheVariants.{Label, Const, Act}
use Rattle.bril_tree.specs.declared.numbered_function.Func.{Func}
use Rattle.bril_tree.specs.declared.operation.Op.{Op}
use Rattle.bril_tree.specs.declared.operation.Op.TheVariants as op
use Rattle.bril_tree.specs.Edge.{Branch}
use Rattle.bril_tree.specs.Sites.{sites_of}
use Rattle.bril_tree.specs.Walk.{IsWalk}

abbrev pub is_number : ℕ → Option ℕ → Bool
is_number x None = false
is_number x (Some y) = x == y

abbrev pub operation_names_shadow : ℕ → Op → Option ℕ → List ℕ → Bool
operation_names_shadow x op.Get dest args = is_number x dest
operation_names_shadow x op.Set dest args = x == slice_index args 0
operation_names_shadow x _ dest args = false

-- the item is a `get` or a `set` of the shadow of the variable
abbrev pub names_shadow : ℕ → Instr → Bool
names_shadow x (Label l) = false
names_shadow x (Const dest ty value) = false
names_shadow x (Act dest ty operation args funcs labels) = operation_names_shadow x operation dest args

-- the number of a function's locations: its variables, and those shadows that some `get` or `set` names
abbrev pub location_count : Func → ℕ
location_count f = length f.vars + count_by (λ x. list_any (names_shadow x) f.code) (range_with_len 0 (length f.vars))

-- The greatest number of sites that are open at the end of a walk.
pub record IsDepth (code : List Instr) (depth : ℕ) : Type 0 where
  pub deepest : List Branch
  pub is : IsWalk code deepest
  pub reaches : length (sites_of code deepest) ≡ depth
  pub most : (walk : List Branch) → IsWalk code walk → length (sites_of code walk) ≤ depth

-- the words at the head of each frame: the way back, a pc in bytes, and where the caller's frame is
abbrev pub frame_head : ℕ
frame_head = 2

-- Those at its head, and one for each location as it is and as it was at each open site.
pub record AreFrameWords (f : Func) (words : ℕ) : Type 0 where
  pub depth : ℕ
  pub is : IsDepth f.code depth
  pub are : words ≡ frame_head + location_count f * (1 + depth)
