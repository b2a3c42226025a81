-- Where items stand in code that is laid out: each behind what was put in before it.
use Rattle.std.specs.Prelude.{◌≡◌, ℕ, ◌+◌, ◌<◌, ◌≤◌, List, [], length, Option, Some, None, slice_get}
use Rattle.bril_tree.specs.declared.function_tree.Item.{Item}
use Rattle.bril_tree.specs.declared.numbered_function.Func.{Func}
use Rattle.bril_tree.specs.Operand.{Location}
use Rattle.pass_edit_laws.specs.plan.Spliced.{position_of, start_of}
use Rattle.ssa_build.specs.code.Sweep.{IsLaidCode, LayoutView, before_at, item_at, now_at}

-- what stands before each item, with the arrays of the points
abbrev pub before_in : Func → List (Option (List ℕ)) → LayoutView → List (List ℕ) → ℕ → List Item
before_in F sites l nows i = before_at F sites l (now_at nows i) i

-- nothing stands behind an item
abbrev pub nothing : ℕ → List Item
nothing i = []

-- Each item of the function stands there as it was laid, and before it the pieces that were put in, in their order.
pub record ItemsStand (F : Func) (sites : List (Option (List ℕ))) (l : LayoutView) (nows : List (List ℕ)) (items made : List Item) : Type 0 where
  pub there : (i : ℕ) (x : Item) → slice_get items i ≡ Some x → slice_get made (position_of (before_in F sites l nows) nothing i) ≡ Some (item_at F sites l (now_at nows i) i x)
  pub in_front : (i n : ℕ) → i ≤ length items → n < length (before_in F sites l nows i) → slice_get made (start_of (before_in F sites l nows) nothing i + n) ≡ slice_get (before_in F sites l nows i) n
  -- nothing stands behind what was put in at the end
  pub end : slice_get made (position_of (before_in F sites l nows) nothing (length items)) ≡ None

-- So it is in all code that is laid out.
abbrev pub LaidItemsStand : Type 0
LaidItemsStand = (F : Func) (sites : List (Option (List ℕ))) (l : LayoutView) (gets : ℕ → Location → Option ℕ) (items made : List Item) → length items ≡ length F.code
    → (t : IsLaidCode F sites l gets items made) → ItemsStand F sites l t.nows items made
