-- The layout of a function's code by one sweep over its items, with an array that tells the definition of each location.
use Rattle.std.specs.Prelude.{◌≡◌, ℕ, zero, suc, ◌+◌, ◌<◌, ◌≤◌, ◌&&◌, Bool, true, false, nat_le, List, [], ◌∷◌, ◌++◌, length, map, Option, Some, None, slice_get, slice_index, slice_index_or, slice_range, if◌then◌else◌}
use Rattle.std.specs.List.{flat_map}
use Rattle.bril_tree.specs.declared.function_tree.Item.{Item}
use Rattle.bril_tree.specs.declared.numbered.Instr.{Instr}
use Rattle.bril_tree.specs.declared.numbered.Instr.TheVariants.{Label, Const, Act}
use Rattle.bril_tree.specs.declared.numbered.VarInfo.{VarInfo}
use Rattle.bril_tree.specs.declared.numbered_function.Func.{Func}
use Rattle.bril_tree.specs.declared.operation.Op.TheVariants as op
use Rattle.bril_tree.specs.Operand.{Location}
use Rattle.ssa_build.specs.code.Items.{get_items, kept, laid_item, name_in, read_name, set_items}
use Rattle.ssa_search.specs.renaming.Gets.{AreGetsOf}
use Rattle.ssa_search.specs.renaming.Tells.{TellsNow}
use Rattle.ssa_search.specs.declared.renaming.now.WantedGet.{WantedGet}
use Rattle.ssa_laws.specs.reaching_definitions.Tables.{behind}
use Rattle.ssa_laws.specs.reaching_definitions.Told.{argument, table_of}

-- ---- what the layout is made by

-- The wanted `get`s stand in one list, and those behind point k from `starts k` on up to the next start; `rows` has for each point the
-- labels for which `set`s stand before it.
pub record LayoutView : Type 0 where
  pub vars : List VarInfo
  pub names : List (List ℕ)
  pub find : List ℕ
  pub starts : List ℕ
  pub list : List WantedGet
  pub rows : List (List ℕ)

abbrev pub layout_of : List VarInfo → (names : List (List ℕ)) → (find starts : List ℕ) → List WantedGet → (rows : List (List ℕ)) → LayoutView
layout_of vars names find starts list rows = record { vars = vars; names = names; find = find; starts = starts; list = list; rows = rows }

-- a part of a list; none where it isn't within it
abbrev pub part : List WantedGet → ℕ → ℕ → List WantedGet
part list from to = if nat_le from to && nat_le to (length list) then slice_range list from to else []

-- the wanted `get`s behind a point
abbrev pub row_in : List ℕ → List WantedGet → ℕ → List WantedGet
row_in starts list k = part list (slice_index starts k) (slice_index starts (k + 1))

-- those that stay
abbrev pub kept_at : LayoutView → ℕ → List WantedGet
kept_at l k = kept l.find (row_in l.starts l.list k)

-- ---- what stands before an item

-- the `get`s of the label before it
abbrev pub gets_before : LayoutView → ℕ → List Item
gets_before l zero = []
gets_before l (suc i) = get_items l.vars l.names (kept_at l i)

-- the `set`s of a label, with the definitions of an array
abbrev pub sets_to : LayoutView → List ℕ → ℕ → List Item
sets_to l now k = set_items l.names l.find now (kept_at l k)

-- those of the item, where that is a label which is entered from the item before it, or where the function starts
abbrev pub sets_falling : LayoutView → List ℕ → Bool → ℕ → List Item
sets_falling l now falls i = if falls then sets_to l now i else []

-- those of the labels to which edges leave from it
abbrev pub sets_leaving : LayoutView → List ℕ → List ℕ → List Item
sets_leaving l now row = flat_map (sets_to l now) row

abbrev pub before : LayoutView → List ℕ → Bool → ℕ → List Item
before l now falls i = gets_before l i ++ sets_falling l now falls i ++ sets_leaving l now (slice_index_or l.rows i [])

-- ---- items

-- the variables that an item names as arguments
abbrev pub item_args : Option Instr → List ℕ
item_args None = []
item_args (Some (Label l)) = []
item_args (Some (Const dest ty value)) = []
item_args (Some (Act dest ty o args funcs labels)) = args

-- walks lead to the point, by its open sites
abbrev pub reached_at : Option (Option (List ℕ)) → Bool
reached_at None = false
reached_at (Some None) = false
reached_at (Some (Some sites)) = true

-- control goes on from the item to the next one, and not by a label
abbrev pub goes_on : Option Instr → Bool
goes_on None = false
goes_on (Some (Label l)) = true
goes_on (Some (Const dest ty value)) = true
goes_on (Some (Act dest ty op.Jmp args funcs labels)) = false
goes_on (Some (Act dest ty op.Br args funcs labels)) = false
goes_on (Some (Act dest ty op.Ret args funcs labels)) = false
goes_on (Some (Act dest ty _ args funcs labels)) = true

-- the item is entered from the one before it, or is the first
abbrev pub falls_at : List Instr → List (Option (List ℕ)) → ℕ → Bool
falls_at code sites zero = true
falls_at code sites (suc p) = if reached_at (slice_get sites p) then goes_on (slice_get code p) else false

-- ---- all items

-- the array at a point
abbrev pub now_at : List (List ℕ) → ℕ → List ℕ
now_at nows i = slice_index_or nows i []

-- pieces for the items of a list, from a number on
abbrev pub laid_items : (ℕ → Item → List Item) → ℕ → List Item → List Item
laid_items piece i [] = []
laid_items piece i (x ∷ xs) = piece i x ++ laid_items piece (i + 1) xs

-- `sites` has the open sites of each point that walks reach.
module _ (F : Func) (sites : List (Option (List ℕ))) (l : LayoutView) where
  -- what stands before an item
  abbrev pub before_at : List ℕ → ℕ → List Item
  before_at now i = before l now (falls_at F.code sites i) i

  -- what stands in its place
  abbrev pub item_at : List ℕ → ℕ → Item → Item
  item_at now i x = laid_item (reached_at (slice_get sites i)) (map (read_name l.names l.find now) (item_args (slice_get F.code i))) (name_in l.names (F.args + i)) x

  -- both, with the array of its point
  abbrev pub piece_at : List (List ℕ) → ℕ → Item → List Item
  piece_at nows i x = before_at (now_at nows i) i ++ item_at (now_at nows i) i x ∷ []

  module _ (gets : ℕ → Location → Option ℕ) where
    -- the definition of a location just before an item, at a label too
    abbrev pub told : ℕ → Location → Option ℕ
    told zero = argument F.args
    told (suc i) = behind F.code (table_of F.code F.args gets) i

    -- the items so far are laid out; the array tells the tables of the next one
    pub record IsLaidSoFar (point : ℕ) (items made : List Item) (now : List ℕ) : Type 0 where
      pub nows : List (List ℕ)
      pub long : length nows ≡ point
      pub tells : (i : ℕ) → i < point → TellsNow (told i) (now_at nows i)
      pub is : made ≡ laid_items (piece_at nows) 0 items
      pub here : TellsNow (told point) now

    -- all items are laid out, each with an array that tells the tables of its point
    pub record IsLaidCode (items made : List Item) : Type 0 where
      pub nows : List (List ℕ)
      pub tells : (i : ℕ) → i ≤ length F.code → TellsNow (told i) (now_at nows i)
      pub is : made ≡ laid_items (piece_at nows) 0 items ++ before_at (now_at nows (length F.code)) (length F.code)

  -- the same for the definitions of any `get`s that stand in the rows
  abbrev pub AreGets : (ℕ → Location → Option ℕ) → Type 0
  AreGets gets = (k : ℕ) → AreGetsOf (gets k) (row_in l.starts l.list k)
