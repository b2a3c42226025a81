-- Items of code in SSA form: those of the function under the names of definitions, and the `get`s and `set`s put in between.
use Rattle.std.specs.Prelude.{ℕ, ◌*◌, ◌/◌, ◌==◌, Bool, List, [], ◌∷◌, map, filter, Option, Some, None, slice_index, slice_index_or, if◌then◌else◌}
use Rattle.std.specs.List.{flat_map}
use Rattle.bril_tree.specs.declared.function_tree.Dest.{Dest}
use Rattle.bril_tree.specs.declared.function_tree.Item.{Item}
use Rattle.bril_tree.specs.declared.function_tree.Item.TheVariants as item
use Rattle.bril_tree.specs.declared.numbered.VarInfo.{VarInfo}
use Rattle.bril_tree.specs.declared.operation.Op.TheVariants as op
use Rattle.bril_tree.specs.declared.types.Ty.{Ty}
use Rattle.bril_tree.specs.Numbered.{nop_item, typed_name}
use Rattle.bril_tree.specs.Typing.{variable_type}
use Rattle.ssa_search.specs.declared.renaming.now.WantedGet.{WantedGet}

-- ---- names

-- the name of a definition; `v` for a number past them all
abbrev pub name_in : List (List ℕ) → ℕ → List ℕ
name_in names y = slice_index_or names y (118 ∷ [])

-- what stands for the definition that a location has in an array
abbrev pub standing : List ℕ → List ℕ → ℕ → ℕ
standing find now location = slice_index find (slice_index now location)

-- the name under which an item reads a variable
abbrev pub read_name : List (List ℕ) → List ℕ → List ℕ → ℕ → List ℕ
read_name names find now x = name_in names (standing find now (2 * x))

-- ---- items of the function

-- a destination of another name
abbrev pub dest_with : List ℕ → Option Dest → Option Dest
dest_with name None = None
dest_with name (Some d) = Some (typed_name name d.ty)

-- what stands in place of an item that walks reach: it under these names, and a `nop` for a `get` or a `set`
abbrev pub moved_item : List (List ℕ) → List ℕ → Item → Item
moved_item args name (item.Label label) = item.Label label
moved_item args name (item.Const dest ty value) = item.Const name ty value
moved_item args name (item.Act dest op.Get old funcs labels) = nop_item
moved_item args name (item.Act dest op.Set old funcs labels) = nop_item
moved_item args name (item.Act dest o old funcs labels) = item.Act (dest_with name dest) o args funcs labels

-- what stands in place of one that no walk reaches: a `nop`, unless it is a label
abbrev pub unreached_item : Item → Item
unreached_item (item.Label label) = item.Label label
unreached_item (item.Const dest ty value) = nop_item
unreached_item (item.Act dest o args funcs labels) = nop_item

abbrev pub laid_item : Bool → List (List ℕ) → List ℕ → Item → Item
laid_item reached args name i = if reached then moved_item args name i else unreached_item i

-- ---- `get`s and `set`s

abbrev pub got_item : List ℕ → Ty → Item
got_item name ty = item.Act (Some (typed_name name ty)) op.Get [] [] []

abbrev pub put_item : List ℕ → List ℕ → Item
put_item name from = item.Act None op.Set (name ∷ from ∷ []) [] []

-- those of these `get`s that stay: each of them stands for itself
abbrev pub stays : List ℕ → WantedGet → Bool
stays find get = slice_index find get.definition == get.definition

abbrev pub kept : List ℕ → List WantedGet → List WantedGet
kept find gets = filter (stays find) gets

-- the item of a `get`, where its location has a type
abbrev pub typed_get : Option Ty → List ℕ → List Item
typed_get None name = []
typed_get (Some ty) name = got_item name ty ∷ []

abbrev pub get_item : List VarInfo → List (List ℕ) → WantedGet → List Item
get_item vars names get = typed_get (variable_type vars (get.location / 2)) (name_in names get.definition)

-- the items of these `get`s
abbrev pub get_items : List VarInfo → List (List ℕ) → List WantedGet → List Item
get_items vars names gets = flat_map (get_item vars names) gets

-- the `set` of a `get`'s variable to what stands for the definition of its location
abbrev pub set_item : List (List ℕ) → List ℕ → List ℕ → WantedGet → Item
set_item names find now get = put_item (name_in names get.definition) (name_in names (standing find now get.location))

abbrev pub set_items : List (List ℕ) → List ℕ → List ℕ → List WantedGet → List Item
set_items names find now gets = map (set_item names find now) gets
