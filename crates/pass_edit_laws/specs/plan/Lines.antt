-- Items that passes put in.
use Rattle.std.specs.Prelude.{ℕ, List, [], ◌∷◌, Option, Some, None}
use Rattle.bril_tree.specs.declared.function_tree.Item.{Item}
use Rattle.bril_tree.specs.declared.function_tree.Item.TheVariants as item
use Rattle.bril_tree.specs.declared.operation.Op.TheVariants as op

-- to the label
abbrev pub jmp_line : List ℕ → Item
jmp_line label = item.Act None op.Jmp [] [] (label ∷ [])

-- the item, if there is one
abbrev pub listed_item : Option Item → List Item
listed_item None = []
listed_item (Some a) = a ∷ []
