-- The canonical JSON of a tree: the compact text of a JSON value whose objects have their keys in alphabetical order.
use Rattle.std.specs.Prelude.{ℕ, zero, suc, List, [], ◌∷◌, Option, Some, None, option_map, codes}
use Rattle.std.specs.Char.{encode_utf8}
use Rattle.bril_tree.specs.declared.function_tree.Dest.{Dest}
use Rattle.bril_tree.specs.declared.function_tree.FuncTree.{FuncTree}
use Rattle.bril_tree.specs.declared.function_tree.Item.{Item}
use Rattle.bril_tree.specs.declared.function_tree.Item.TheVariants as line
use Rattle.bril_tree.specs.declared.import.Import.{Import}
use Rattle.bril_tree.specs.declared.import.Taken.{Taken}
use Rattle.bril_tree.specs.declared.tree.Tree.{Tree}
use Rattle.bril_tree.specs.declared.types.Ty.{Ty}
use Rattle.bril_tree.specs.declared.value.Lit.{Lit}
use Rattle.bril_tree.specs.declared.value.Lit.TheVariants as literal
use Rattle.bril_tree.specs.Spelling.{operation_text, base_text}
use Rattle.serde_json.specs.Data.{Data, boolean, number, string, array, object, Items, no_items, item, Members, no_members, member}
use Rattle.serde_json.specs.Find.{of_integer}
use Rattle.serde_json.specs.Written.{compact_text}

-- a key, and its value if there is one
abbrev pub Part : Type 0
Part = List ℕ × Option Data

-- a part before other members
abbrev pub with_part : List ℕ → Option Data → Members → Members
with_part key None rest = rest
with_part key (Some value) rest = member key value rest

-- the members of the parts that have a value
abbrev pub standing : List Part → Members
standing [] = no_members
standing (part ∷ parts) = with_part part.0 part.1 (standing parts)

abbrev pub object_of : List Part → Data
object_of parts = object (standing parts)

-- the value of each, in order
abbrev pub listed : {A : Type 0} → (A → Data) → List A → Items
listed f [] = no_items
listed f (x ∷ xs) = item (f x) (listed f xs)

-- a list, if it has an item
abbrev pub unless_empty : Items → Option Data
unless_empty no_items = None
unless_empty (item value values) = Some (array (item value values))

-- a value inside this many objects with the one key `ptr`
abbrev pub in_pointers : ℕ → Data → Data
in_pointers zero value = value
in_pointers (suc depth) value = object_of ((codes "ptr", Some (in_pointers depth value)) ∷ [])

abbrev pub type_json : Ty → Data
type_json ty = in_pointers ty.depth (string (base_text ty.base))

-- a number, a boolean, or a text of one character
abbrev pub literal_json : Lit → Data
literal_json (literal.Int n) = number (of_integer n)
literal_json (literal.Bool b) = boolean b
literal_json (literal.Char c) = string (encode_utf8 c)

abbrev pub argument_parts : Dest → List Part
argument_parts arg =
    (codes "name", Some (string arg.name))
    ∷ (codes "type", Some (type_json arg.ty))
    ∷ []

abbrev pub argument_json : Dest → Data
argument_json arg = object_of (argument_parts arg)

-- a label or an instruction
abbrev pub item_parts : Item → List Part
item_parts (line.Label name) = (codes "label", Some (string name)) ∷ []
item_parts (line.Const dest ty value) =
    (codes "dest", Some (string dest))
    ∷ (codes "op", Some (string (codes "const")))
    ∷ (codes "type", Some (type_json ty))
    ∷ (codes "value", Some (literal_json value))
    ∷ []
item_parts (line.Act dest operation args funcs labels) =
    (codes "args", unless_empty (listed string args))
    ∷ (codes "dest", option_map (λ (d : Dest). string d.name) dest)
    ∷ (codes "funcs", unless_empty (listed string funcs))
    ∷ (codes "labels", unless_empty (listed string labels))
    ∷ (codes "op", Some (string (operation_text operation)))
    ∷ (codes "type", option_map (λ (d : Dest). type_json d.ty) dest)
    ∷ []

abbrev pub item_json : Item → Data
item_json i = object_of (item_parts i)

abbrev pub function_parts : FuncTree → List Part
function_parts f =
    (codes "args", unless_empty (listed argument_json f.args))
    ∷ (codes "instrs", Some (array (listed item_json f.code)))
    ∷ (codes "name", Some (string f.name))
    ∷ (codes "type", option_map type_json f.ret)
    ∷ []

abbrev pub function_json : FuncTree → Data
function_json f = object_of (function_parts f)

-- an imported function, and its other name here if it has one
abbrev pub taken_parts : Taken → List Part
taken_parts taken =
    (codes "alias", option_map string taken.alias)
    ∷ (codes "name", Some (string taken.name))
    ∷ []

abbrev pub taken_json : Taken → Data
taken_json taken = object_of (taken_parts taken)

abbrev pub import_parts : Import → List Part
import_parts i =
    (codes "functions", Some (array (listed taken_json i.names)))
    ∷ (codes "path", Some (string i.path))
    ∷ []

abbrev pub import_json : Import → Data
import_json i = object_of (import_parts i)

abbrev pub tree_parts : Tree → List Part
tree_parts tree =
    (codes "functions", Some (array (listed function_json tree.funcs)))
    ∷ (codes "imports", unless_empty (listed import_json tree.imports))
    ∷ []

-- the JSON value of a tree
abbrev pub json_of : Tree → Data
json_of tree = object_of (tree_parts tree)

-- its compact text
unfoldable pub canonical_json : Tree → List ℕ
canonical_json tree = compact_text (json_of tree)
