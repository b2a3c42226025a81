-- The canonical text of a file.
use Rattle.std.specs.Prelude.{ℕ, ◌==◌, List, [], ◌∷◌, ◌++◌, Option, Some, None, if◌then◌else◌, codes}
use Rattle.std.specs.Char.{encode_utf8}
use Rattle.std.specs.Fmt.{signed_decimal}
use Rattle.std.specs.List.{flat_map, join_by, repeat}
use Rattle.bril_tree.specs.declared.function_tree.Dest.{Dest}
use Rattle.bril_tree.specs.declared.function_tree.FuncTree.{FuncTree}
use Rattle.bril_tree.specs.declared.function_tree.Item.{Item}
use Rattle.bril_tree.specs.declared.function_tree.Item.TheVariants as item
use Rattle.bril_tree.specs.declared.import.Import.{Import}
use Rattle.bril_tree.specs.declared.import.Taken.{Taken}
use Rattle.bril_tree.specs.declared.tree.Tree.{Tree}
use Rattle.bril_tree.specs.declared.types.Ty.{Ty}
use Rattle.bril_tree.specs.declared.value.Lit.{Lit}
use Rattle.bril_tree.specs.declared.value.Lit.TheVariants as literal
use Rattle.bril_tree.specs.Spelling.{operation_text, base_text, truth_text}

-- ` as @g` if the function has another name here
abbrev pub alias_text : Option (List ℕ) → List ℕ
alias_text None = []
alias_text (Some alias) = codes " as @" ++ alias

abbrev pub taken_text : Taken → List ℕ
taken_text taken = codes "@" ++ (taken.name ++ alias_text taken.alias)

-- `from "path" import @f, @g as @h;` and LF
abbrev pub import_text : Import → List ℕ
import_text i = codes "from \"" ++ (i.path ++ (codes "\" import " ++ (join_by taken_text (codes ", ") i.names ++ codes ";\n")))

-- as many `ptr<` as the type is deep, its base, and as many `>`
abbrev pub type_text : Ty → List ℕ
type_text ty = repeat ty.depth (codes "ptr<") ++ (base_text ty.base ++ repeat ty.depth (codes ">"))

-- `name: type`
abbrev pub typed_text : Dest → List ℕ
typed_text dest = dest.name ++ (codes ": " ++ type_text dest.ty)

-- `(a: int, b: bool)` if there are arguments
abbrev pub args_text : List Dest → List ℕ
args_text [] = []
args_text (arg ∷ args) = codes "(" ++ (join_by typed_text (codes ", ") (arg ∷ args) ++ codes ")")

-- `: type` if a function returns one
abbrev pub ret_text : Option Ty → List ℕ
ret_text None = []
ret_text (Some ty) = codes ": " ++ type_text ty

-- a character between the quotes of a literal: one of `\0 \a \b \t \n \v \f \r`, or itself
abbrev pub inner_char_text : ℕ → List ℕ
inner_char_text c =
    if c == 0 then codes "\\0"
    else (if c == 7 then codes "\\a"
    else (if c == 8 then codes "\\b"
    else (if c == 9 then codes "\\t"
    else (if c == 10 then codes "\\n"
    else (if c == 11 then codes "\\v"
    else (if c == 12 then codes "\\f"
    else (if c == 13 then codes "\\r"
    else encode_utf8 c)))))))

abbrev pub literal_text : Lit → List ℕ
literal_text (literal.Int n) = signed_decimal n
literal_text (literal.Bool b) = truth_text b
literal_text (literal.Char c) = codes "'" ++ (inner_char_text c ++ codes "'")

-- the names, each after the sign
abbrev pub names_text : List ℕ → List (List ℕ) → List ℕ
names_text sign names = flat_map (λ (name : List ℕ). sign ++ name) names

-- the operands: functions, then arguments, then labels
abbrev pub operands_text : List (List ℕ) → List (List ℕ) → List (List ℕ) → List ℕ
operands_text args funcs labels = names_text (codes " @") funcs ++ (names_text (codes " ") args ++ names_text (codes " .") labels)

-- `dest: type = ` if an instruction has a destination
abbrev pub dest_text : Option Dest → List ℕ
dest_text None = []
dest_text (Some dest) = typed_text dest ++ codes " = "

-- a label or an instruction, on a line of its own
abbrev pub item_text : Item → List ℕ
item_text (item.Label name) = codes "." ++ (name ++ codes ":\n")
item_text (item.Const dest ty value) = codes "  " ++ (typed_text (record { name = dest; ty = ty }) ++ (codes " = const " ++ (literal_text value ++ codes ";\n")))
item_text (item.Act dest operation args funcs labels) =
    codes "  " ++ (dest_text dest ++ (operation_text operation ++ (operands_text args funcs labels ++ codes ";\n")))

abbrev pub function_text : FuncTree → List ℕ
function_text f = codes "@" ++ (f.name ++ (args_text f.args ++ (ret_text f.ret ++ (codes " {\n" ++ (flat_map item_text f.code ++ codes "}\n")))))

-- the imports, then the functions
abbrev pub canonical_text : Tree → List ℕ
canonical_text tree = flat_map import_text tree.imports ++ flat_map function_text tree.funcs
