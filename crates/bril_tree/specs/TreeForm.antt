-- Trees whose parts are what their types say: each name is an identifier, each int fits 64 bits, each char is a
-- Unicode scalar value, and each path is UTF-8.
use Rattle.std.specs.Prelude.{ℕ, List, All, IsTrue, FitsSigned}
use Rattle.std.specs.Char.{IsScalar}
use Rattle.std.specs.Int.{w64}
use Rattle.std.specs.Option.{IfSome}
use Rattle.std.specs.Str.{IsUtf8}
use Rattle.bril_tree.specs.Identifier.{is_identifier}
use Rattle.bril_tree.specs.declared.function_tree.Dest.{Dest}
use Rattle.bril_tree.specs.declared.function_tree.FuncTree.{FuncTree}
use Rattle.bril_tree.specs.declared.function_tree.Item.{Item}
use Rattle.bril_tree.specs.declared.function_tree.Item.TheVariants as item
use Rattle.bril_tree.specs.declared.import.Import.{Import}
use Rattle.bril_tree.specs.declared.import.Taken.{Taken}
use Rattle.bril_tree.specs.declared.tree.Tree.{Tree}
use Rattle.bril_tree.specs.declared.value.Lit.{Lit}
use Rattle.bril_tree.specs.declared.value.Lit.TheVariants as literal

abbrev pub IsName : List ℕ → Type 0
IsName name = IsTrue (is_identifier name)

abbrev pub AreNames : List (List ℕ) → Type 0
AreNames names = All IsName names

abbrev pub IsTaken : Taken → Type 0
IsTaken taken = IsName taken.name × IfSome taken.alias IsName

abbrev pub IsImport : Import → Type 0
IsImport i = IsUtf8 i.path × All IsTaken i.names

abbrev pub IsDest : Dest → Type 0
IsDest dest = IsName dest.name

abbrev pub IsLiteral : Lit → Type 0
IsLiteral (literal.Int n) = FitsSigned w64 n
IsLiteral (literal.Bool b) = Unit {0}
IsLiteral (literal.Char c) = IsScalar c

abbrev pub IsItem : Item → Type 0
IsItem (item.Label name) = IsName name
IsItem (item.Const dest ty value) = IsName dest × IsLiteral value
IsItem (item.Act dest operation args funcs labels) = IfSome dest IsDest × AreNames args × AreNames funcs × AreNames labels

abbrev pub IsFunction : FuncTree → Type 0
IsFunction f = IsName f.name × All IsDest f.args × All IsItem f.code

abbrev pub IsTree : Tree → Type 0
IsTree tree = All IsImport tree.imports × All IsFunction tree.funcs
