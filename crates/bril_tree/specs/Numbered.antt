-- Which numbered program stands for a tree of names, and which tree for a program.
use Rattle.std.specs.Prelude.{◌≡◌, ℕ, List, [], length, map, Option, Some, None, slice_get, slice_index_or, take}
use Rattle.std.specs.List.{filter_map, sum_by}
use Rattle.std.specs.Option.{option_map}
use Rattle.bril_tree.specs.declared.function_tree.Dest.{Dest}
use Rattle.bril_tree.specs.declared.function_tree.FuncTree.{FuncTree}
use Rattle.bril_tree.specs.declared.function_tree.Item.{Item}
use Rattle.bril_tree.specs.declared.function_tree.Item.TheVariants as item
use Rattle.bril_tree.specs.declared.numbered.Instr.{Instr}
use Rattle.bril_tree.specs.declared.numbered.Instr.TheVariants.{Label, Const, Act}
use Rattle.bril_tree.specs.declared.numbered.VarInfo.{VarInfo}
use Rattle.bril_tree.specs.declared.numbered_function.Func.{Func}
use Rattle.bril_tree.specs.declared.operation.Op.TheVariants as op
use Rattle.bril_tree.specs.declared.program.Prog.{Prog}
use Rattle.bril_tree.specs.declared.tree.Tree.{Tree}
use Rattle.bril_tree.specs.declared.types.Ty.{Ty}

-- the name of a number in a list of names
abbrev pub named : List (List ℕ) → ℕ → List ℕ
named names k = slice_index_or names k []

abbrev pub variable_names : List VarInfo → List (List ℕ)
variable_names vars = map (λ v. v.name) vars

-- a name with its type, where it has one
abbrev pub typed_name : List ℕ → Ty → Dest
typed_name name ty = record { name = name; ty = ty }

abbrev pub dest_tree : List (List ℕ) → Option ℕ → Option Ty → Option Dest
dest_tree vars None ty = None
dest_tree vars (Some x) None = None
dest_tree vars (Some x) (Some ty) = Some (typed_name (named vars x) ty)

abbrev pub argument_tree : VarInfo → Option Dest
argument_tree v = typed_argument v.name v.ty
  where
    typed_argument : List ℕ → Option Ty → Option Dest
    typed_argument name None = None
    typed_argument name (Some ty) = Some (typed_name name ty)

-- an item with the names of its numbers: those of functions, variables and labels
abbrev pub item_tree : List (List ℕ) → List (List ℕ) → List (List ℕ) → Instr → Item
item_tree funcs vars labels (Label l) = item.Label (named labels l)
item_tree funcs vars labels (Const dest ty value) = item.Const (named vars dest) ty value
item_tree funcs vars labels (Act dest ty op args callees targets) =
    item.Act (dest_tree vars dest ty) op (map (named vars) args) (map (named funcs) callees) (map (named labels) targets)

-- a function with the names of its numbers, where the program's functions have these names
abbrev pub function_tree : List (List ℕ) → Func → FuncTree
function_tree funcs f = record {
  name = f.name;
  args = filter_map argument_tree (take f.args f.vars);
  ret = f.ret;
  code = map (item_tree funcs (variable_names f.vars) f.labels) f.code;
}

-- The program is the numbering of the tree, which has no imports: its functions, items and labels stand in
-- the tree's order, and each of its numbers is that of the name in the tree. That the names differ and that
-- the variables follow in the order of their appearance is the form that every program keeps.
pub record Numbered (tree : Tree) (p : Prog) : Type 0 where
  pub alone : tree.imports ≡ []
  pub functions : tree.funcs ≡ map (function_tree (map (λ f. f.name) p.funcs)) p.funcs

-- ---- the tree of a program

abbrev pub names_of_functions : List Func → List (List ℕ)
names_of_functions funcs = map (λ f. f.name) funcs

-- The tree of which a program is the numbering: there is no other.
abbrev pub tree_of : Prog → Tree
tree_of p = record { imports = []; funcs = map (function_tree (names_of_functions p.funcs)) p.funcs }

-- the names of a function's variables; none where the program lacks it
abbrev pub names_in : Option Func → List (List ℕ)
names_in None = []
names_in (Some f) = variable_names f.vars

-- the item at a point of a function, with names
abbrev pub point_tree : List (List ℕ) → Option Func → ℕ → Option Item
point_tree funcs None point = None
point_tree funcs (Some f) point = option_map (item_tree funcs (variable_names f.vars) f.labels) (slice_get f.code point)

abbrev pub tree_at : Prog → ℕ → ℕ → Option Item
tree_at p f point = point_tree (names_of_functions p.funcs) (slice_get p.funcs f) point

-- the items of a function of names; none where there is none
abbrev pub items_in : Option FuncTree → List Item
items_in None = []
items_in (Some f) = f.code

-- the number of items of all functions
abbrev pub tree_size : Tree → ℕ
tree_size tree = sum_by (λ f. length f.code) tree.funcs

-- the item that does nothing, by names and by numbers
abbrev pub nop_item : Item
nop_item = item.Act None op.Nop [] [] []

abbrev pub nop : Instr
nop = Act None None op.Nop [] [] []
