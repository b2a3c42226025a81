-- What the pass does to an item by its tree.
use Rattle.std.specs.Prelude.{◌≡◌, ℕ, suc, List, [], ◌∷◌, Option, Some, None, Bool, true, false, slice_get}
use Rattle.bril_tree.specs.declared.function_tree.FuncTree.{FuncTree}
use Rattle.bril_tree.specs.declared.function_tree.Item.{Item}
use Rattle.bril_tree.specs.declared.function_tree.Item.TheVariants as item
use Rattle.bril_tree.specs.declared.value.Lit.{Lit}
use Rattle.bril_tree.specs.declared.numbered.Instr.{Instr}
use Rattle.bril_tree.specs.declared.numbered_function.Func.{Func}
use Rattle.bril_tree.specs.Numbered.{item_tree, nop_item, variable_names}
use Rattle.constant_pass.specs.constants.Consistent.{IsLeast, Table}
use Rattle.constant_pass.specs.Folded.{becomes}

-- a `const` of the literal for an item with a destination
abbrev pub constant_of : Lit → Item → Item
constant_of l (item.Label name) = item.Label name
constant_of l (item.Const dest ty value) = item.Const dest ty value
constant_of l (item.Act None o args funcs labels) = item.Act None o args funcs labels
constant_of l (item.Act (Some dest) o args funcs labels) = item.Const dest.name dest.ty l

abbrev pub constant_tree : Option Lit → Item → Item
constant_tree None i = i
constant_tree (Some l) i = constant_of l i

abbrev pub nop_tree : Option Bool → Item → Item
nop_tree None i = i
nop_tree (Some true) i = nop_item
nop_tree (Some false) i = i

-- what the pass makes of the item at a point
abbrev pub IsMade : Func → Table → ℕ → Item → Item → Type 0
IsMade F t point i made = (fs : List (List ℕ)) (a : Instr) → slice_get F.code point ≡ Some a → i ≡ item_tree fs (variable_names F.vars) F.labels a → made ≡ item_tree fs (variable_names F.vars) F.labels (becomes t point a)

-- and of items that begin at a point
abbrev pub AreMade : Func → Table → ℕ → List Item → List Item → Type 0
AreMade F t point [] [] = Unit {0}
AreMade F t point [] (m ∷ made) = ⊥
AreMade F t point (i ∷ items) [] = ⊥
AreMade F t point (i ∷ items) (m ∷ made) = IsMade F t point i m × AreMade F t (suc point) items made

-- what the pass makes of the tree of a function, of which a table tells
pub record IsMadeFunction (F : Func) (t : Table) (function made : FuncTree) : Type 0 where
  pub code : AreMade F t 0 function.code made.code
  pub head : made ≡ record function { code = made.code }

-- the same by the least table
pub record IsMadeByTable (F : Func) (function made : FuncTree) : Type 0 where
  pub table : Table
  pub least : IsLeast F.code F.args table
  pub by_table : IsMadeFunction F table function made
