-- A program in which what the least tables tell is written out.
use Rattle.std.specs.Prelude.{◌≡◌, ℕ, suc, if◌then◌else◌, List, [], ◌∷◌, map}
use Rattle.std.specs.List.{AllZip}
use Rattle.bril_tree.specs.declared.function_tree.FuncTree.{FuncTree}
use Rattle.bril_tree.specs.declared.numbered.Instr.{Instr}
use Rattle.bril_tree.specs.declared.numbered_function.Func.{Func}
use Rattle.bril_tree.specs.declared.program.Prog.{Prog}
use Rattle.bril_tree.specs.declared.tree.Tree.{Tree}
use Rattle.bril_tree.specs.Numbered.{function_tree, item_tree, names_of_functions, tree_of, variable_names}
use Rattle.constant_pass.specs.constants.Consistent.{IsLeast, Table}
use Rattle.constant_pass.specs.Items.{folded_item}
use Rattle.pass_edit_laws.specs.numbers.Numbers.{NumbersWithin}

-- what becomes of the item at a point
abbrev pub becomes : Table → ℕ → Instr → Instr
becomes t point item = if t.reached point then folded_item t.known item else item

-- what becomes of items that begin at a point
abbrev pub folded_from : Table → ℕ → List Instr → List Instr
folded_from t point [] = []
folded_from t point (item ∷ items) = becomes t point item ∷ folded_from t (suc point) items

-- the tree of a function, of which a table tells, with what became of its items
abbrev pub folded_by : List (List ℕ) → Func → Table → FuncTree
folded_by fs F t = record (function_tree fs F) { code = map (item_tree fs (variable_names F.vars) F.labels) (folded_from t 0 F.code) }

-- a function, and what the pass makes of it by its least table
pub record IsFoldedFunction (P : Prog) (F : Func) (g : FuncTree) : Type 0 where
  pub table : Table
  pub least : IsLeast F.code F.args table
  pub tree : g ≡ folded_by (names_of_functions P.funcs) F table

-- the pass makes this tree of the program
pub record IsFoldedTree (P : Prog) (tree : Tree) : Type 0 where
  pub imports : tree.imports ≡ []
  pub functions : AllZip (IsFoldedFunction P) P.funcs tree.funcs

-- In Q each item of P became what the least table of its function tells. No number of Q is greater than that of P.
pub record IsFolded (P Q : Prog) : Type 0 where
  pub tree : IsFoldedTree P (tree_of Q)
  pub numbers : NumbersWithin P Q 0
