-- A program in which removable items became `nop`, one after another, until none was left.
use Rattle.std.specs.Prelude.{◌≡◌, ◌⊎◌, ℕ, true, List, [], ◌∷◌, map, Some, slice_get, slice_set}
use Rattle.std.specs.List.{AllZip}
use Rattle.bril_tree.specs.declared.function_tree.FuncTree.{FuncTree}
use Rattle.bril_tree.specs.declared.numbered.Instr.{Instr}
use Rattle.bril_tree.specs.declared.numbered_function.Func.{Func}
use Rattle.bril_tree.specs.declared.program.Prog.{Prog}
use Rattle.bril_tree.specs.declared.tree.Tree.{Tree}
use Rattle.bril_tree.specs.Numbered.{function_tree, item_tree, names_of_functions, nop, tree_of, variable_names}
use Rattle.bril_tree.specs.Step.{code_of}
use Rattle.bril_tree.specs.Walk.{IsReached}
use Rattle.dead_code.specs.Removable.{IsRemovable, is_silent}
use Rattle.pass_edit_laws.specs.numbers.Numbers.{NumbersWithin}

-- the code after the items at these points, the last one first, became `nop`
abbrev pub emptied : List Instr → List ℕ → List Instr
emptied code [] = code
emptied code (point ∷ points) = slice_set (emptied code points) point nop

-- each of them was removable after those before it became `nop`
abbrev pub WereRemovable : List Instr → List ℕ → Type 0
WereRemovable code [] = Unit {0}
WereRemovable code (point ∷ points) = IsRemovable (emptied code points) point × WereRemovable code points

-- Removable items became `nop`, and none is left: what stays is silent, or a walk leads there, and no computation stays of
-- what isn't live.
pub record IsCleared (code made : List Instr) : Type 0 where
  pub points : List ℕ
  pub were : WereRemovable code points
  pub is : made ≡ emptied code points
  pub none : (point : ℕ) → ¬ IsRemovable made point
  pub stays : (point : ℕ) (item : Instr) → slice_get made point ≡ Some item → (is_silent item ≡ true) ⊎ IsReached made point

-- the tree of a function of the program with other items of the same numbers
abbrev pub tree_with : Prog → Func → List Instr → FuncTree
tree_with P F code = record (function_tree (names_of_functions P.funcs) F) { code = map (item_tree (names_of_functions P.funcs) (variable_names F.vars) F.labels) code }

-- a function, and what the pass makes of it
pub record IsClearedFunction (P : Prog) (F : Func) (g : FuncTree) : Type 0 where
  pub made : List Instr
  pub cleared : IsCleared F.code made
  pub tree : g ≡ tree_with P F made

-- the pass makes this tree of the program
pub record IsClearedTree (P : Prog) (tree : Tree) : Type 0 where
  pub imports : tree.imports ≡ []
  pub functions : AllZip (IsClearedFunction P) P.funcs tree.funcs

-- In Q removable items of P are `nop`, and all else is as in P. No item of Q is removable, and no number of Q is greater than that
-- of P.
pub record IsDeadened (P Q : Prog) : Type 0 where
  pub tree : IsClearedTree P (tree_of Q)
  pub none : (f point : ℕ) → ¬ IsRemovable (code_of Q f) point
  pub numbers : NumbersWithin P Q 0
