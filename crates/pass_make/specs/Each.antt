-- A tree that is made of a program, function by function.
use Rattle.std.specs.Prelude.{◌≡◌, ℕ, ◌<◌, List, [], length, Some, None, Ok, Result, is_some, slice_get}
use Rattle.std.specs.Borrow.{Bor}
use Rattle.std.specs.declared.alloc.AllocError.{AllocError}
use Rattle.bril_tree.specs.declared.function_tree.FuncTree.{FuncTree}
use Rattle.bril_tree.specs.declared.numbered_function.Func.{Func}
use Rattle.bril_tree.specs.declared.program.Prog.{Prog}
use Rattle.bril_tree.specs.declared.tree.Tree.{Tree}
use Rattle.bril_tree.specs.Numbered.{function_tree, names_of_functions}
use Rattle.bril_tree.specs.Shape.{shape_fault_of}
use Rattle.bril_tree.specs.Sites.{AreSitesSound}

-- a function of an accepted program, with its number and its tree
pub record IsFunctionOf (P : Prog) (number : ℕ) (F : Func) (function : FuncTree) : Type 0 where
  pub there : slice_get P.funcs number ≡ Some F
  pub shaped : shape_fault_of (is_some F.ret) F.code ≡ None
  pub sound : AreSitesSound F.code
  pub few : length F.code < 4294967295
  pub tree : function ≡ function_tree (names_of_functions P.funcs) F
  pub long : length function.code ≡ length F.code

-- an edit may be called for each function of the program
abbrev pub TakesEach : (ℕ → Bor Func → FuncTree → Type 0) → Prog → Type 0
TakesEach pre P = (number : ℕ) (lent : Bor Func) (function : FuncTree) → IsFunctionOf P number lent.now function → pre number lent function

-- a call of the edit for the function gave this tree
pub record IsGivenFor (post : ℕ → Bor Func → FuncTree → Result FuncTree AllocError → Type 0) (P : Prog) (number : ℕ) (F : Func) (made : FuncTree) : Type 0 where
  pub function : FuncTree
  pub of : IsFunctionOf P number F function
  pub lent : Bor Func
  pub same : lent.now ≡ F
  pub gave : post number lent function (Ok made)

-- R relates each of the first n functions of the program, by its number, to the tree made of it
pub record AreMadeOf (R : ℕ → Func → FuncTree → Type 0) (P : Prog) (n : ℕ) (made : List FuncTree) : Type 0 where
  pub many : length made ≡ n
  pub functions : (f : ℕ) (F : Func) (g : FuncTree) → slice_get P.funcs f ≡ Some F → slice_get made f ≡ Some g → R f F g

-- the same for all functions, in a tree without imports
pub record IsMadeOfEach (R : ℕ → Func → FuncTree → Type 0) (P : Prog) (tree : Tree) : Type 0 where
  pub imports : tree.imports ≡ []
  pub made : AreMadeOf R P (length P.funcs) tree.funcs
