-- What is made of a program whose variables were put into classes, function by function.
use Rattle.std.specs.Prelude.{◌≡◌, ℕ, ◌<◌, Bool, true, false, List, [], length, map, Some, slice_get}
use Rattle.std.specs.List.{AllZip}
use Rattle.bril_tree.specs.declared.function_tree.FuncTree.{FuncTree}
use Rattle.bril_tree.specs.declared.numbered.Instr.{Instr}
use Rattle.bril_tree.specs.declared.numbered_function.Func.{Func}
use Rattle.bril_tree.specs.declared.program.Prog.{Prog}
use Rattle.bril_tree.specs.declared.tree.Tree.{Tree}
use Rattle.bril_tree.specs.Numbered.{function_tree, item_tree, named, names_of_functions, nop_item, variable_names}
use Rattle.bril_tree.specs.Walk.{IsReached}
use Rattle.pass_edit_laws.specs.plan.Marked.{with_nops}
use Rattle.graph_search.specs.Marks.{is_marked}
use Rattle.variable_renaming.specs.Apart.{Copies}
use Rattle.variable_renaming.specs.Classes.{AreSoundClasses, class_of}

-- ---- names

-- the new names are those of the classes
pub record NamesClasses (F : Func) (class : List ℕ) (news : List (List ℕ)) : Type 0 where
  pub long : length news ≡ length F.vars
  pub names : (x : ℕ) → x < length F.vars → named news x ≡ named (variable_names F.vars) (class_of class x)

-- ---- copies inside a class

-- the item copies a variable to one of its class
abbrev pub IsCopyWithin : Instr → List ℕ → Type 0
IsCopyWithin item class = (x : ℕ) × (y : ℕ) × Copies item x y × (class_of class x ≡ class_of class y)

-- a walk leads to the item, which copies a variable to one of its class
pub record CopyWithin (F : Func) (class : List ℕ) (point : ℕ) : Type 0 where
  pub reached : IsReached F.code point
  pub item : Instr
  pub at : slice_get F.code point ≡ Some item
  pub x : ℕ
  pub y : ℕ
  pub copies : Copies item x y
  pub same : class_of class x ≡ class_of class y

-- marks of such items, one for each item
pub record MarksCopies (F : Func) (class : List ℕ) (marks : List Bool) : Type 0 where
  pub long : length marks ≡ length F.code
  pub only : (point : ℕ) → is_marked marks point ≡ true → CopyWithin F class point
  pub all : (point : ℕ) → is_marked marks point ≡ false → CopyWithin F class point → ⊥

-- the first items are marked where they copy a variable to one of its class
pub record MarksFirst (F : Func) (class : List ℕ) (n : ℕ) (marks : List Bool) : Type 0 where
  pub long : length marks ≡ n
  pub only : (point : ℕ) → is_marked marks point ≡ true → CopyWithin F class point
  pub all : (point : ℕ) → point < n → is_marked marks point ≡ false → CopyWithin F class point → ⊥

-- ---- functions

-- a function, and what these classes make of it
pub record IsRenamedFunction (P : Prog) (F : Func) (class : List ℕ) (g : FuncTree) : Type 0 where
  pub news : List (List ℕ)
  pub names : NamesClasses F class news
  pub marks : List Bool
  pub marked : MarksCopies F class marks
  pub tree : g ≡ record (function_tree (names_of_functions P.funcs) F) { code = with_nops nop_item marks (map (item_tree (names_of_functions P.funcs) news F.labels) F.code) }

-- a function, and what some sound classes make of it, of which this is known
pub record IsRenamedByClasses (Knows : Func → List ℕ → Type 0) (P : Prog) (F : Func) (g : FuncTree) : Type 0 where
  pub class : List ℕ
  pub are : AreSoundClasses F class
  pub known : Knows F class
  pub made : IsRenamedFunction P F class g

pub record IsRenamedTree (Knows : Func → List ℕ → Type 0) (P : Prog) (tree : Tree) : Type 0 where
  pub imports : tree.imports ≡ []
  pub functions : AllZip (IsRenamedByClasses Knows P) P.funcs tree.funcs
