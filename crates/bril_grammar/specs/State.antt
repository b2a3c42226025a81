-- The states of the machine that reads terminals one by one: what was read so far, and what may come next.
use Rattle.std.specs.Prelude.{ℕ, List, Option}
use Rattle.bril_tree.specs.declared.function_tree.Dest.{Dest}
use Rattle.bril_tree.specs.declared.function_tree.FuncTree.{FuncTree}
use Rattle.bril_tree.specs.declared.function_tree.Item.{Item}
use Rattle.bril_tree.specs.declared.import.Import.{Import}
use Rattle.bril_tree.specs.declared.import.Taken.{Taken}
use Rattle.bril_tree.specs.declared.operation.Op.{Op}
use Rattle.bril_tree.specs.declared.types.Ty.{Ty}
use Rattle.bril_grammar.specs.declared.mark.Mark.{Mark}
use Rattle.bril_tree.specs.Path.{ImportPath}

-- the imports and functions so far, and the parts of the function that was begun
pub record Begun : Type 0 where
  pub imports : List Import
  pub funcs : List FuncTree
  pub name : List ℕ
  pub args : List Dest
  pub ret : Option Ty
  pub code : List Item

-- where a type may come: after the name of an argument, after a function's head, or after the name of a destination
pub data TypePosition : Type 0 where
  ArgumentType : (b : Begun) (name : List ℕ) → TypePosition
  ReturnType : (b : Begun) → TypePosition
  DestinationType : (b : Begun) (name : List ℕ) → TypePosition

-- an import that was begun: the imports before it, its path, and what it took so far
pub record Importing : Type 0 where
  pub imports : List Import
  pub path : ImportPath
  pub names : List Taken

-- an instruction that was begun, with its operands so far
pub record Acting : Type 0 where
  pub begun : Begun
  pub dest : Option Dest
  pub operation : Op
  pub args : List (List ℕ)
  pub funcs : List (List ℕ)
  pub labels : List (List ℕ)

pub data State : Type 0 where
  -- at the start, and after an import
  AtImport : (imports : List Import) → State
  -- after `from`
  AtPath : (imports : List Import) → State
  -- after the path
  AtImportKeyword : (imports : List Import) (path : ImportPath) → State
  -- where an imported function must come
  AtTaken : (i : Importing) → State
  -- after its name
  AfterTaken : (i : Importing) (name : List ℕ) → State
  -- after `as`
  AtAlias : (i : Importing) (name : List ℕ) → State
  -- after an imported function
  AfterAlias : (i : Importing) (taken : Taken) → State
  -- after a function
  AtFunction : (imports : List Import) (funcs : List FuncTree) → State
  -- after a function's name
  AfterName : (b : Begun) → State
  -- after `(`
  AtFirstArg : (b : Begun) → State
  -- where an argument must come
  AtArg : (b : Begun) → State
  -- after an argument
  AfterArg : (b : Begun) → State
  -- after `)`
  AfterArgs : (b : Begun) → State
  -- where an item may come
  AtItem : (b : Begun) → State
  -- after an operation with which an item begins
  AfterOperation : (b : Begun) (operation : Op) (text : List ℕ) → State
  -- after the `=` of a destination
  AtOperation : (b : Begun) (dest : Dest) → State
  -- after `const`
  AtLiteral : (b : Begun) (dest : Dest) → State
  -- where an operand may come
  AtOperand : (a : Acting) → State
  -- where a type must come, inside this many `ptr <`
  AtType : (position : TypePosition) (depth : ℕ) → State
  -- where this mark must come, and the state after it
  Expect : (mark : Mark) (next : State) → State
