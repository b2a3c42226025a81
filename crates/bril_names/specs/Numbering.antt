-- What numbers names get, function by function and item by item.
use Rattle.std.specs.Prelude.{ℕ, ◌≡◌, ◌<◌, ◌⊎◌, Bool, true, false, List, [], ◌∷◌, ◌++◌, length, map, take, Option, Some, None, All, nat_lt, slice_get, option_and_then}
use Rattle.std.specs.List.{flat_map, list_all, Contains}
use Rattle.std.specs.Option.{option_map}
use Rattle.bril_tree.specs.declared.function_tree.Dest.{Dest}
use Rattle.bril_tree.specs.declared.function_tree.FuncTree.{FuncTree}
use Rattle.bril_tree.specs.declared.function_tree.Item.{Item}
use Rattle.bril_tree.specs.declared.numbered.Instr.{Instr}
use Rattle.bril_tree.specs.declared.numbered.VarInfo.{VarInfo}
use Rattle.bril_tree.specs.declared.numbered_function.Func.{Func}
use Rattle.bril_tree.specs.declared.types.Ty.{Ty}
use Rattle.bril_tree.specs.FunctionForm.{known_after, variables_of, label_at, targets_of, callees_of, first_of_two, first_type, both_or_neither, dest_is_typed}
use Rattle.bril_tree.specs.Numbered.{named, dest_tree, item_tree, variable_names}
use Rattle.bril_names.specs.Faults.{Differ, AreAmong, IsSound, HasFaultWithin, callees_of as callee_names, targets_of as target_names, labels_of}
use Rattle.bril_names.specs.declared.fault.NameFault.{NameFault}
use Rattle.bril_names.specs.declared.fault.NameFault.TheVariants.{NoFunction, TwiceFunction, NoLabel, TwiceLabel, NoMain, TwiceArg, Memory}

-- ---- a table of names

-- the number of a name, where it is there
abbrev pub Finds : List (List ℕ) → List ℕ → Option ℕ → Type 0
Finds names name None = ¬ Contains names name
Finds names name (Some k) = (k < length names) × (named names k ≡ name)

-- a new name goes last, and one that is there changes nothing
abbrev pub Adds : List (List ℕ) → List ℕ → List (List ℕ) → Bool → Type 0
Adds before name after true = (after ≡ before ++ name ∷ []) × ¬ Contains before name
Adds before name after false = (after ≡ before) × Contains before name

-- each number is below the count
abbrev pub are_below : ℕ → List ℕ → Bool
are_below count numbers = list_all (λ k. nat_lt k count) numbers

-- the numbers of names that are all there, and None where one isn't
abbrev pub FindsAll : List (List ℕ) → List (List ℕ) → Option (List ℕ) → Type 0
FindsAll known names None = ¬ AreAmong known names
FindsAll known names (Some numbers) = (map (named known) numbers ≡ names) × (are_below (length known) numbers ≡ true)

-- ---- variables

-- an argument as a variable
abbrev pub argument_variable : Dest → VarInfo
argument_variable arg = record { name = arg.name; ty = Some arg.ty }

-- the type of a variable, where there is one
abbrev pub type_of_variable : List VarInfo → ℕ → Option Ty
type_of_variable vars x = option_and_then (λ (v : VarInfo). v.ty) (slice_get vars x)

-- the variable with this type where it has none
abbrev pub with_type : VarInfo → Option Ty → VarInfo
with_type v ty = record { name = v.name; ty = first_of_two v.ty ty }

-- The variables before and after these numbers appear in order: those that are new follow in the order of their
-- appearance, and a variable without a type gets the one with which it is assigned.
pub record Enters (before after : List VarInfo) (appearing : List ℕ) (assigned : ℕ → Option Ty) : Type 0 where
  pub added : List (List ℕ)
  pub grows : variable_names after ≡ variable_names before ++ added
  pub appear : known_after (length before) appearing ≡ Some (length after)
  pub types : (x : ℕ) → type_of_variable after x ≡ first_of_two (type_of_variable before x) (assigned x)
  pub differ : Differ (variable_names before) → Differ (variable_names after)

-- the number stands for the name, also once more variables are known
abbrev pub StandsFor : List VarInfo → ℕ → List ℕ → Type 0
StandsFor vars x name = (more : List (List ℕ)) → named (variable_names vars ++ more) x ≡ name

-- the numbers stand for the names, also once more variables are known
abbrev pub StandFor : List VarInfo → List ℕ → List (List ℕ) → Type 0
StandFor vars xs names = (more : List (List ℕ)) → map (named (variable_names vars ++ more)) xs ≡ names

-- the type of a destination
abbrev pub dest_type : Option Dest → Option Ty
dest_type dest = option_map (λ (d : Dest). d.ty) dest

-- the number stands for the destination, also once more variables are known
pub record StandsForDest (vars : List VarInfo) (x : Option ℕ) (dest : Option Dest) : Type 0 where
  pub named : (more : List (List ℕ)) → dest ≡ dest_tree (variable_names vars ++ more) x (dest_type dest)
  pub typed : both_or_neither x (dest_type dest) ≡ true

-- ---- items

-- The numbering of items, where these are the functions of the program and the labels of the function: the
-- variables before and after them, and the numbers that give the names back, also once more variables are known.
pub record IsNumbering (functions labels : List (List ℕ)) (before after : List VarInfo) (items : List Item) (code : List Instr) : Type 0 where
  pub enters : Enters before after (flat_map variables_of code) (λ x. first_type x code)
  pub trees : (more : List (List ℕ)) → items ≡ map (item_tree functions (variable_names after ++ more) labels) code
  pub placed : are_below (length labels) (flat_map label_at code) ≡ true
  pub targets : are_below (length labels) (flat_map targets_of code) ≡ true
  pub called : are_below (length functions) (flat_map callees_of code) ≡ true
  pub typed : list_all dest_is_typed code ≡ true

-- the item is no label, or one of these
abbrev pub HasLabel : List (List ℕ) → Item → Type 0
HasLabel labels i = AreAmong labels (labels_of (i ∷ []))

-- The item of these numbers names a function that isn't there, or such a label alone.
abbrev pub IsLackOf : List (List ℕ) → List (List ℕ) → ℕ → ℕ → Item → NameFault → Type 0
IsLackOf functions labels func place i (NoFunction f k) = (f ≡ func) × (k ≡ place) × ¬ AreAmong functions (callee_names i)
IsLackOf functions labels func place i (NoLabel f k) =
    (f ≡ func) × (k ≡ place) × AreAmong functions (callee_names i) × ¬ AreAmong labels (target_names i)
IsLackOf functions labels func place i (TwiceArg f) = ⊥
IsLackOf functions labels func place i (TwiceLabel f k) = ⊥
IsLackOf functions labels func place i (TwiceFunction f) = ⊥
IsLackOf functions labels func place i NoMain = ⊥
IsLackOf functions labels func place i Memory = Unit {0}

-- ---- functions

-- what a fault says of the function of this number; want of memory says nothing
abbrev pub IsFaultWithin : List (List ℕ) → ℕ → FuncTree → NameFault → Type 0
IsFaultWithin functions number f fault = (fault ≡ Memory) ⊎ HasFaultWithin functions number f fault

-- the functions that a function's items name are there
abbrev pub are_called_below : ℕ → Func → Bool
are_called_below count f = are_below count (flat_map callees_of f.code)

-- the first of these functions with a fault has this one
pub record FaultAmong (functions : List (List ℕ)) (funcs : List FuncTree) (fault : NameFault) : Type 0 where
  pub number : ℕ
  pub function : FuncTree
  pub here : slice_get funcs number ≡ Some function
  pub before : All (IsSound functions) (take number funcs)
  pub has : HasFaultWithin functions number function fault

-- what a fault says of these functions; want of memory says nothing
abbrev pub IsFaultAmong : List (List ℕ) → List FuncTree → NameFault → Type 0
IsFaultAmong functions funcs fault = (fault ≡ Memory) ⊎ FaultAmong functions funcs fault
