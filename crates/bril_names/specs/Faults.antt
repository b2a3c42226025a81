-- Why a tree has no numbered program: a name that stands twice where names must differ, or one that nothing has.
use Rattle.std.specs.Prelude.{◌≡◌, ◌≢◌, ℕ, ◌⊎◌, List, [], All, map, take, Option, Some, None, slice_get}
use Rattle.std.specs.List.{filter_map, AllPairs, Contains}
use Rattle.bril_tree.specs.ProgramForm.{main_name}
use Rattle.bril_tree.specs.declared.function_tree.FuncTree.{FuncTree}
use Rattle.bril_tree.specs.declared.function_tree.Item.{Item}
use Rattle.bril_tree.specs.declared.function_tree.Item.TheVariants as item
use Rattle.bril_tree.specs.declared.tree.Tree.{Tree}
use Rattle.bril_names.specs.declared.fault.NameFault.{NameFault}
use Rattle.bril_names.specs.declared.fault.NameFault.TheVariants.{NoFunction, TwiceFunction, NoLabel, TwiceLabel, NoMain, TwiceArg, Memory}

-- ---- the names of a tree

abbrev pub function_names : Tree → List (List ℕ)
function_names tree = map (λ f. f.name) tree.funcs

abbrev pub argument_names : FuncTree → List (List ℕ)
argument_names f = map (λ a. a.name) f.args

-- the label that an item is
abbrev pub label_of : Item → Option (List ℕ)
label_of (item.Label name) = Some name
label_of (item.Const dest ty value) = None
label_of (item.Act dest op args funcs labels) = None

-- the labels that stand in a list of items
abbrev pub labels_of : List Item → List (List ℕ)
labels_of code = filter_map label_of code

-- the functions that an item names
abbrev pub callees_of : Item → List (List ℕ)
callees_of (item.Label name) = []
callees_of (item.Const dest ty value) = []
callees_of (item.Act dest op args funcs labels) = funcs

-- the labels that an item goes to
abbrev pub targets_of : Item → List (List ℕ)
targets_of (item.Label name) = []
targets_of (item.Const dest ty value) = []
targets_of (item.Act dest op args funcs labels) = labels

-- ---- names that stand once, and names that are there

abbrev pub Differ : List (List ℕ) → Type 0
Differ names = AllPairs (λ a b. a ≢ b) names

abbrev pub AreAmong : List (List ℕ) → List (List ℕ) → Type 0
AreAmong known names = All (λ name. Contains known name) names

-- the item names functions and labels that are there
abbrev pub IsKnown : List (List ℕ) → List (List ℕ) → Item → Type 0
IsKnown functions labels i = AreAmong functions (callees_of i) × AreAmong labels (targets_of i)

-- The function has none of the faults below, where these are the functions of its program.
pub record IsSound (functions : List (List ℕ)) (f : FuncTree) : Type 0 where
  pub arguments : Differ (argument_names f)
  pub labels : Differ (labels_of f.code)
  pub known : All (IsKnown functions (labels_of f.code)) f.code

-- the functions have the same name, arguments and type of result
pub record SameHead (f g : FuncTree) : Type 0 where
  pub name : f.name ≡ g.name
  pub args : f.args ≡ g.args
  pub ret : f.ret ≡ g.ret

-- The second function is an edit of the first whose labels differ, and which names only functions and labels that are
-- there, where these are the functions of its program.
pub record IsSoundEdit (functions : List (List ℕ)) (f g : FuncTree) : Type 0 where
  pub head : SameHead f g
  pub labels : Differ (labels_of g.code)
  pub known : All (IsKnown functions (labels_of g.code)) g.code

-- ---- the faults

-- the first place at which a name stands that stands before it, too
pub record RepeatsName (names : List (List ℕ)) (place : ℕ) : Type 0 where
  pub name : List ℕ
  pub here : slice_get names place ≡ Some name
  pub before : Contains (take place names) name
  pub differ : Differ (take place names)

-- the first item that is a label which stands before it, too
pub record RepeatsLabel (code : List Item) (place : ℕ) : Type 0 where
  pub name : List ℕ
  pub here : slice_get code place ≡ Some (item.Label name)
  pub before : Contains (labels_of (take place code)) name
  pub differ : Differ (labels_of (take place code))

-- the first item that names a function or a label which isn't there: a function
pub record LacksFunction (functions labels : List (List ℕ)) (code : List Item) (place : ℕ) : Type 0 where
  pub lacking : Item
  pub here : slice_get code place ≡ Some lacking
  pub before : All (IsKnown functions labels) (take place code)
  pub lacks : ¬ AreAmong functions (callees_of lacking)

-- the first item that names a function or a label which isn't there: a label, and no such function
pub record LacksLabel (functions labels : List (List ℕ)) (code : List Item) (place : ℕ) : Type 0 where
  pub lacking : Item
  pub here : slice_get code place ≡ Some lacking
  pub before : All (IsKnown functions labels) (take place code)
  pub functions_known : AreAmong functions (callees_of lacking)
  pub lacks : ¬ AreAmong labels (targets_of lacking)

-- The function of this number has this fault, where these are the functions of its program: first a repeated
-- argument, then a repeated label, then a name that isn't there.
abbrev pub HasFaultWithin : List (List ℕ) → ℕ → FuncTree → NameFault → Type 0
HasFaultWithin functions number f (TwiceArg func) = (func ≡ number) × ¬ Differ (argument_names f)
HasFaultWithin functions number f (TwiceLabel func item) = (func ≡ number) × Differ (argument_names f) × RepeatsLabel f.code item
HasFaultWithin functions number f (NoFunction func item) =
    (func ≡ number) × Differ (argument_names f) × Differ (labels_of f.code) × LacksFunction functions (labels_of f.code) f.code item
HasFaultWithin functions number f (NoLabel func item) =
    (func ≡ number) × Differ (argument_names f) × Differ (labels_of f.code) × LacksLabel functions (labels_of f.code) f.code item
HasFaultWithin functions number f (TwiceFunction func) = ⊥
HasFaultWithin functions number f NoMain = ⊥
HasFaultWithin functions number f Memory = ⊥

-- the first function with a fault has this one
pub record FirstFaultWithin (tree : Tree) (fault : NameFault) : Type 0 where
  pub differ : Differ (function_names tree)
  pub main : Contains (function_names tree) main_name
  pub number : ℕ
  pub function : FuncTree
  pub here : slice_get tree.funcs number ≡ Some function
  pub before : All (IsSound (function_names tree)) (take number tree.funcs)
  pub has : HasFaultWithin (function_names tree) number function fault

-- The tree's first fault: a repeated function, then a missing `main`, then those within its functions in order.
abbrev pub HasFault : Tree → NameFault → Type 0
HasFault tree (TwiceFunction func) = RepeatsName (function_names tree) func
HasFault tree NoMain = Differ (function_names tree) × ¬ Contains (function_names tree) main_name
HasFault tree (TwiceArg func) = FirstFaultWithin tree (TwiceArg func)
HasFault tree (TwiceLabel func item) = FirstFaultWithin tree (TwiceLabel func item)
HasFault tree (NoFunction func item) = FirstFaultWithin tree (NoFunction func item)
HasFault tree (NoLabel func item) = FirstFaultWithin tree (NoLabel func item)
HasFault tree Memory = ⊥

-- what a fault says of the tree; want of memory says nothing
abbrev pub IsFaultOf : Tree → NameFault → Type 0
IsFaultOf tree fault = (fault ≡ Memory) ⊎ HasFault tree fault
