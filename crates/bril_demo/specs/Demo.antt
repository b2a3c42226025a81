-- The demo program, by its tree.
use Rattle.std.specs.Fmt.{decimal}
use Rattle.std.specs.Prelude.{ℕ, pos, ◌+◌, ◌*◌, ◌%◌, List, [], ◌∷◌, ◌++◌, map, Some, None, codes}
use Rattle.std.specs.List.{flat_map, range_with_len}
use native.Mathlib.Nat.{min-le_right}
use Rattle.bril_tree.specs.Numbered.{typed_name}
use Rattle.bril_tree.specs.ProgramForm.{main_name}
use Rattle.bril_tree.specs.declared.function_tree.FuncTree.{FuncTree}
use Rattle.bril_tree.specs.declared.function_tree.Item.{Item}
use Rattle.bril_tree.specs.declared.function_tree.Item.TheVariants as item
use Rattle.bril_tree.specs.declared.operation.Op.{Op}
use Rattle.bril_tree.specs.declared.operation.Op.TheVariants as op
use Rattle.bril_tree.specs.declared.tree.Tree.{Tree}
use Rattle.bril_tree.specs.declared.types.Base.{Base}
use Rattle.bril_tree.specs.declared.types.Base.TheVariants as base
use Rattle.bril_tree.specs.declared.types.Ty.{Ty}
use Rattle.bril_tree.specs.declared.value.Lit.TheVariants as lit

-- ---- items

-- a type that is no pointer
abbrev pub plain : Base → Ty
plain b = record { depth = 0; base = b; nests = min-le_right 0 32 }

abbrev pub label : List ℕ → Item
label name = item.Label name

-- an int
abbrev pub constant : List ℕ → ℕ → Item
constant name value = item.Const name (plain base.Int) (lit.Int (pos value))

-- an operation on two variables
abbrev pub binary : List ℕ → Base → Op → List ℕ → List ℕ → Item
binary name b operation left right = item.Act (Some (typed_name name (plain b))) operation (left ∷ right ∷ []) [] []

abbrev pub branch : List ℕ → List ℕ → List ℕ → Item
branch condition first second = item.Act None op.Br (condition ∷ []) [] (first ∷ second ∷ [])

abbrev pub jump : List ℕ → Item
jump to = item.Act None op.Jmp [] [] (to ∷ [])

abbrev pub give_back : List ℕ → Item
give_back name = item.Act None op.Ret (name ∷ []) [] []

abbrev pub print : List ℕ → Item
print name = item.Act None op.Print (name ∷ []) [] []

abbrev pub call : List ℕ → List ℕ → List ℕ → Item
call name callee argument = item.Act (Some (typed_name name (plain base.Int))) op.Call (argument ∷ []) (callee ∷ []) []

-- ---- the program

-- the two constants of function j of the demo of n functions
abbrev pub factor_of : (n j : ℕ) → ℕ
factor_of n j = (37 * j + 11 * n) % 101 + 1

abbrev pub divisor_of : (n j : ℕ) → ℕ
divisor_of n j = (53 * j + n) % 97 + 1

-- a letter with the decimal of a number behind it
abbrev pub numbered_name : (letter number : ℕ) → List ℕ
numbered_name letter number = letter ∷ decimal number

-- the name of function j, `f` and its number, and that of its result, `r` and its number
abbrev pub function_name : ℕ → List ℕ
function_name j = numbered_name 102 j

abbrev pub result_name : ℕ → List ℕ
result_name j = numbered_name 114 j

-- a loop over i from 0 to n - 1, which sums up i times a, divided by b, less a where that is greater than a
abbrev pub summing : (a b : ℕ) → List Item
summing a b =
    constant (codes "one") 1 ∷
    constant (codes "a") a ∷
    constant (codes "b") b ∷
    constant (codes "s") 0 ∷
    constant (codes "i") 0 ∷
    label (codes "head") ∷
    binary (codes "c") base.Bool op.Lt (codes "i") (codes "n") ∷
    branch (codes "c") (codes "body") (codes "done") ∷
    label (codes "body") ∷
    binary (codes "t") base.Int op.Mul (codes "i") (codes "a") ∷
    binary (codes "u") base.Int op.Div (codes "t") (codes "b") ∷
    binary (codes "s") base.Int op.Add (codes "s") (codes "u") ∷
    binary (codes "o") base.Bool op.Gt (codes "u") (codes "a") ∷
    branch (codes "o") (codes "big") (codes "next") ∷
    label (codes "big") ∷
    binary (codes "s") base.Int op.Sub (codes "s") (codes "a") ∷
    label (codes "next") ∷
    binary (codes "i") base.Int op.Add (codes "i") (codes "one") ∷
    jump (codes "head") ∷
    label (codes "done") ∷
    give_back (codes "s") ∷ []

-- function j of the demo of n functions
abbrev pub demo_function : (n j : ℕ) → FuncTree
demo_function n j = record {
  name = function_name j;
  args = typed_name (codes "n") (plain base.Int) ∷ [];
  ret = Some (plain base.Int);
  code = summing (factor_of n j) (divisor_of n j);
}

-- what `main` does with function j
abbrev pub calling : ℕ → List Item
calling j = call (result_name j) (function_name j) (codes "n") ∷ print (result_name j) ∷ []

-- it calls the functions in order, and prints what each returns
abbrev pub demo_main : ℕ → FuncTree
demo_main n = record {
  name = main_name;
  args = [];
  ret = None;
  code = constant (codes "n") 40 ∷ flat_map calling (range_with_len 0 n);
}

-- The demo of n functions: these and `main`.
abbrev pub demo_tree : ℕ → Tree
demo_tree n = record {
  imports = [];
  funcs = map (demo_function n) (range_with_len 0 n) ++ demo_main n ∷ [];
}
