-- The source that is written for a tree: no parentheses where there are no arguments, and functions before arguments
-- before labels.
use Rattle.std.proofs.Common.{◌≡◌, ℕ, List, [], ◌∷◌, ◌++◌, map, Option, Some, None, refl, ap}
use Rattle.bril_tree.specs.declared.function_tree.Dest.{Dest}
use Rattle.bril_tree.specs.declared.function_tree.FuncTree.{FuncTree}
use Rattle.bril_tree.specs.declared.function_tree.Item.{Item}
use Rattle.bril_tree.specs.declared.function_tree.Item.TheVariants as item
use Rattle.bril_tree.specs.declared.tree.Tree.{Tree}
use Rattle.bril_grammar.specs.Written.{Operand, VariableOperand, FunctionOperand, LabelOperand, Line, LabelLine, ConstLine, ActLine, Written, Source, variables, functions, labels, item_of, listed, function_of, tree_of}

-- the arguments between parentheses, where there are some
abbrev pub some_args : List Dest → Option (List Dest)
some_args [] = None
some_args (arg ∷ args) = Some (arg ∷ args)

abbrev pub operands_of : (args funcs labels : List (List ℕ)) → List Operand
operands_of args funcs labels = map FunctionOperand funcs ++ (map VariableOperand args ++ (map LabelOperand labels ++ []))

abbrev pub line_of : Item → Line
line_of (item.Label name) = LabelLine name
line_of (item.Const dest ty value) = ConstLine dest ty value
line_of (item.Act dest operation args funcs labels) = ActLine dest operation (operands_of args funcs labels)

abbrev pub written_of : FuncTree → Written
written_of f = record { name = f.name; args = some_args f.args; ret = f.ret; lines = map line_of f.code }

abbrev pub source_of : Tree → Source
source_of tree = record { imports = tree.imports; functions = map written_of tree.funcs }

variables-labels : (ls : List (List ℕ)) → variables (map LabelOperand ls ++ []) ≡ []
variables-labels [] = refl
variables-labels (l ∷ ls) = variables-labels ls

variables-variables : (xs ls : List (List ℕ)) → variables (map VariableOperand xs ++ (map LabelOperand ls ++ [])) ≡ xs
variables-variables [] ls = variables-labels ls
variables-variables (x ∷ xs) ls = ap (λ l. x ∷ l) (variables-variables xs ls)

variables-operands : (xs fs ls : List (List ℕ)) → variables (operands_of xs fs ls) ≡ xs
variables-operands xs [] ls = variables-variables xs ls
variables-operands xs (f ∷ fs) ls = variables-operands xs fs ls

functions-labels : (ls : List (List ℕ)) → functions (map LabelOperand ls ++ []) ≡ []
functions-labels [] = refl
functions-labels (l ∷ ls) = functions-labels ls

functions-variables : (xs ls : List (List ℕ)) → functions (map VariableOperand xs ++ (map LabelOperand ls ++ [])) ≡ []
functions-variables [] ls = functions-labels ls
functions-variables (x ∷ xs) ls = functions-variables xs ls

functions-operands : (xs fs ls : List (List ℕ)) → functions (operands_of xs fs ls) ≡ fs
functions-operands xs [] ls = functions-variables xs ls
functions-operands xs (f ∷ fs) ls = ap (λ l. f ∷ l) (functions-operands xs fs ls)

labels-labels : (ls : List (List ℕ)) → labels (map LabelOperand ls ++ []) ≡ ls
labels-labels [] = refl
labels-labels (l ∷ ls) = ap (λ m. l ∷ m) (labels-labels ls)

labels-variables : (xs ls : List (List ℕ)) → labels (map VariableOperand xs ++ (map LabelOperand ls ++ [])) ≡ ls
labels-variables [] ls = labels-labels ls
labels-variables (x ∷ xs) ls = labels-variables xs ls

labels-operands : (xs fs ls : List (List ℕ)) → labels (operands_of xs fs ls) ≡ ls
labels-operands xs [] ls = labels-variables xs ls
labels-operands xs (f ∷ fs) ls = labels-operands xs fs ls

item_of-line : (i : Item) → item_of (line_of i) ≡ i
item_of-line (item.Label name) = refl
item_of-line (item.Const dest ty value) = refl
item_of-line (item.Act dest operation args funcs ls) = λ k. item.Act dest operation (variables-operands args funcs ls k) (functions-operands args funcs ls k) (labels-operands args funcs ls k)

listed-some : (args : List Dest) → listed (some_args args) ≡ args
listed-some [] = refl
listed-some (arg ∷ args) = refl

map-back : {A B : Type 0} (f : A → B) (g : B → A) (back : (x : A) → g (f x) ≡ x) (xs : List A) → map g (map f xs) ≡ xs
map-back f g back [] = refl
map-back f g back (x ∷ xs) = λ i. back x i ∷ map-back f g back xs i

function_of-written : (f : FuncTree) → function_of (written_of f) ≡ f
function_of-written f = λ i. record { name = f.name; args = listed-some f.args i; ret = f.ret; code = map-back line_of item_of item_of-line f.code i }

-- it is a source of the tree
pub tree_of-source : (tree : Tree) → tree_of (source_of tree) ≡ tree
tree_of-source tree = λ i. record { imports = tree.imports; funcs = map-back written_of function_of function_of-written tree.funcs i }
