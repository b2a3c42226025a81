-- How many items and functions a program and its tree have.
use Rattle.std.proofs.Common.{◌≡◌, ℕ, ◌+◌, ◌*◌, ◌<◌, ◌≤◌, List, [], ◌∷◌, length, map, get_or, All, refl, sym, ap, ◌∙◌, subst, arith}
use Rattle.std.specs.List.{sum_by}
use Rattle.std.proofs.lemmas.List.{length-map, get_or-map}
use Rattle.std.proofs.lemmas.List.Elements.{All-nil, All-cons, All-head, All-tail}
use Rattle.std.proofs.lemmas.List.Sums.{sum_by-cons}
use Rattle.bril_tree.specs.declared.function_tree.FuncTree.{FuncTree}
use Rattle.bril_tree.specs.declared.numbered_function.Func.{Func}
use Rattle.bril_tree.specs.declared.program.Prog.{Prog}
use Rattle.bril_tree.specs.declared.tree.Tree.{Tree}
use Rattle.bril_tree.specs.Numbered.{Numbered, function_tree, item_tree, variable_names, names_of_functions, tree_of, tree_size}
use Rattle.bril_tree.specs.Size.{item_count, IsCounted}
use Rattle.bril_tree.proofs.Trees.{numbered-tree_of}

-- so many functions of so many items have less than 2^64 items
pub sum-counted : (xs : List Func) → All (λ (f : Func). length f.code < 4294967295) xs → sum_by (λ (f : Func). length f.code) xs ≤ 4294967294 * length xs
sum-counted [] h = omega arith
sum-counted (x ∷ xs) h =
    let first = All-head (λ (f : Func). length f.code < 4294967295) x xs h in
    let rest = sum-counted xs (All-tail (λ (f : Func). length f.code < 4294967295) x xs h) in
    let e = sum_by-cons (λ (f : Func). length f.code) x xs in
    omega arith

pub counted-size : (p : Prog) → IsCounted p → item_count p < 18446744073709551616
counted-size p c = let h = sum-counted p.funcs c.items in let n = c.functions in omega arith

-- a numbered program has as many items as its tree
pub size-tree_of : (p : Prog) → tree_size (tree_of p) ≡ item_count p
size-tree_of p = by p.funcs
  where
    by : (xs : List Func) → sum_by (λ (f : FuncTree). length f.code) (map (function_tree (names_of_functions p.funcs)) xs) ≡ sum_by (λ (f : Func). length f.code) xs
    by [] = refl
    by (x ∷ xs) =
        let one = length-map x.code (item_tree (names_of_functions p.funcs) (variable_names x.vars) x.labels) in
        let rest = by xs in
        sum_by-cons (λ (f : FuncTree). length f.code) (function_tree (names_of_functions p.funcs) x) (map (function_tree (names_of_functions p.funcs)) xs) ∙ (λ i. one i + rest i) ∙ sym (sum_by-cons (λ (f : Func). length f.code) x xs)

pub items_numbered : (tree : Tree) (p : Prog) → Numbered tree p → item_count p ≡ tree_size tree
items_numbered tree p of_p = sym (size-tree_of p) ∙ ap tree_size (sym (numbered-tree_of tree p of_p))

-- and as many functions
pub functions_numbered : (tree : Tree) (p : Prog) → Numbered tree p → length p.funcs ≡ length tree.funcs
functions_numbered tree p of_p = sym (ap length of_p.functions ∙ length-map p.funcs (function_tree (names_of_functions p.funcs)))

-- of which each has as many items
pub items_bounded : (tree : Tree) (p : Prog) (n : ℕ) → Numbered tree p → All (λ (f : FuncTree). length f.code < n) tree.funcs → All (λ (f : Func). length f.code < n) p.funcs
items_bounded tree p n of_p h k d less =
    let fs = names_of_functions p.funcs in
    let many = functions_numbered tree p of_p in
    let here : get_or tree.funcs k (function_tree fs d) ≡ function_tree fs (get_or p.funcs k d) =
    ap (λ l. get_or l k (function_tree fs d)) of_p.functions ∙ get_or-map (function_tree fs) p.funcs k d (function_tree fs d) less in
    let bound = h k (function_tree fs d) (omega (arith, many, less)) in
    let f = get_or p.funcs k d in
    let same : length (get_or tree.funcs k (function_tree fs d)).code ≡ length f.code = ap (λ (g : FuncTree). length g.code) here ∙ length-map f.code (item_tree fs (variable_names f.vars) f.labels) in
    subst (λ m. m < n) same bound

-- no function has more items than all together
pub each_within : (n : ℕ) (xs : List FuncTree) → sum_by (λ (f : FuncTree). length f.code) xs < n → All (λ (f : FuncTree). length f.code < n) xs
each_within n [] less = All-nil (λ (f : FuncTree). length f.code < n)
each_within n (x ∷ xs) less =
    let e = sum_by-cons (λ (f : FuncTree). length f.code) x xs in
    All-cons (λ (f : FuncTree). length f.code < n) x xs (omega arith) (each_within n xs (omega arith))
