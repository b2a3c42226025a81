-- The functions of a program, one after another.
use Rattle.std.proofs.Common.{◌≡◌, ℕ, zero, suc, ◌+◌, ◌<◌, ◌≤◌, List, [], ◌∷◌, length, map, Some, None, sym, ap, subst, ◌∙◌, ⊎_elim, arith}
use Rattle.std.specs.Prelude.{slice_get}
use Rattle.std.specs.List.{AllZip, sum_by}
use Rattle.std.proofs.lemmas.Bool.{cases_lt}
use Rattle.std.proofs.lemmas.List.Sums.{sum_by-cons}
use Rattle.std.proofs.lemmas.Option.{same_Some, slice_get_within}
use Rattle.bril_tree.specs.declared.function_tree.FuncTree.{FuncTree}
use Rattle.bril_tree.specs.declared.numbered_function.Func.{Func}
use Rattle.bril_tree.specs.declared.program.Prog.{Prog}
use Rattle.bril_tree.specs.declared.tree.Tree.{Tree}
use Rattle.bril_tree.specs.Numbered.{names_of_functions, tree_of, variable_names}
use Rattle.bril_tree.proofs.Elements.{zip-get, zip-long}
use Rattle.pass_make.proofs.Each.{tree_of_function}
use Rattle.coalesce.specs.meaning.Merged.{NoneApart}
use Rattle.coalesce.specs.Copies.{copies_in, copies_of_code, copies_of_tree}
use Rattle.coalesce.specs.Rounds.{HasNoneApart, HasNoneBelow, IsRoundFunction, IsRoundTree}
use Rattle.coalesce.proofs.Fewer.{copies-kept, round-left, round-settled}

module _ (P : Prog) where
  abbrev copies : FuncTree → ℕ
  copies g = copies_in g.code

  kept : (F : Func) → copies (tree_of_function P F) ≡ copies_of_code F.code
  kept F = copies-kept (names_of_functions P.funcs) (variable_names F.vars) F.labels F.code

  -- no function has more copies than before
  sum-left : (xs : List Func) (ys : List FuncTree) → AllZip (IsRoundFunction P) xs ys → sum_by copies ys ≤ sum_by copies (map (tree_of_function P) xs)
  sum-left [] [] z = omega arith
  sum-left [] (y ∷ ys) z = absurd z
  sum-left (x ∷ xs) [] z = absurd z
  sum-left (x ∷ xs) (y ∷ ys) z =
      let one = round-left P x y z.0 in
      let same = kept x in
      let rest = sum-left xs ys z.1 in
      let new = sum_by-cons copies y ys in
      let old = sum_by-cons copies (tree_of_function P x) (map (tree_of_function P) xs) in
      omega arith

  -- so there are fewer in all where one has fewer
  sum-fewer : (xs : List Func) (ys : List FuncTree) → AllZip (IsRoundFunction P) xs ys → (k : ℕ) (F : Func) (g : FuncTree) → slice_get xs k ≡ Some F → slice_get ys k ≡ Some g → copies g < copies_of_code F.code → sum_by copies ys < sum_by copies (map (tree_of_function P) xs)
  sum-fewer [] ys z k F g of at few = absurd (let n : None ≡ Some F = of in cc)
  sum-fewer (x ∷ xs) [] z k F g of at few = absurd z
  sum-fewer (x ∷ xs) (y ∷ ys) z zero F g of at few =
      let one : copies y < copies_of_code x.code = subst (λ (h : FuncTree). copies h < copies_of_code x.code) (sym (same_Some y g at)) (subst (λ (G : Func). copies g < copies_of_code G.code) (sym (same_Some x F of)) few) in
      let same = kept x in
      let rest = sum-left xs ys z.1 in
      let new = sum_by-cons copies y ys in
      let old = sum_by-cons copies (tree_of_function P x) (map (tree_of_function P) xs) in
      omega arith
  sum-fewer (x ∷ xs) (y ∷ ys) z (suc k) F g of at few =
      let one = round-left P x y z.0 in
      let same = kept x in
      let rest = sum-fewer xs ys z.1 k F g of at few in
      let new = sum_by-cons copies y ys in
      let old = sum_by-cons copies (tree_of_function P x) (map (tree_of_function P) xs) in
      omega arith

  module _ (tree : Tree) (made : IsRoundTree P tree) (at : ℕ) where
    -- each function has a tree beside it
    pub tree_within : (funcs : List Func) → funcs ≡ P.funcs → (trees : List FuncTree) → trees ≡ tree.funcs → at < length funcs → at < length trees
    tree_within funcs all trees all_made within = omega (arith, within, ap length all, zip-long (IsRoundFunction P) P.funcs tree.funcs made.functions, ap length all_made)

    pub tree-fewer : (F : Func) (g : FuncTree) → slice_get P.funcs at ≡ Some F → slice_get tree.funcs at ≡ Some g → copies_in g.code < copies_of_code F.code → copies_of_tree tree < copies_of_tree (tree_of P)
    tree-fewer F g of there few = sum-fewer P.funcs tree.funcs made.functions at F g of there few

    -- one function more in which no copy is apart
    pub none-more : (F : Func) (g : FuncTree) → slice_get P.funcs at ≡ Some F → slice_get tree.funcs at ≡ Some g → copies_of_code F.code ≤ copies_in g.code → HasNoneBelow P at → HasNoneBelow P (at + 1)
    none-more F g of there as_many none f G low is = ⊎_elim (λ less. none f G less is) (λ high. here (omega (arith, low, high))) (cases_lt f at)
      where
        here : f ≡ at → NoneApart G
        here e = subst NoneApart (same_Some F G (sym of ∙ ap (slice_get P.funcs) (sym e) ∙ is)) (round-settled P F g (zip-get (IsRoundFunction P) P.funcs tree.funcs at F g made.functions of there) as_many)

  pub none-in_all : (n : ℕ) → length P.funcs ≤ n → HasNoneBelow P n → HasNoneApart P
  none-in_all n over none f F of = none f F (let inside = slice_get_within P.funcs f F of in omega (arith, over)) of
