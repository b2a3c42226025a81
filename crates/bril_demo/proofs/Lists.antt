-- One function more.
use Rattle.std.proofs.Common.{◌≡◌, ◌∙◌, sym, ap, ℕ, zero, suc, ◌+◌, List, [], ◌∷◌, ◌++◌, map, arith}
use Rattle.std.specs.Prelude.{codes}
use Rattle.std.specs.List.{flat_map, range_with_len}
use Rattle.std.proofs.lemmas.List.Concat.{flat_map-append}
use Rattle.std.proofs.lemmas.List.FromFn.{map-range_with_len_more}
use Rattle.bril_tree.specs.declared.function_tree.FuncTree.{FuncTree}
use Rattle.bril_tree.specs.declared.function_tree.Item.{Item}
use Rattle.bril_demo.specs.Demo.{calling, constant, demo_function}

range_more : (a n : ℕ) → range_with_len a (suc n) ≡ range_with_len a n ++ (a + n) ∷ []
range_more a zero = let e : a ≡ a + 0 = omega arith in ap (λ (k : ℕ). k ∷ []) e
range_more a (suc n) =
    let e : (a + 1) + n ≡ a + suc n = omega arith in
    ap (λ (l : List ℕ). a ∷ l) (range_more (a + 1) n ∙ ap (λ (k : ℕ). range_with_len (a + 1) n ++ k ∷ []) e)

calls_more : (n : ℕ) → flat_map calling (range_with_len 0 n) ++ calling n ≡ flat_map calling (range_with_len 0 (n + 1))
calls_more n =
    let e : 0 + n ≡ n = omega arith in
    let s : suc n ≡ n + 1 = omega arith in
    sym (
    ap (λ (k : ℕ). flat_map calling (range_with_len 0 k)) (sym s)
    ∙ ap (flat_map calling) (range_more 0 n)
    ∙ flat_map-append calling (range_with_len 0 n) ((0 + n) ∷ [])
    ∙ ap (λ (k : ℕ). flat_map calling (range_with_len 0 n) ++ calling k) e)

pub called_more : {code : List Item} (n : ℕ) → code ≡ constant (codes "n") 40 ∷ flat_map calling (range_with_len 0 n)
    → code ++ calling n ≡ constant (codes "n") 40 ∷ flat_map calling (range_with_len 0 (n + 1))
called_more n is = ap (λ (l : List Item). l ++ calling n) is ∙ ap (λ (l : List Item). constant (codes "n") 40 ∷ l) (calls_more n)

pub made_more : {funcs : List FuncTree} (n j : ℕ) → funcs ≡ map (demo_function n) (range_with_len 0 j) → funcs ++ demo_function n j ∷ [] ≡ map (demo_function n) (range_with_len 0 (j + 1))
made_more n j is = let e : 0 + j ≡ j = omega arith in ap (λ (l : List FuncTree). l ++ demo_function n j ∷ []) is ∙ sym (map-range_with_len_more (demo_function n) 0 j j e)
