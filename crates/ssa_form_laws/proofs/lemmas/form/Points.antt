-- The points of laid code: at each stands an item of the function, or one that was put in before an item.
use Rattle.std.proofs.Common.{◌≡◌, ℕ, zero, suc, ◌+◌, ◌-◌, ◌<◌, ◌≤◌, List, [], ◌∷◌, ◌++◌, length, Option, Some, None, refl, sym, ap, ◌∙◌, ⊎_elim, arith, add-one, append_assoc}
use Rattle.std.specs.Prelude.{slice_get}
use Rattle.std.specs.Option.{option_map}
use Rattle.std.proofs.lemmas.Bool.{cases_lt}
use Rattle.std.proofs.lemmas.List.{length-map}
use Rattle.std.proofs.lemmas.Option.{same_Some, slice_get-map, slice_get_within}
use Rattle.bril_tree.specs.declared.function_tree.FuncTree.{FuncTree}
use Rattle.bril_tree.specs.declared.function_tree.Item.{Item}
use Rattle.bril_tree.specs.declared.numbered.Instr.{Instr}
use Rattle.bril_tree.specs.declared.numbered_function.Func.{Func}
use Rattle.bril_tree.specs.Numbered.{function_tree, item_tree, variable_names}
use Rattle.pass_edit_laws.specs.plan.Spliced.{position_of, start_of}
use Rattle.pass_edit_laws.proofs.lemmas.plan.Splicing.{get-left, get-right}
use Rattle.ssa_build.specs.code.Sweep.{LayoutView, item_at, laid_items, layout_of, now_at}
use Rattle.ssa_search.specs.gets.Wants.{gets_of}
use Rattle.ssa_build.specs.tree.Made.{IsLaidFunction}
use Rattle.ssa_build.specs.tree.Standing.{ItemsStand, before_in, nothing}
use Rattle.ssa_build.proofs.lemmas.tree.Standing.{laid-stand}

-- ---- pieces, one for each item

module _ (b : ℕ → List Item) (f : ℕ → Item → Item) where
  abbrev pub piece : ℕ → Item → List Item
  piece i x = b i ++ f i x ∷ []

  -- what stands at a place of the pieces from item k on
  data Stands (k : ℕ) (xs : List Item) (j : ℕ) (y : Item) : Type 0 where
    Own : (i : ℕ) (x : Item) → slice_get xs i ≡ Some x → start_of b nothing k + j ≡ position_of b nothing (k + i) → y ≡ f (k + i) x → Stands k xs j y
    Ahead : (i n : ℕ) → i ≤ length xs → slice_get (b (k + i)) n ≡ Some y → start_of b nothing k + j ≡ start_of b nothing (k + i) + n → Stands k xs j y

  further : (k : ℕ) (x : Item) (xs : List Item) (j m : ℕ) (y : Item) → j ≡ length (b k) + suc m → Stands (suc k) xs m y → Stands k (x ∷ xs) j y
  further k x xs j m y e (Own i a at p q) =
      let s : suc k + i ≡ k + suc i = omega arith in
      let here : start_of b nothing k + j ≡ start_of b nothing (suc k) + m = omega (arith, e) in
      Own (suc i) a at (here ∙ p ∙ ap (position_of b nothing) s) (q ∙ ap (λ n. f n a) s)
  further k x xs j m y e (Ahead i n low at p) =
      let s : suc k + i ≡ k + suc i = omega arith in
      let here : start_of b nothing k + j ≡ start_of b nothing (suc k) + m = omega (arith, e) in
      Ahead (suc i) n (omega (arith, low)) (ap (λ m. slice_get (b m) n) (sym s) ∙ at) (here ∙ p ∙ ap (λ m. start_of b nothing m + n) s)

  -- the first piece comes first
  unrolled : (k : ℕ) (x : Item) (xs : List Item) → laid_items piece k (x ∷ xs) ++ b (k + length (x ∷ xs)) ≡ b k ++ f k x ∷ (laid_items piece (suc k) xs ++ b (suc k + length xs))
  unrolled k x xs =
      let end : k + length (x ∷ xs) ≡ suc k + length xs = omega arith in
      append_assoc (b k ++ f k x ∷ []) (laid_items piece (k + 1) xs) (b (k + length (x ∷ xs))) ∙ append_assoc (b k) (f k x ∷ []) (laid_items piece (k + 1) xs ++ b (k + length (x ∷ xs)))
      ∙ ap (λ n. b k ++ f k x ∷ (laid_items piece n xs ++ b (k + length (x ∷ xs)))) (add-one k) ∙ ap (λ n. b k ++ f k x ∷ (laid_items piece (suc k) xs ++ b n)) end

  stands : (k : ℕ) (xs : List Item) (j : ℕ) (y : Item) → slice_get (laid_items piece k xs ++ b (k + length xs)) j ≡ Some y → Stands k xs j y
  stands k [] j y at = let e : k + 0 ≡ k = omega arith in Ahead 0 j (omega arith) at (ap (λ m. start_of b nothing m + j) (sym e))
  stands k (x ∷ xs) j y at = ⊎_elim ahead (λ ge. by (j - length (b k)) (omega arith) (λ m. stands (suc k) xs m y)) (cases_lt j (length (b k)))
    where
      whole : slice_get (b k ++ f k x ∷ (laid_items piece (suc k) xs ++ b (suc k + length xs))) j ≡ Some y
      whole = ap (λ (l : List Item). slice_get l j) (sym (unrolled k x xs)) ∙ at

      same : k + 0 ≡ k
      same = omega arith

      ahead : j < length (b k) → Stands k (x ∷ xs) j y
      ahead less = Ahead 0 j (omega arith) (ap (λ m. slice_get (b m) j) same ∙ sym (get-left (b k) (f k x ∷ (laid_items piece (suc k) xs ++ b (suc k + length xs))) j less) ∙ whole) (ap (λ m. start_of b nothing m + j) (sym same))

      by : (m : ℕ) → j ≡ length (b k) + m → ((m : ℕ) → slice_get (laid_items piece (suc k) xs ++ b (suc k + length xs)) m ≡ Some y → Stands (suc k) xs m y) → Stands k (x ∷ xs) j y
      by zero e again =
          let here : Some (f k x) ≡ Some y = sym (get-right (b k) (f k x ∷ (laid_items piece (suc k) xs ++ b (suc k + length xs))) 0) ∙ ap (slice_get (b k ++ f k x ∷ (laid_items piece (suc k) xs ++ b (suc k + length xs)))) (sym e) ∙ whole in
          let there : start_of b nothing k + j ≡ position_of b nothing k = omega (arith, e) in
          Own 0 x refl (there ∙ ap (position_of b nothing) (sym same)) (sym (same_Some _ _ here) ∙ ap (λ n. f n x) (sym same))
      by (suc m) e again =
          let rest : slice_get (laid_items piece (suc k) xs ++ b (suc k + length xs)) m ≡ Some y =
          sym (get-right (b k) (f k x ∷ (laid_items piece (suc k) xs ++ b (suc k + length xs))) (suc m)) ∙ ap (slice_get (b k ++ f k x ∷ (laid_items piece (suc k) xs ++ b (suc k + length xs)))) (sym e) ∙ whole in
          further k x xs j m y e (again m rest)

-- ---- a laid function

-- the items of a function, by names
abbrev pub tree_in : List (List ℕ) → Func → Instr → Item
tree_in fs F b = item_tree fs (variable_names F.vars) F.labels b

module _ (fs : List (List ℕ)) (F : Func) (g : FuncTree) (x : IsLaidFunction F (function_tree fs F) g) where
  -- what it is laid out by, and the array of each point
  abbrev pub layout : LayoutView
  layout = layout_of F.vars x.names x.find x.wants.starts x.wants.list x.rows

  abbrev pub now : ℕ → List ℕ
  now i = now_at x.laid.nows i

  -- what stands before item i, where that begins, and where the item stands
  abbrev pub front : ℕ → List Item
  front i = before_in F x.graph.sites layout x.laid.nows i

  abbrev pub begin : ℕ → ℕ
  begin i = start_of front nothing i

  abbrev pub home : ℕ → ℕ
  home i = position_of front nothing i

  -- what stands in place of item i
  abbrev pub own : ℕ → Item → Item
  own i a = item_at F x.graph.sites layout (now i) i a

  -- what stands at a point
  pub data Point (j : ℕ) (y : Item) : Type 0 where
    Home : (i : ℕ) (b : Instr) → slice_get F.code i ≡ Some b → j ≡ home i → y ≡ own i (tree_in fs F b) → Point j y
    Front : (i n : ℕ) → i ≤ length F.code → slice_get (front i) n ≡ Some y → j ≡ begin i + n → Point j y

  pub long : length (function_tree fs F).code ≡ length F.code
  long = length-map F.code (tree_in fs F)

  pub code-made : g.code ≡ x.made
  code-made = ap (λ (h : FuncTree). h.code) x.tree

  tree-back : (i : ℕ) (a : Item) (o : Option Instr) → option_map (tree_in fs F) o ≡ Some a → (b : Instr) × (o ≡ Some b) × (a ≡ tree_in fs F b)
  tree-back i a None e = absurd (let n : None ≡ Some a = e in cc)
  tree-back i a (Some b) e = (b, refl, sym (same_Some _ _ e))

  pub item-back : (i : ℕ) (a : Item) → slice_get (function_tree fs F).code i ≡ Some a → (b : Instr) × (slice_get F.code i ≡ Some b) × (a ≡ tree_in fs F b)
  item-back i a at = tree-back i a (slice_get F.code i) (sym (slice_get-map (tree_in fs F) F.code i) ∙ at)

  pub item-there : (i : ℕ) (b : Instr) → slice_get F.code i ≡ Some b → slice_get (function_tree fs F).code i ≡ Some (tree_in fs F b)
  item-there i b at = slice_get-map (tree_in fs F) F.code i ∙ ap (option_map (tree_in fs F)) at

  pub point : (j : ℕ) (y : Item) → slice_get g.code j ≡ Some y → Point j y
  point j y at = by (stands front own 0 (function_tree fs F).code j y (ap (λ (l : List Item). slice_get l j) (sym (code-made ∙ x.laid.is ∙ ap (λ n. laid_items (piece front own) 0 (function_tree fs F).code ++ front n) end)) ∙ at))
    where
      end : length F.code ≡ 0 + length (function_tree fs F).code
      end = omega (arith, long)

      zeros : (i : ℕ) → 0 + i ≡ i
      zeros i = omega arith

      by : Stands front own 0 (function_tree fs F).code j y → Point j y
      by (Own i a here e q) =
          let b = item-back i a here in
          Home i b.0 b.1 (let s = ap home (zeros i) in omega (arith, e, s)) (q ∙ ap (λ n. own n a) (zeros i) ∙ ap (own i) b.2)
      by (Ahead i n low here e) = Front i n (omega (arith, low, long)) (ap (λ m. slice_get (front m) n) (sym (zeros i)) ∙ here) (let s = ap begin (zeros i) in omega (arith, e, s))

  -- what stands at the home of an item, and before it
  standing : ItemsStand F x.graph.sites layout x.laid.nows (function_tree fs F).code x.made
  standing = laid-stand F x.graph.sites layout (gets_of x.wants) (function_tree fs F).code x.made long x.laid

  pub home-item : (i : ℕ) (b : Instr) → slice_get F.code i ≡ Some b → slice_get g.code (home i) ≡ Some (own i (tree_in fs F b))
  home-item i b at = ap (λ (l : List Item). slice_get l (home i)) code-made ∙ standing.there i (tree_in fs F b) (item-there i b at)

  pub front-item : (i n : ℕ) (y : Item) → i ≤ length F.code → slice_get (front i) n ≡ Some y → slice_get g.code (begin i + n) ≡ Some y
  front-item i n y low at =
      ap (λ (l : List Item). slice_get l (begin i + n)) code-made ∙ standing.in_front i n (omega (arith, low, long)) (slice_get_within (front i) n y at) ∙ at
