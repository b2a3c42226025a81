-- Laid code is a list with others put in before its items, so each item stands at its position.
use Rattle.std.proofs.Common.{◌≡◌, ℕ, zero, suc, ◌+◌, List, [], ◌∷◌, ◌++◌, length, Option, Some, refl, sym, ap, ◌∙◌, arith, add-one, append_assoc}
use Rattle.std.specs.Prelude.{slice_get}
use Rattle.std.proofs.lemmas.Option.{slice_get_past, slice_get_within}
use Rattle.bril_tree.specs.declared.function_tree.Item.{Item}
use Rattle.bril_tree.specs.declared.numbered_function.Func.{Func}
use Rattle.pass_edit_laws.specs.plan.Spliced.{ItemsSpliced, position_of, spliced, start_of}
use Rattle.pass_edit_laws.proofs.lemmas.plan.Splicing.{items_spliced}
use Rattle.ssa_build.specs.code.Sweep.{LayoutView, item_at, laid_items, now_at, piece_at}
use Rattle.ssa_build.specs.tree.Standing.{ItemsStand, LaidItemsStand, before_in, nothing}

-- ---- pieces as a spliced list

mapped : (ℕ → Item → Item) → ℕ → List Item → List Item
mapped f k [] = []
mapped f k (x ∷ xs) = f k x ∷ mapped f (suc k) xs

mapped-long : (f : ℕ → Item → Item) (k : ℕ) (xs : List Item) → length (mapped f k xs) ≡ length xs
unfolding mapped
mapped-long f k [] = refl
mapped-long f k (x ∷ xs) = ap suc (mapped-long f (suc k) xs)

mapped-get : (f : ℕ → Item → Item) (k : ℕ) (xs : List Item) (i : ℕ) (x : Item) → slice_get xs i ≡ Some x → slice_get (mapped f k xs) i ≡ Some (f (k + i) x)
unfolding mapped
mapped-get f k [] i x e = absurd cc
mapped-get f k (y ∷ ys) zero x e = let same : y ≡ x = cc in let here : k ≡ k + 0 = omega arith in ap (λ z. Some (f k z)) same ∙ ap (λ n. Some (f n x)) here
mapped-get f k (y ∷ ys) (suc i) x e = let next : suc k + i ≡ k + suc i = omega arith in mapped-get f (suc k) ys i x e ∙ ap (λ n. Some (f n x)) next

module _ (b : ℕ → List Item) (f : ℕ → Item → Item) where
  abbrev piece : ℕ → Item → List Item
  piece i x = b i ++ f i x ∷ []

  pieces-spliced : (k : ℕ) (xs : List Item) → laid_items piece k xs ++ b (k + length xs) ≡ spliced b nothing k (mapped f k xs)
  unfolding mapped
  pieces-spliced k [] = let end : k + 0 ≡ k = omega arith in ap b end
  pieces-spliced k (x ∷ xs) =
      let end : k + length (x ∷ xs) ≡ suc k + length xs = omega arith in
      let rest : laid_items piece (k + 1) xs ++ b (k + length (x ∷ xs)) ≡ spliced b nothing (suc k) (mapped f (suc k) xs) =
      ap (λ n. laid_items piece n xs ++ b (k + length (x ∷ xs))) (add-one k) ∙ ap (λ n. laid_items piece (suc k) xs ++ b n) end ∙ pieces-spliced (suc k) xs in
      append_assoc (b k ++ f k x ∷ []) (laid_items piece (k + 1) xs) (b (k + length (x ∷ xs))) ∙ append_assoc (b k) (f k x ∷ []) (laid_items piece (k + 1) xs ++ b (k + length (x ∷ xs)))
      ∙ ap (λ (r : List Item). b k ++ f k x ∷ r) rest

module _ (F : Func) (sites : List (Option (List ℕ))) (l : LayoutView) (nows : List (List ℕ)) where
  abbrev b : ℕ → List Item
  b i = before_in F sites l nows i

  abbrev f : ℕ → Item → Item
  f i x = item_at F sites l (now_at nows i) i x

  start : (i : ℕ) → 0 + i ≡ i
  start i = omega arith

  law : ItemsSpliced Item
  law = items_spliced Item

  laid-at : (items made : List Item) → made ≡ spliced b nothing 0 (mapped f 0 items) → ItemsStand F sites l nows items made
  laid-at items made whole = record {
    there = λ i x at.
        ap (λ (m : List Item). slice_get m (position_of b nothing i)) whole ∙ law.there b nothing (mapped f 0 items) i (let h = slice_get_within items i x at in let m = mapped-long f 0 items in omega (arith, h, m)) ∙ mapped-get f 0 items i x at
        ∙ ap (λ n. Some (f n x)) (start i);
    in_front = λ i n low less.
        ap (λ (m : List Item). slice_get m (start_of b nothing i + n)) whole ∙ law.in_front b nothing (mapped f 0 items) i n (let m = mapped-long f 0 items in omega (arith, low, m)) less;
    end = ap (λ (m : List Item). slice_get m (position_of b nothing (length items))) whole ∙ law.there b nothing (mapped f 0 items) (length items) (let m = mapped-long f 0 items in omega (arith, m)) ∙ slice_get_past (mapped f 0 items) (length items) (let m = mapped-long f 0 items in omega (arith, m));
  }

  laid-whole : (items made : List Item) → length items ≡ length F.code → made ≡ laid_items (piece_at F sites l nows) 0 items ++ b (length F.code) → made ≡ spliced b nothing 0 (mapped f 0 items)
  laid-whole items made long is = is ∙ ap (λ n. laid_items (piece_at F sites l nows) 0 items ++ b n) (sym long ∙ sym (start (length items))) ∙ pieces-spliced b f 0 items

pub laid-stand : LaidItemsStand
laid-stand F sites l gets items made long t = laid-at F sites l t.nows items made (laid-whole F sites l t.nows items made long t.is)
