-- The sweep over the items of a function: each is laid out with the array of its point.
use Rattle.std.proofs.Common.{◌≡◌, ◌⊎◌, ℕ, zero, suc, ◌+◌, ◌<◌, ◌≤◌, List, [], ◌∷◌, ◌++◌, length, Option, refl, sym, ap, subst, ◌∙◌, inl, inr, arith, add-one, append_assoc}
use Rattle.std.proofs.Math.ListN.{get_or-append}
use Rattle.std.proofs.Math.Seq.{get_or-append_seam}
use Rattle.std.proofs.lemmas.List.{append-nil, length-append}
use Rattle.bril_tree.specs.declared.function_tree.Item.{Item}
use Rattle.bril_tree.specs.declared.numbered_function.Func.{Func}
use Rattle.bril_tree.specs.Operand.{Location}
use Rattle.ssa_build.specs.code.Sweep.{IsLaidCode, IsLaidSoFar, LayoutView, before_at, item_at, laid_items, now_at, piece_at, told}
use Rattle.ssa_search.specs.renaming.Tells.{TellsNow}
use Rattle.ssa_search.proofs.lemmas.renaming.Sweeping.{sweep-tells_tables}
use Rattle.ssa_laws.specs.reaching_definitions.Told.{into_at}

-- ---- pieces

laid-push : (p : ℕ → Item → List Item) (k : ℕ) (xs : List Item) (x : Item) → laid_items p k (xs ++ x ∷ []) ≡ laid_items p k xs ++ p (k + length xs) x
laid-push p k [] x = let e : k ≡ k + 0 = omega arith in append-nil (p k x) ∙ ap (λ n. p n x) e
laid-push p k (y ∷ ys) x =
    let e : k + 1 + length ys ≡ k + length (y ∷ ys) = omega arith in
    ap (λ l. p k y ++ l) (laid-push p (k + 1) ys x) ∙ sym (append_assoc (p k y) (laid_items p (k + 1) ys) (p (k + 1 + length ys) x)) ∙ ap (λ n. (p k y ++ laid_items p (k + 1) ys) ++ p n x) e

laid-same : (p q : ℕ → Item → List Item) (bound : ℕ) → ((i : ℕ) (x : Item) → i < bound → p i x ≡ q i x) → (k : ℕ) (xs : List Item) → k + length xs ≤ bound → laid_items p k xs ≡ laid_items q k xs
laid-same p q bound same k [] low = refl
laid-same p q bound same k (x ∷ xs) low =
    let here = same k x (omega arith) in
    let rest = laid-same p q bound same (k + 1) xs (omega arith) in
    λ i. here i ++ rest i

-- ---- arrays

now-old : (nows : List (List ℕ)) (now : List ℕ) (i : ℕ) → i < length nows → now_at (nows ++ now ∷ []) i ≡ now_at nows i
now-old nows now i low = get_or-append nows (now ∷ []) [] i low

now-last : (nows : List (List ℕ)) (now : List ℕ) (i : ℕ) → length nows ≡ i → now_at (nows ++ now ∷ []) i ≡ now
now-last nows now i e = ap (now_at (nows ++ now ∷ [])) (sym e) ∙ get_or-append_seam nows now [] []

module _ (F : Func) (sites : List (Option (List ℕ))) (l : LayoutView) (gets : ℕ → Location → Option ℕ) where
  abbrev So : ℕ → List Item → List Item → List ℕ → Type 0
  So point items made now = IsLaidSoFar F sites l gets point items made now

  pub so-none : (now : List ℕ) → TellsNow (told F sites l gets 0) now → So 0 [] [] now
  so-none now tells = record { nows = []; long = refl; tells = λ i low. absurd (omega (arith, low)); is = refl; here = tells }

  -- the arrays with one more
  more-tells : (point : ℕ) (items made : List Item) (now : List ℕ) (t : So point items made now) → (i : ℕ) → (i < point) ⊎ (i ≡ point) → TellsNow (told F sites l gets i) (now_at (t.nows ++ now ∷ []) i)
  more-tells point items made now t i (inl low) = subst (λ n. TellsNow (told F sites l gets i) n) (sym (now-old t.nows now i (let h = t.long in omega (arith, h, low)))) (t.tells i low)
  more-tells point items made now t i (inr e) =
      subst (λ n. TellsNow (told F sites l gets i) n) (sym (now-last t.nows now i (t.long ∙ sym e))) (subst (λ k. TellsNow (told F sites l gets k) now) (sym e) t.here)

  more-same : (point : ℕ) (items made : List Item) (now : List ℕ) (t : So point items made now) → point ≡ length items → laid_items (piece_at F sites l t.nows) 0 items ≡ laid_items (piece_at F sites l (t.nows ++ now ∷ [])) 0 items
  more-same point items made now t e =
      laid-same (piece_at F sites l t.nows) (piece_at F sites l (t.nows ++ now ∷ [])) point
      (λ i x low. ap (λ (n : List ℕ). before_at F sites l n i ++ item_at F sites l n i x ∷ []) (sym (now-old t.nows now i (let h = t.long in omega (arith, h, low))))) 0 items (omega arith)

  split : (i point : ℕ) → i < point + 1 → (i < point) ⊎ (i ≡ point)
  split i point low = grind arith

  pub so-more : (point : ℕ) (items made : List Item) (now : List ℕ) → So point items made now → point ≡ length items → (x : Item) (made' : List Item) (now' : List ℕ)
      → made' ≡ made ++ (before_at F sites l now point ++ item_at F sites l now point x ∷ []) → TellsNow (told F sites l gets (suc point)) now' → So (point + 1) (items ++ x ∷ []) made' now'
  so-more point items made now t e x made' now' more tells = record {
    nows = t.nows ++ now ∷ [];
    long = let h = length-append t.nows (now ∷ []) in let k = t.long in omega (arith, h, k);
    tells = λ i low. more-tells point items made now t i (split i point low);
    is = more ∙ ap (λ m. m ++ (before_at F sites l now point ++ item_at F sites l now point x ∷ [])) (t.is ∙ more-same point items made now t e)
        ∙ ap (λ (n : List ℕ). laid_items (piece_at F sites l (t.nows ++ now ∷ [])) 0 items ++ (before_at F sites l n point ++ item_at F sites l n point x ∷ [])) (sym (now-last t.nows now point t.long))
        ∙ ap (λ (k : ℕ). laid_items (piece_at F sites l (t.nows ++ now ∷ [])) 0 items ++ piece_at F sites l (t.nows ++ now ∷ []) k x) (e ∙ here)
        ∙ sym (laid-push (piece_at F sites l (t.nows ++ now ∷ [])) 0 items x);
    here = subst (λ n. TellsNow (told F sites l gets n) now') (sym (add-one point)) tells;
  }
    where
      here : length items ≡ 0 + length items
      here = omega arith

  pub so-all : (items made : List Item) (now : List ℕ) → So (length items) items made now → length items ≡ length F.code → (made' : List Item) (end : ℕ) → end ≡ length F.code → made' ≡ made ++ before_at F sites l now end → IsLaidCode F sites l gets items made'
  so-all items made now t long made' end e more = record {
    nows = t.nows ++ now ∷ [];
    tells = λ i low. more-tells (length items) items made now t i (split i (length items) (omega arith));
    is = more ∙ ap (λ m. m ++ before_at F sites l now end) (t.is ∙ more-same (length items) items made now t refl)
        ∙ ap (λ (k : ℕ). laid_items (piece_at F sites l (t.nows ++ now ∷ [])) 0 items ++ before_at F sites l now k) e
        ∙ ap (λ (n : List ℕ). laid_items (piece_at F sites l (t.nows ++ now ∷ [])) 0 items ++ before_at F sites l n (length F.code)) (sym (now-last t.nows now (length F.code) (t.long ∙ long)));
  }

-- the array tells just before an item what it tells there at a label too
pub tells-into : (F : Func) (sites : List (Option (List ℕ))) (l : LayoutView) (gets : ℕ → Location → Option ℕ) (point : ℕ) (now : List ℕ) → TellsNow (told F sites l gets point) now → TellsNow (into_at F.code F.args gets point) now
tells-into F sites l gets zero now tells = (sweep-tells_tables F.code F.args gets now).0 tells
tells-into F sites l gets (suc i) now tells = (sweep-tells_tables F.code F.args gets now).1 i tells
