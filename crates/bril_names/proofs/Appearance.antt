-- Numbers that names get in the order of their appearance: the names determine them.
use Rattle.std.proofs.Common.{◌≡◌, ℕ, suc, ◌+◌, ◌<◌, ◌≤◌, Bool, true, false, ltb, eqb, List, [], ◌∷◌, length, map, Some, None, refl, sym, ap, ◌∙◌, arith, below_more}
use Rattle.std.proofs.lemmas.Bool.{cond-true, cond-false, ltb-true, eqb-true}
use Rattle.bril_tree.specs.FunctionForm.{known_after}
use Rattle.bril_tree.specs.Numbered.{named}
use Rattle.bril_tree.proofs.Appearance.{known_grows}
use Rattle.bril_names.specs.Faults.{Differ}
use Rattle.bril_names.specs.Range.{AreBelow}
use Rattle.bril_names.proofs.Naming.{one_number}

-- What the next number of a list is: known already, the next new one, or none that may come.
pub data Seen (known x : ℕ) (xs : List ℕ) : Type 0 where
  old : x < known → known_after known (x ∷ xs) ≡ known_after known xs → Seen known x xs
  fresh : x ≡ known → known_after known (x ∷ xs) ≡ known_after (known + 1) xs → Seen known x xs
  strange : known_after known (x ∷ xs) ≡ None → Seen known x xs

pub seen : (known x : ℕ) (xs : List ℕ) → Seen known x xs
seen known x xs = by (ltb x known) (eqb x known) refl refl
  where
    by : (a b : Bool) → ltb x known ≡ a → eqb x known ≡ b → Seen known x xs
    by true b e f = old (ltb-true x known e) (cond-true _ _ _ e)
    by false true e f = fresh (eqb-true x known f) (cond-false _ _ _ e ∙ cond-true _ _ _ f)
    by false false e f = strange (cond-false _ _ _ e ∙ cond-false _ _ _ f)

-- all that appeared is known in the end
pub known_after-below : (known : ℕ) (xs : List ℕ) (n : ℕ) → known_after known xs ≡ Some n → AreBelow n xs
known_after-below known [] n e = tt
known_after-below known (x ∷ xs) n e = by (seen known x xs) (λ k. known_after-below k xs n) (λ k. known_grows k xs n)
  where
    by : Seen known x xs → ((k : ℕ) → known_after k xs ≡ Some n → AreBelow n xs) → ((k : ℕ) → known_after k xs ≡ Some n → k ≤ n) → AreBelow n (x ∷ xs)
    by (old h same) again grows = let l = grows known (sym same ∙ e) in (omega arith, again known (sym same ∙ e))
    by (fresh h same) again grows = let l = grows (known + 1) (sym same ∙ e) in (omega arith, again (known + 1) (sym same ∙ e))
    by (strange same) again grows = let f : None ≡ Some n = sym same ∙ e in absurd cc

-- the names agree below a number
abbrev pub AgreeBelow : List (List ℕ) → List (List ℕ) → ℕ → Type 0
AgreeBelow V W n = (x : ℕ) → x < n → named V x ≡ named W x

-- names of one count that agree at each number are one list
pub same_names : (V W : List (List ℕ)) → length V ≡ length W → AgreeBelow V W (length V) → V ≡ W
same_names [] [] len agree = refl
same_names [] (w ∷ W) len agree = absurd (omega arith)
same_names (v ∷ V) [] len agree = absurd (omega arith)
same_names (v ∷ V) (w ∷ W) len agree =
    let head : v ≡ w = agree 0 (omega arith) in
    let tail = same_names V W (omega arith) (λ x h. agree (suc x) (omega arith)) in
    λ i. head i ∷ tail i

-- Names that differ, in two lists of which each tells the names of the numbers that appear, each new in its turn:
-- where the same names appear, the lists are one.
module _ (V W : List (List ℕ)) (differ_V : Differ V) (differ_W : Differ W) where
  pub one_appearance : (known : ℕ) (xs ys : List ℕ) → map (named V) xs ≡ map (named W) ys → known_after known xs ≡ Some (length V) → known_after known ys ≡ Some (length W)
      → AgreeBelow V W known → V ≡ W
  one_appearance known [] [] same ex ey agree =
      let a : known ≡ length V = cc in
      let b : known ≡ length W = cc in
      same_names V W (sym a ∙ b) (λ x h. agree x (omega arith))
  one_appearance known [] (y ∷ ys) same ex ey agree = absurd cc
  one_appearance known (x ∷ xs) [] same ex ey agree = absurd cc
  one_appearance known (x ∷ xs) (y ∷ ys) same ex ey agree = by (seen known x xs) (seen known y ys) (λ k. one_appearance k xs ys)
    where
      head : named V x ≡ named W y
      head = cc

      tail : map (named V) xs ≡ map (named W) ys
      tail = cc

      by : Seen known x xs → Seen known y ys
          → ((k : ℕ) → map (named V) xs ≡ map (named W) ys → known_after k xs ≡ Some (length V) → known_after k ys ≡ Some (length W) → AgreeBelow V W k → V ≡ W)
          → V ≡ W
      by (old hx sx) (old hy sy) again = again known tail (sym sx ∙ ex) (sym sy ∙ ey) agree
      by (old hx sx) (fresh hy sy) again =
          let l = known_grows (known + 1) ys (length W) (sym sy ∙ ey) in
          let e = one_number W differ_W x y (omega arith) (omega arith) (sym (agree x hx) ∙ head) in
          absurd (omega arith)
      by (fresh hx sx) (old hy sy) again =
          let l = known_grows (known + 1) xs (length V) (sym sx ∙ ex) in
          let e = one_number V differ_V x y (omega arith) (omega arith) (head ∙ sym (agree y hy)) in
          absurd (omega arith)
      by (fresh hx sx) (fresh hy sy) again =
          again (known + 1) tail (sym sx ∙ ex) (sym sy ∙ ey)
          (below_more (λ z. named V z ≡ named W z) known agree (ap (named V) (sym hx) ∙ head ∙ ap (named W) hy))
      by (strange sx) right again = let f : None ≡ Some (length V) = sym sx ∙ ex in absurd cc
      by (old hx sx) (strange sy) again = let f : None ≡ Some (length W) = sym sy ∙ ey in absurd cc
      by (fresh hx sx) (strange sy) again = let f : None ≡ Some (length W) = sym sy ∙ ey in absurd cc
