-- Rows of the variables that are live at points.
use Rattle.std.proofs.Common.{◌≡◌, ◌⊎◌, ℕ, zero, suc, ◌+◌, ◌<◌, ◌≤◌, List, [], ◌∷◌, ◌++◌, length, set, Some, None, inl, inr, ⊎_elim, refl, sym, ap, subst, ◌∙◌, arith, length-set}
use Rattle.std.specs.Prelude.{IsTrue, slice_get}
use Rattle.std.proofs.lemmas.Bool.{cases_lt}
use Rattle.std.proofs.lemmas.List.{get_or-set_same, get_or-set_other}
use Rattle.std.proofs.lemmas.Option.{slice_get_within}
use Rattle.bril_tree.specs.Operand.{Variable}
use Rattle.bril_tree.proofs.Elements.{pushed_get}
use Rattle.live_sets.specs.declared.live.Live.{Live}
use Rattle.live_sets.specs.Liveness.{is_live}
use Rattle.rv64_emit.specs.LiveVariables.{AreLiveRows, AreLiveVariables, row}

-- ---- lists with one item more

pub kept_get : {A : Type 0} (xs : List A) (a : A) (k : ℕ) (x : A) → slice_get xs k ≡ Some x → slice_get (xs ++ a ∷ []) k ≡ Some x
kept_get [] a k x e = absurd (let n : None ≡ Some x = e in cc)
kept_get (y ∷ xs) a zero x e = e
kept_get (y ∷ xs) a (suc k) x e = kept_get xs a k x e

pub last_get : {A : Type 0} (xs : List A) (a : A) → slice_get (xs ++ a ∷ []) (length xs) ≡ Some a
last_get [] a = refl
last_get (y ∷ xs) a = last_get xs a

-- ---- one row

module _ (live : Live) (count point : ℕ) (xs : List ℕ) (so_far : AreLiveVariables live count point xs) where
  -- with the next variable, which is live
  more-live : IsTrue (is_live live (Variable count) point) → AreLiveVariables live (count + 1) point (xs ++ count ∷ [])
  more-live told = record {
    are = λ k x e. are x k (pushed_get xs count k x e);
    rising = λ j k x y less a b. rising j k x y less (pushed_get xs count j x a) (pushed_get xs count k y b);
    all = λ x low is. all x low is (cases_lt x count);
  }
    where
      are : (x k : ℕ) → (slice_get xs k ≡ Some x) ⊎ ((k ≡ length xs) × (count ≡ x)) → (x < count + 1) × IsTrue (is_live live (Variable x) point)
      are x k (inl h) = let a = so_far.are k x h in (omega (arith, a.0), a.1)
      are x k (inr h) = (omega (arith, h.1), subst (λ y. IsTrue (is_live live (Variable y) point)) h.1 told)

      rising : (j k x y : ℕ) → j < k → (slice_get xs j ≡ Some x) ⊎ ((j ≡ length xs) × (count ≡ x)) → (slice_get xs k ≡ Some y) ⊎ ((k ≡ length xs) × (count ≡ y)) → x < y
      rising j k x y less (inl a) (inl b) = so_far.rising j k x y less a b
      rising j k x y less (inl a) (inr b) = let h = so_far.are j x a in omega (arith, h.0, b.1)
      rising j k x y less (inr a) (inl b) = absurd (omega (arith, a.0, slice_get_within xs k y b))
      rising j k x y less (inr a) (inr b) = absurd (omega (arith, a.0, b.0))

      all : (x : ℕ) → x < count + 1 → IsTrue (is_live live (Variable x) point) → (x < count) ⊎ (count ≤ x) → (k : ℕ) × (slice_get (xs ++ count ∷ []) k ≡ Some x)
      all x low is (inl less) = let h = so_far.all x less is in (h.0, kept_get xs count h.0 x h.1)
      all x low is (inr high) = let same : count ≡ x = omega arith in (length xs, last_get xs count ∙ ap Some same)

  -- with the next variable, which isn't
  none-more : (IsTrue (is_live live (Variable count) point) → ⊥) → AreLiveVariables live (count + 1) point xs
  none-more dead = record {
    are = λ k x e. (let a = so_far.are k x e in (omega (arith, a.0), a.1));
    rising = so_far.rising;
    all = λ x low is. all x low is (cases_lt x count);
  }
    where
      all : (x : ℕ) → x < count + 1 → IsTrue (is_live live (Variable x) point) → (x < count) ⊎ (count ≤ x) → (k : ℕ) × (slice_get xs k ≡ Some x)
      all x low is (inl less) = so_far.all x less is
      all x low is (inr high) = let same : x ≡ count = omega arith in absurd (dead (subst (λ y. IsTrue (is_live live (Variable y) point)) same is))

-- ---- all rows

-- The rows of the points before one have the variable, those of the others only those before it.
pub record AreRowsTo (live : Live) (variable to : ℕ) (rows : List (List ℕ)) : Type 0 where
  pub before : (k : ℕ) → k < to → k < length rows → AreLiveVariables live (variable + 1) k (row rows k)
  pub after : (k : ℕ) → to ≤ k → k < length rows → AreLiveVariables live variable k (row rows k)

pub rows_begin : (live : Live) (variable : ℕ) (rows : List (List ℕ)) → AreLiveRows live variable rows → AreRowsTo live variable 0 rows
rows_begin live variable rows are = record { before = λ k less low. absurd (omega arith); after = λ k high low. are k low }

-- past points at which the variable isn't live
pub rows_passed : (live : Live) (variable from to : ℕ) (rows : List (List ℕ)) → from ≤ to → ((k : ℕ) → from ≤ k → k < to → IsTrue (is_live live (Variable variable) k) → ⊥) → AreRowsTo live variable from rows → AreRowsTo live variable to rows
rows_passed live variable from to rows order dead are = record {
  before = λ k less low. ⊎_elim (λ early. are.before k early low) (λ late. none-more live variable k (row rows k) (are.after k late low) (dead k late less)) (cases_lt k from);
  after = λ k high low. are.after k (omega arith) low;
}

-- past one at which it is
pub rows_pushed : (live : Live) (variable at : ℕ) (rows more : List (List ℕ)) → at < length rows → IsTrue (is_live live (Variable variable) at) → more ≡ set rows at (row rows at ++ variable ∷ []) → AreRowsTo live variable at rows → AreRowsTo live variable (at + 1) more
rows_pushed live variable at rows more inside told pushed are = subst (AreRowsTo live variable (at + 1)) (sym pushed) (record {
  before = λ k less low. ⊎_elim (λ early. kept (variable + 1) k (λ same. omega arith) (are.before k early (shorter k low))) (λ late. here k (omega arith)) (cases_lt k at);
  after = λ k high low. kept variable k (λ same. omega arith) (are.after k (omega arith) (shorter k low));
})
  where
    grown : List ℕ
    grown = row rows at ++ variable ∷ []

    shorter : (k : ℕ) → k < length (set rows at grown) → k < length rows
    shorter k low = omega (arith, length-set rows at grown)

    kept : (count k : ℕ) → (k ≡ at → ⊥) → AreLiveVariables live count k (row rows k) → AreLiveVariables live count k (row (set rows at grown) k)
    kept count k other is = subst (AreLiveVariables live count k) (sym (get_or-set_other rows at k grown [] other)) is

    here : (k : ℕ) → k ≡ at → AreLiveVariables live (variable + 1) k (row (set rows at grown) k)
    here k same = subst (λ n. AreLiveVariables live (variable + 1) n (row (set rows at grown) n)) (sym same) (subst (AreLiveVariables live (variable + 1) at) (sym (get_or-set_same rows at grown [] inside)) (more-live live variable at (row rows at) (are.after at (omega arith) inside) told))
