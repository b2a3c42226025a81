-- Sums and lists over the numbers below one.
use Rattle.std.proofs.Common.{◌≡◌, ℕ, zero, suc, ◌+◌, ◌-◌, ◌<◌, ◌≤◌, ◌⊎◌, inl, inr, ⊎_elim, List, ◌∷◌, ◌++◌, length, Some, refl, sym, ap, subst, arith, length-append, append_assoc, add-one, []}
use Rattle.std.specs.Prelude.{slice_get}
use Rattle.rv64_words.specs.declared.word.Word.{Word}
use Rattle.rv64_emit_laws.specs.layout.Image.{sum_below, joined}

-- ---- sums

sum_after : (counts : ℕ → ℕ) (m k : ℕ) → sum_below counts m ≤ sum_below counts (m + k)
sum_after counts m zero = let e : m + 0 ≡ m = omega arith in omega (arith, ap (sum_below counts) e)
sum_after counts m (suc k) =
    let e : m + suc k ≡ suc (m + k) = omega arith in
    omega (arith, ap (sum_below counts) e, sum_after counts m k)

pub sum_rises : (counts : ℕ → ℕ) (m n : ℕ) → m ≤ n → sum_below counts m ≤ sum_below counts n
sum_rises counts m n le = let e : m + (n - m) ≡ n = omega arith in subst (λ k. sum_below counts m ≤ sum_below counts k) e (sum_after counts m (n - m))

-- the sum to a number, with what that number counts, is at most the sum to any later one
pub sum_passes : (counts : ℕ → ℕ) (m n : ℕ) → m < n → sum_below counts m + counts m ≤ sum_below counts n
sum_passes counts m n less = sum_rises counts (suc m) n (omega arith)

-- one number is below another, or not
pub below_or : (a b : ℕ) → (a < b) ⊎ (b ≤ a)
below_or zero zero = inr (omega arith)
below_or zero (suc b) = inl (omega arith)
below_or (suc a) zero = inr (omega arith)
below_or (suc a) (suc b) = ⊎_elim (λ (less : a < b). inl (omega arith)) (λ (le : b ≤ a). inr (omega arith)) (below_or a b)

-- what counts nothing from one number on has its whole sum there
pub sum_is_most : (counts : ℕ → ℕ) (n : ℕ) → ((k : ℕ) → n ≤ k → counts k ≡ 0) → (m : ℕ) → sum_below counts m ≤ sum_below counts n
sum_is_most counts n none zero = omega arith
sum_is_most counts n none (suc m) = ⊎_elim (λ (less : m < n). sum_passes counts m n less) (λ (le : n ≤ m). omega (arith, none m le, sum_is_most counts n none m)) (below_or m n)

pub sum_below-most : (counts bounds : ℕ → ℕ) → ((k : ℕ) → counts k ≤ bounds k) → (n : ℕ) → sum_below counts n ≤ sum_below bounds n
sum_below-most counts bounds small zero = omega arith
sum_below-most counts bounds small (suc n) = omega (arith, small n, sum_below-most counts bounds small n)

-- ---- lists

pub joined-more : {X : Type 0} (lists : ℕ → List X) (n : ℕ) → joined lists (n + 1) ≡ joined lists n ++ lists n
joined-more lists n = ap (joined lists) (add-one n)

pub joined-length : {X : Type 0} (lists : ℕ → List X) (counts : ℕ → ℕ) → ((k : ℕ) → length (lists k) ≡ counts k) → (n : ℕ) → length (joined lists n) ≡ sum_below counts n
joined-length lists counts are zero = refl
joined-length lists counts are (suc n) = omega (arith, length-append (joined lists n) (lists n), are n, joined-length lists counts are n)

pub joined-most : {X : Type 0} (lists : ℕ → List X) (counts : ℕ → ℕ) → ((k : ℕ) → length (lists k) ≤ counts k) → (n : ℕ) → length (joined lists n) ≤ sum_below counts n
joined-most lists counts most zero = omega arith
joined-most lists counts most (suc n) = omega (arith, length-append (joined lists n) (lists n), most n, joined-most lists counts most n)

-- ---- places in a list of words

-- these words are in the list from word k on
abbrev pub ListedAt : List Word → ℕ → List Word → Type 0
ListedAt all k [] = Unit {0}
ListedAt all k (w ∷ ws) = (slice_get all k ≡ Some w) × ListedAt all (k + 1) ws

pub take_words : (all : List Word) (k : ℕ) (xs ys : List Word) → ListedAt all k (xs ++ ys) → ListedAt all k xs
take_words all k [] ys h = tt
take_words all k (x ∷ xs) ys h = (h.0, take_words all (k + 1) xs ys h.1)

pub drop_words : (all : List Word) (k : ℕ) (xs ys : List Word) → ListedAt all k (xs ++ ys) → ListedAt all (k + length xs) ys
drop_words all k [] ys h = let e : k ≡ k + 0 = omega arith in subst (λ i. ListedAt all i ys) e h
drop_words all k (x ∷ xs) ys h = let e : k + 1 + length xs ≡ k + suc (length xs) = omega arith in subst (λ i. ListedAt all i ys) e (drop_words all (k + 1) xs ys h.1)

-- the words of a list stand in it after those that come before
pub listed_after : (before ws : List Word) → ListedAt (before ++ ws) (length before) ws
listed_after before [] = tt
listed_after before (w ∷ ws) =
    let more = listed_after (before ++ w ∷ []) ws in
    let longer : length (before ++ w ∷ []) ≡ length before + 1 = omega (arith, length-append before (w ∷ [])) in
    (seam before ws w, subst (λ xs. ListedAt xs (length before + 1) ws) (append_assoc before (w ∷ []) ws) (subst (λ k. ListedAt ((before ++ w ∷ []) ++ ws) k ws) longer more))
  where
    seam : (before rest : List Word) (x : Word) → slice_get (before ++ x ∷ rest) (length before) ≡ Some x
    seam [] rest x = refl
    seam (y ∷ before) rest x = seam before rest x

-- one list of those that are joined
pub piece_listed : (all : List Word) (k : ℕ) (lists : ℕ → List Word) (n i : ℕ) → i < n → ListedAt all k (joined lists n) → ListedAt all (k + length (joined lists i)) (lists i)
piece_listed all k lists zero i less h = absurd (omega arith)
piece_listed all k lists (suc n) i less h = ⊎_elim (λ (same : i ≡ n). subst (λ j. ListedAt all (k + length (joined lists j)) (lists j)) (sym same) (drop_words all k (joined lists n) (lists n) h))
    (λ (before : i < n). piece_listed all k lists n i before (take_words all k (joined lists n) (lists n) h)) (last i n less)
  where
    last : (a b : ℕ) → a < suc b → (a ≡ b) ⊎ (a < b)
    last zero zero less = inl refl
    last zero (suc b) less = inr (omega arith)
    last (suc a) zero less = absurd (omega arith)
    last (suc a) (suc b) less = ⊎_elim (λ (same : a ≡ b). inl (ap suc same)) (λ (before : a < b). inr (omega arith)) (last a b (omega arith))
