-- Lists of words as functions of the index.
use Rattle.std.proofs.Common.{◌≡◌, ℕ, zero, suc, ◌+◌, ◌<◌, cond, eqb, List, [], ◌∷◌, ◌++◌, length, get_or, set, replicate, refl, sym, ◌∙◌, ⊎_elim, arith, get_or-set_same, get_or-set_other}
use Rattle.std.proofs.lemmas.Bool.{cases_eq, eq-eqb, ne_eqb, cases_lt}
use Rattle.std.proofs.lemmas.List.{get_or-replicate, get_or_past, get_or_append_left, get_or_push, length-replicate, length_push}
use Rattle.rv64_words.specs.State.{words_of, assigned}

-- two functions that agree everywhere are one
pub same_words : (f g : ℕ → ℕ) → ((k : ℕ) → f k ≡ g k) → f ≡ g
same_words f g h = λ i k. h k i

set_at : (xs : List ℕ) (i v k : ℕ) → i < length xs → get_or (set xs i v) k 0 ≡ cond (eqb k i) v (get_or xs k 0)
set_at xs i v k h =
    ⊎_elim (λ e. rw (eq-eqb k i e, e) (get_or-set_same xs i v 0 h)) (λ n. rw (ne_eqb k i n) (get_or-set_other xs i k v 0 n)) (cases_eq k i)

-- a write of a word of a list
pub words_of-set : (xs : List ℕ) (i v : ℕ) → i < length xs → words_of (set xs i v) ≡ assigned (words_of xs) i v
words_of-set xs i v h = same_words _ _ (λ k. set_at xs i v k h)

replicate_at : (n k : ℕ) → ◌≡◌ {A = ℕ} (get_or (replicate n 0) k 0) 0
replicate_at n k = ⊎_elim (λ h. get_or-replicate n k 0 0 h) (λ h. get_or_past (replicate n 0) k 0 (let e : length {A = ℕ} (replicate n 0) ≡ n = length-replicate n 0 in omega arith)) (cases_lt k n)

-- zeros
pub words_of-replicate : (n : ℕ) → words_of (replicate n 0) ≡ (λ _. 0)
words_of-replicate n = same_words _ _ (replicate_at n)

push_at : (xs : List ℕ) (v k : ℕ) → get_or (xs ++ v ∷ []) k 0 ≡ cond (eqb k (length xs)) v (get_or xs k 0)
push_at xs v k =
    let l : length (xs ++ v ∷ []) ≡ length xs + 1 = length_push xs v in
    ⊎_elim
    (λ below. let n : k ≡ length xs → ⊥ = omega arith in rw (ne_eqb k (length xs) n) (get_or_append_left xs (v ∷ []) 0 k below))
    (λ above. ⊎_elim
    (λ e. rw (eq-eqb k (length xs) e) (get_or_push xs v 0 k (sym e)))
    (λ n. rw (ne_eqb k (length xs) n) (get_or_past (xs ++ v ∷ []) k 0 (omega arith) ∙ sym (get_or_past xs k 0 above)))
    (cases_eq k (length xs)))
    (cases_lt k (length xs))

-- one more word at the end
pub words_of-push : (xs : List ℕ) (v : ℕ) → words_of (xs ++ v ∷ []) ≡ assigned (words_of xs) (length xs) v
words_of-push xs v = same_words _ _ (push_at xs v)

zeros_at : (k : ℕ) → ◌≡◌ {A = ℕ} (get_or (0 ∷ 0 ∷ []) k 0) 0
zeros_at zero = refl
zeros_at (suc zero) = refl
zeros_at (suc (suc k)) = refl

-- two zeros at first
pub words_of-two_zeros : words_of (0 ∷ 0 ∷ []) ≡ (λ _. 0)
words_of-two_zeros = same_words _ _ zeros_at
