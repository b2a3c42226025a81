-- Rows of `get`s in one list, point by point.
use Rattle.std.proofs.Common.{◌≡◌, ◌≢◌, ◌↔◌, ◌⊎◌, ℕ, zero, suc, ◌+◌, ◌-◌, ◌<◌, ◌≤◌, List, [], ◌∷◌, ◌++◌, length, take, drop, Some, None, refl, sym, ap, subst, ◌∙◌, inl, inr, ⊎_elim, arith}
use Rattle.std.specs.Prelude.{slice_get, slice_index, slice_range}
use Rattle.std.specs.List.{AllPairs, Contains}
use Rattle.std.proofs.lemmas.Bool.{cases_eq, cases_lt}
use Rattle.std.proofs.lemmas.List.{drop-append-le, drop_at, get_or_append_left, get_or_past, get_or_push, length-append, length_push, take-append-le, take_all, length-drop}
use Rattle.std.proofs.lemmas.Option.{same_Some}
use Rattle.ssa_search.specs.declared.renaming.now.WantedGet.{WantedGet}
use Rattle.ssa_search.specs.gets.Rows.{AreParts, AreRowsBefore, IsRow, gets_from, locations_of}

-- ---- the `get`s of a row

pub gets-locations : (d : ℕ) (xs : List ℕ) → locations_of (gets_from d xs) ≡ xs
gets-locations d [] = refl
gets-locations d (x ∷ xs) = ap (λ l. x ∷ l) (gets-locations (suc d) xs)

pub gets-length : (d : ℕ) (xs : List ℕ) → length (gets_from d xs) ≡ length xs
gets-length d [] = refl
gets-length d (x ∷ xs) = ap suc (gets-length (suc d) xs)

gets-numbered : (d : ℕ) (xs : List ℕ) (t : ℕ) (get : WantedGet) → slice_get (gets_from d xs) t ≡ Some get → get.definition ≡ d + t
gets-numbered d [] t get e = absurd (let n : None ≡ Some get = e in cc)
gets-numbered d (x ∷ xs) zero get e = sym (ap (λ (g : WantedGet). g.definition) (same_Some _ get e)) ∙ (let z : d ≡ d + 0 = omega arith in z)
gets-numbered d (x ∷ xs) (suc t) get e = gets-numbered (suc d) xs t get e ∙ (let z : suc d + t ≡ d + suc t = omega arith in z)

appended-get : {A : Type 0} (xs ys : List A) (t : ℕ) (x : A) → slice_get (xs ++ ys) t ≡ Some x → (slice_get xs t ≡ Some x) ⊎ ((s : ℕ) × (t ≡ length xs + s) × (slice_get ys s ≡ Some x))
appended-get [] ys t x e = inr (t, (let z : t ≡ 0 + t = omega arith in z), e)
appended-get (y ∷ xs) ys zero x e = inl e
appended-get (y ∷ xs) ys (suc t) x e = ⊎_elim inl (λ h. inr (h.0, (let p = h.1 in let z : suc t ≡ suc (length xs) + h.0 = omega (arith, p) in z), h.2)) (appended-get xs ys t x e)

-- ---- parts of a list

part-kept : {A : Type 0} (xs ys : List A) (i j : ℕ) → i ≤ j → j ≤ length xs → slice_range (xs ++ ys) i j ≡ slice_range xs i j
part-kept xs ys i j rising low =
    ap (take (j - i)) (drop-append-le i xs ys (omega (arith, rising, low))) ∙ take-append-le (j - i) (drop i xs) ys (let l = length-drop i xs in omega (arith, l, rising, low))

part-new : {A : Type 0} (xs ys : List A) (i j : ℕ) → i ≡ length xs → j ≡ length xs + length ys → slice_range (xs ++ ys) i j ≡ ys
part-new xs ys i j from to = ap (take (j - i)) (drop_at xs ys i (sym from)) ∙ take_all (j - i) ys (omega (arith, from, to))

-- ---- all rows

module _ (Has : ℕ → ℕ → Type 0) (base : ℕ) where
  pub no-rows : (starts : List ℕ) → starts ≡ 0 ∷ [] → AreRowsBefore Has base 0 starts []
  no-rows starts e = subst (λ s. AreRowsBefore Has base 0 s []) (sym e) (record {
    long = refl;
    first = refl;
    last = refl;
    rising = λ k less. absurd (omega (arith, less));
    within = within;
    rows = λ k less. absurd (omega (arith, less));
    numbered = λ t get h. absurd (let n : None ≡ Some get = h in cc);
  })
    where
      within : (k : ℕ) → slice_index (0 ∷ []) k ≤ 0
      within zero = omega arith
      within (suc k) = omega arith

  pub rows-more : (bound : ℕ) (starts starts' : List ℕ) (list list' : List WantedGet) (xs : List ℕ) → AreRowsBefore Has base bound starts list → AllPairs (λ x y. x ≢ y) xs → ((x : ℕ) → Contains xs x ↔ Has bound x)
      → list' ≡ list ++ gets_from (base + length list) xs → starts' ≡ starts ++ length list' ∷ [] → AreRowsBefore Has base (suc bound) starts' list'
  rows-more bound starts starts' list list' xs b differ exact grew started = record {
    long = ap length started ∙ length_push starts (length list') ∙ (let l = b.long in let z : length starts + 1 ≡ suc (suc bound) = omega (arith, l) in z);
    first = old 0 (omega arith) ∙ b.first;
    last = newest;
    rising = rising;
    within = within;
    rows = rows;
    numbered = numbered;
  }
    where
      row : List WantedGet
      row = gets_from (base + length list) xs

      size : length list' ≡ length list + length row
      size = ap length grew ∙ length-append list row

      long : length starts ≡ suc bound
      long = b.long

      old : (k : ℕ) → k < suc bound → slice_index starts' k ≡ slice_index starts k
      old k less = ap (λ s. slice_index s k) started ∙ get_or_append_left starts (length list' ∷ []) 0 k (omega (arith, less, long))

      newest : slice_index starts' (suc bound) ≡ length list'
      newest = ap (λ s. slice_index s (suc bound)) started ∙ get_or_push starts (length list') 0 (suc bound) long

      rising : (k : ℕ) → k < suc bound → slice_index starts' k ≤ slice_index starts' (suc k)
      rising k less = ⊎_elim
          (λ before. let p = old k less in let q = old (suc k) (omega (arith, before)) in let r = b.rising k before in omega (arith, p, q, r))
          (λ at. let same : k ≡ bound = omega (arith, less, at) in let p = old k less in let q = newest in let w = b.within k in let e = ap (λ i. slice_index starts' (suc i)) same in omega (arith, p, q, w, e, size))
          (cases_lt k bound)

      within : (k : ℕ) → slice_index starts' k ≤ length list'
      within k = ⊎_elim
          (λ before. let p = old k before in let w = b.within k in omega (arith, p, w, size))
          (λ over. ⊎_elim
          (λ same. let e = ap (slice_index starts') same ∙ newest in omega (arith, e))
          (λ differs. let past = get_or_past starts' k 0 (let l = ap length started ∙ length_push starts (length list') in omega (arith, l, long, over, differs)) in omega (arith, past))
          (cases_eq k (suc bound)))
          (cases_lt k (suc bound))

      kept : (k : ℕ) → k < bound → slice_range list' (slice_index starts' k) (slice_index starts' (suc k)) ≡ slice_range list (slice_index starts k) (slice_index starts (suc k))
      kept k before =
          ap (λ l. slice_range l (slice_index starts' k) (slice_index starts' (suc k))) grew
          ∙ ap (λ i. slice_range (list ++ row) i (slice_index starts' (suc k))) (old k (omega (arith, before)))
          ∙ ap (λ j. slice_range (list ++ row) (slice_index starts k) j) (old (suc k) (omega (arith, before)))
          ∙ part-kept list row (slice_index starts k) (slice_index starts (suc k)) (b.rising k before) (b.within (suc k))

      new : slice_range list' (slice_index starts' bound) (slice_index starts' (suc bound)) ≡ row
      new =
          ap (λ l. slice_range l (slice_index starts' bound) (slice_index starts' (suc bound))) grew
          ∙ part-new list row (slice_index starts' bound) (slice_index starts' (suc bound)) (old bound (omega arith) ∙ b.last) (newest ∙ size)

      is-row : IsRow (Has bound) row
      is-row = record {
        differ = subst (AllPairs (λ x y. x ≢ y)) (sym (gets-locations (base + length list) xs)) differ;
        exact = λ x. ((λ c. (exact x).0 (subst (λ l. Contains l x) (gets-locations (base + length list) xs) c)), (λ h. subst (λ l. Contains l x) (sym (gets-locations (base + length list) xs)) ((exact x).1 h)));
      }

      rows : (k : ℕ) → k < suc bound → IsRow (Has k) (slice_range list' (slice_index starts' k) (slice_index starts' (suc k)))
      rows k less = ⊎_elim
          (λ same. subst (λ i. IsRow (Has i) (slice_range list' (slice_index starts' i) (slice_index starts' (suc i)))) (sym same) (subst (IsRow (Has bound)) (sym new) is-row))
          (λ differs. let before : k < bound = omega (arith, less, differs) in subst (IsRow (Has k)) (sym (kept k before)) (b.rows k before))
          (cases_eq k bound)

      numbered : (t : ℕ) (get : WantedGet) → slice_get list' t ≡ Some get → get.definition ≡ base + t
      numbered t get e = ⊎_elim
          (b.numbered t get)
          (λ h. gets-numbered (base + length list) xs h.0 get h.2 ∙ (let p = h.1 in let z : base + length list + h.0 ≡ base + t = omega (arith, p) in z))
          (appended-get list row t get (ap (λ l. slice_get l t) (sym grew) ∙ e))

  pub rows-parts : (bound : ℕ) (starts : List ℕ) (list : List WantedGet) → AreRowsBefore Has base bound starts list → AreParts starts list
  rows-parts bound starts list b = record { within = b.within; rising = λ k low. b.rising k (let l = b.long in omega (arith, low, l)) }
