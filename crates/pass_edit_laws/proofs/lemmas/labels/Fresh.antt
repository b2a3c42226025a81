-- Fresh names: there is one for each base, those of different bases differ, and they are identifiers.
use Rattle.std.proofs.Common.{◌≡◌, ◌⊎◌, ◌||◌, ℕ, zero, suc, ◌+◌, ◌<◌, ◌≤◌, false, true, List, [], ◌∷◌, length, refl, sym, ap, subst, ◌∙◌, inl, inr, ⊎_elim, zero-add, arith}
use Rattle.std.specs.Prelude.{◌==◌}
use Rattle.std.specs.Char.{is_ascii_digit}
use Rattle.std.specs.List.{list_all, sum_by}
use Rattle.std.proofs.lemmas.Bool.{and_from, and_parts, cases_order}
use Rattle.std.proofs.lemmas.List.Sums.{sum_by-cons}
use Rattle.bril_tree.specs.Identifier.{begins_identifier, continues_identifier, is_identifier}
use Rattle.bril_tree.specs.Membership.{In}
use Rattle.pass_edit_laws.specs.labels.Fresh.{IsFresh, IsUnmarked, underscored}

-- ---- lengths

pub underscored-long : (n : ℕ) (base : List ℕ) → length (underscored n base) ≡ n + length base
underscored-long zero base = sym (zero-add (length base))
underscored-long (suc n) base = let e = underscored-long n base in omega (arith, e)

-- no name is longer than all together
pub in-short : (name : List ℕ) (names : List (List ℕ)) → In name names → length name ≤ sum_by length names
in-short name [] h = absurd h
in-short name (x ∷ names) (inl e) = let h = ap length e in let s = sum_by-cons length x names in omega (arith, h, s)
in-short name (x ∷ names) (inr h) = let r = in-short name names h in let s = sum_by-cons length x names in omega (arith, r, s)

-- ---- one

pub fresh-one : (taken : List (List ℕ)) (base x y : List ℕ) → IsFresh taken base x → IsFresh taken base y → x ≡ y
fresh-one taken base x y a b = a.is ∙ ap (λ n. underscored n base) (by (cases_order a.marks b.marks)) ∙ sym b.is
  where
    by : (a.marks ≡ b.marks) ⊎ ((a.marks < b.marks) ⊎ (b.marks < a.marks)) → a.marks ≡ b.marks
    by (inl e) = e
    by (inr (inl l)) = absurd (a.new (subst (λ z. In z taken) (sym a.is) (b.least a.marks l)))
    by (inr (inr l)) = absurd (b.new (subst (λ z. In z taken) (sym b.is) (a.least b.marks l)))

-- ---- there is one

same_bytes : (x y : List ℕ) → (x ≡ y) ⊎ (x ≡ y → ⊥)
same_bytes [] [] = inl refl
same_bytes [] (y ∷ ys) = inr (λ e. absurd cc)
same_bytes (x ∷ xs) [] = inr (λ e. absurd cc)
same_bytes (x ∷ xs) (y ∷ ys) = by (cases_order x y) (same_bytes xs ys)
  where
    by : (x ≡ y) ⊎ ((x < y) ⊎ (y < x)) → (xs ≡ ys) ⊎ (xs ≡ ys → ⊥) → (x ∷ xs ≡ y ∷ ys) ⊎ (x ∷ xs ≡ y ∷ ys → ⊥)
    by (inl e) (inl f) = inl (λ i. e i ∷ f i)
    by (inl e) (inr n) = inr (λ h. n (let t : xs ≡ ys = cc in t))
    by (inr (inl l)) f = inr (λ h. let e : x ≡ y = cc in absurd (omega arith))
    by (inr (inr l)) f = inr (λ h. let e : x ≡ y = cc in absurd (omega arith))

is_in : (x : List ℕ) (xs : List (List ℕ)) → In x xs ⊎ (In x xs → ⊥)
is_in x [] = inr (λ h. h)
is_in x (y ∷ ys) = by (same_bytes x y) (is_in x ys)
  where
    by : (x ≡ y) ⊎ (x ≡ y → ⊥) → In x ys ⊎ (In x ys → ⊥) → In x (y ∷ ys) ⊎ (In x (y ∷ ys) → ⊥)
    by (inl e) r = inl (inl e)
    by (inr n) (inl h) = inl (inr h)
    by (inr n) (inr m) = inr (λ h. ⊎_elim n m h)

-- from so many `_` on, where all before are taken
fresh-from : (taken : List (List ℕ)) (base : List ℕ) (fuel n : ℕ) → sum_by length taken < fuel + n → ((m : ℕ) → m < n → In (underscored m base) taken) → (name : List ℕ) × IsFresh taken base name
fresh-from taken base zero n long before = (underscored n base, record { marks = n; is = refl; new = λ h. let s = in-short (underscored n base) taken h in let l = underscored-long n base in omega (arith, s, l, long); least = before })
fresh-from taken base (suc fuel) n long before = by (is_in (underscored n base) taken) (λ more. fresh-from taken base fuel (suc n) (omega (arith, long)) more)
  where
    by : In (underscored n base) taken ⊎ (In (underscored n base) taken → ⊥) → (((m : ℕ) → m < suc n → In (underscored m base) taken) → (name : List ℕ) × IsFresh taken base name) → (name : List ℕ) × IsFresh taken base name
    by (inl h) further = further (λ m l. at m (cases_order m n) l)
      where
        at : (m : ℕ) → (m ≡ n) ⊎ ((m < n) ⊎ (n < m)) → m < suc n → In (underscored m base) taken
        at m (inl e) l = subst (λ k. In (underscored k base) taken) (sym e) h
        at m (inr (inl k)) l = before m k
        at m (inr (inr k)) l = absurd (omega arith)
    by (inr n_in) further = (underscored n base, record { marks = n; is = refl; new = n_in; least = before })

pub fresh-there : (taken : List (List ℕ)) (base : List ℕ) → (name : List ℕ) × IsFresh taken base name
fresh-there taken base = fresh-from taken base (suc (sum_by length taken)) 0 (omega arith) (λ m l. absurd (omega arith))

-- ---- those of different bases differ

pub one-base : (n m : ℕ) (a b : List ℕ) → IsUnmarked a → IsUnmarked b → underscored n a ≡ underscored m b → a ≡ b
one-base zero zero a b pa pb e = e
one-base zero (suc m) [] b pa pb e = absurd pa
one-base zero (suc m) (c ∷ a) b pa pb e = absurd (pa (let h : c ≡ 95 = cc in h))
one-base (suc n) zero a [] pa pb e = absurd pb
one-base (suc n) zero a (c ∷ b) pa pb e = absurd (pb (let h : c ≡ 95 = cc in h))
one-base (suc n) (suc m) a b pa pb e = one-base n m a b pa pb (let h : underscored n a ≡ underscored m b = cc in h)

-- equal fresh names have one first form
pub fresh-once : (taken taken' : List (List ℕ)) (a b x y : List ℕ) → IsFresh taken a x → IsFresh taken' b y → IsUnmarked a → IsUnmarked b → x ≡ y → a ≡ b
fresh-once taken taken' a b x y f g pa pb e = one-base f.marks g.marks a b pa pb (sym f.is ∙ e ∙ g.is)

-- ---- they are identifiers

marked : (xs : List ℕ) → is_identifier xs ≡ true → is_identifier (95 ∷ xs) ≡ true
marked [] h = absurd (let e : false ≡ true = h in cc)
marked (x ∷ xs) h =
    let parts = and_parts (begins_identifier x) (list_all continues_identifier xs) h in
    and_from (continues_identifier x) (list_all continues_identifier xs) (ap (λ b. (b || (x == 46)) || is_ascii_digit x) parts.0) parts.1

pub underscored-identifier : (n : ℕ) (base : List ℕ) → is_identifier base ≡ true → is_identifier (underscored n base) ≡ true
underscored-identifier zero base h = h
underscored-identifier (suc n) base h = marked (underscored n base) (underscored-identifier n base h)
