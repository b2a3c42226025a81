-- Lists of different things: put together, made one by one, and what a test leaves of them.
use Rattle.std.proofs.Common.{◌≡◌, ◌≢◌, ℕ, Bool, true, false, cond, List, [], ◌∷◌, ◌++◌, map, refl, sym, ap, subst, ◌∙◌, inl, inr, ⊎_elim, arith}
use Rattle.std.specs.List.{AllPairs, filter, range_with_len}
use Rattle.std.proofs.lemmas.List.FromFn.{length-range_with_len, get_or-range_with_len}
use Rattle.std.proofs.lemmas.List.Kept.{AllPairs-cons}
use Rattle.bril_tree.specs.Membership.{In}
use Rattle.bril_tree.proofs.Members.{in_append_cases, in_map_source}
use Rattle.pass_edit_laws.proofs.lemmas.plan.Elements.{in_all}
use Rattle.bril_tree.proofs.Counting.{differ-first, differ-rest}

-- a list of different things, made of two without a common one
pub differ-both : {A : Type 0} (xs ys : List A) → AllPairs (λ a b. a ≢ b) xs → AllPairs (λ a b. a ≢ b) ys → ((x : A) → In x xs → In x ys → ⊥) → AllPairs (λ a b. a ≢ b) (xs ++ ys)
differ-both [] ys mine theirs apart = theirs
differ-both (x ∷ xs) ys mine theirs apart =
    AllPairs-cons (λ a b. a ≢ b) x (xs ++ ys) (in_all (λ z. x ≢ z) (xs ++ ys) (λ z i. ⊎_elim (λ k. λ e. differ-first x xs mine z k e) (λ k. λ e. apart x (inl refl) (subst (λ w. In w ys) (sym e) k)) (in_append_cases z xs ys i)))
    (differ-both xs ys (differ-rest x xs mine) theirs (λ z i j. apart z (inr i) j))

-- different things, each made of one
pub differ-map : {A B : Type 0} (f : A → B) → ((x y : A) → f x ≡ f y → x ≡ y) → (xs : List A) → AllPairs (λ a b. a ≢ b) xs → AllPairs (λ a b. a ≢ b) (map f xs)
differ-map f one [] differ = λ i j d less inside. absurd (omega arith)
differ-map f one (x ∷ xs) differ =
    AllPairs-cons (λ a b. a ≢ b) (f x) (map f xs) (in_all (λ z. f x ≢ z) (map f xs) (λ z i. λ e. let s = in_map_source f z xs i in differ-first x xs differ s.0 s.1 (one x s.0 (e ∙ s.2))))
    (differ-map f one xs (differ-rest x xs differ))

-- what passes a test
pub in_filter : {X : Type 0} (p : X → Bool) (xs : List X) (x : X) → In x xs → p x ≡ true → In x (filter p xs)
in_filter p [] x i e = absurd i
in_filter p (y ∷ xs) x (inl s) e = subst (In x) (sym (ap (λ b. cond b (y ∷ filter p xs) (filter p xs)) (ap p (sym s) ∙ e))) (inl s)
in_filter p (y ∷ xs) x (inr i) e = by (p y) refl (in_filter p xs x i e)
  where
    by : (b : Bool) → p y ≡ b → In x (filter p xs) → In x (filter p (y ∷ xs))
    by true h k = subst (In x) (sym (ap (λ b. cond b (y ∷ filter p xs) (filter p xs)) h)) (inr k)
    by false h k = subst (In x) (sym (ap (λ b. cond b (y ∷ filter p xs) (filter p xs)) h)) k

pub filter_in : {X : Type 0} (p : X → Bool) (xs : List X) (x : X) → In x (filter p xs) → In x xs × (p x ≡ true)
filter_in p [] x i = absurd i
filter_in p (y ∷ xs) x i = by (p y) refl (filter_in p xs x)
  where
    by : (b : Bool) → p y ≡ b → (In x (filter p xs) → In x xs × (p x ≡ true)) → In x (y ∷ xs) × (p x ≡ true)
    by true h again = ⊎_elim (λ s. (inl s, ap p s ∙ h)) (λ k. let r = again k in (inr r.0, r.1)) (subst (In x) (ap (λ b. cond b (y ∷ filter p xs) (filter p xs)) h) i)
    by false h again = let r = again (subst (In x) (ap (λ b. cond b (y ∷ filter p xs) (filter p xs)) h) i) in (inr r.0, r.1)

pub range-differ : (n : ℕ) → AllPairs (λ a b. a ≢ b) (range_with_len 0 n)
range-differ n i j d less inside e =
    let size = length-range_with_len 0 n in
    let a = get_or-range_with_len 0 n i d (omega arith) in
    let b = get_or-range_with_len 0 n j d (omega arith) in
    omega (arith, e)
