-- Lists of different things, and how many these are at most.
use Rattle.std.proofs.Common.{◌≡◌, ◌≢◌, suc, ◌≤◌, List, [], ◌∷◌, length, refl, sym, ap, subst, ◌∙◌, inl, inr, arith}
use Rattle.std.specs.List.{AllPairs}
use Rattle.bril_tree.specs.Membership.{In}
use Rattle.bril_tree.proofs.Members.{contains_in}

-- a list without one of its items
pub removed : {A : Type 0} (x : A) (ys : List A) → In x ys → List A
removed x [] i = []
removed x (y ∷ ys) (inl e) = ys
removed x (y ∷ ys) (inr i) = y ∷ removed x ys i

pub removed-length : {A : Type 0} (x : A) (ys : List A) (i : In x ys) → suc (length (removed x ys i)) ≡ length ys
unfolding removed
removed-length x [] i = absurd i
removed-length x (y ∷ ys) (inl e) = refl
removed-length x (y ∷ ys) (inr i) = ap suc (removed-length x ys i)

-- has all others
pub removed-in : {A : Type 0} (x : A) (ys : List A) (i : In x ys) (z : A) → (x ≡ z → ⊥) → In z ys → In z (removed x ys i)
unfolding removed
removed-in x [] i z n h = absurd i
removed-in x (y ∷ ys) (inl e) z n (inl d) = absurd (n (e ∙ sym d))
removed-in x (y ∷ ys) (inl e) z n (inr h) = h
removed-in x (y ∷ ys) (inr i) z n (inl d) = inl d
removed-in x (y ∷ ys) (inr i) z n (inr h) = inr (removed-in x ys i z n h)

-- the first of different things is none of the others
pub differ-first : {A : Type 0} (x : A) (xs : List A) → AllPairs (λ a b. a ≢ b) (x ∷ xs) → (z : A) → In z xs → x ≡ z → ⊥
differ-first x xs differ z i e = let c = contains_in z xs i in differ 0 (suc c.0) z (omega arith) (omega (arith, c.1)) (e ∙ sym c.2)

-- and these differ too
pub differ-rest : {A : Type 0} (x : A) (xs : List A) → AllPairs (λ a b. a ≢ b) (x ∷ xs) → AllPairs (λ a b. a ≢ b) xs
differ-rest x xs differ i j d less inside = differ (suc i) (suc j) d (omega arith) (omega arith)

-- Different things are no more than those of another list, where each is related to one of these, and no two are to one.
pub no_more : {A B : Type 0} (R : A → B → Type 0) (xs : List A) (ys : List B) → AllPairs (λ a b. a ≢ b) xs → ((x : A) → In x xs → (y : B) × In y ys × R x y) → ((x z : A) (y : B) → R x y → R z y → x ≡ z) → length xs ≤ length ys
no_more R [] ys differ all one = omega arith
no_more R (x ∷ xs) ys differ all one =
    let here = all x (inl refl) in
    let rest = no_more R xs (removed here.0 ys here.1) (differ-rest x xs differ)
    (λ z i. let there = all z (inr i) in (there.0, removed-in here.0 ys here.1 there.0 (λ e. differ-first x xs differ z i (one x z there.0 (subst (R x) e here.2) there.2)) there.1, there.2)) one in
    let size = removed-length here.0 ys here.1 in
    omega arith

-- different items of a list are no more than all of it
pub no_more_items : {A : Type 0} (xs ys : List A) → AllPairs (λ a b. a ≢ b) xs → ((z : A) → In z xs → In z ys) → length xs ≤ length ys
no_more_items xs ys differ all = no_more (λ x y. x ≡ y) xs ys differ (λ x i. (x, all x i, refl)) (λ x z y e d. e ∙ sym d)
