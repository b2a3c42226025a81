-- Filters.
use Rattle.std.proofs.Common.{◌≡◌, inl, inr, Bool, true, false, cond, List, [], ◌∷◌, filter, refl, sym, ap, ◌∙◌}
use Rattle.bril_tree.specs.Membership.{In}

pub in_filter : {A : Type 0} (test : A → Bool) (x : A) (xs : List A) → In x xs → test x ≡ true → In x (filter test xs)
in_filter test x [] i e = absurd i
in_filter test x (y ∷ ys) (inl same) e = by (test y) (ap test (sym same) ∙ e)
  where
    by : (b : Bool) → b ≡ true → In x (cond b (y ∷ filter test ys) (filter test ys))
    by true h = inl same
    by false h = absurd cc
in_filter test x (y ∷ ys) (inr i) e = by (test y) (in_filter test x ys i e)
  where
    by : (b : Bool) → In x (filter test ys) → In x (cond b (y ∷ filter test ys) (filter test ys))
    by true h = inr h
    by false h = h

pub filter_in : {A : Type 0} (test : A → Bool) (x : A) (xs : List A) → In x (filter test xs) → In x xs × (test x ≡ true)
filter_in test x [] i = absurd i
filter_in test x (y ∷ ys) i = by (test y) refl i (filter_in test x ys)
  where
    by : (b : Bool) → test y ≡ b → In x (cond b (y ∷ filter test ys) (filter test ys)) → (In x (filter test ys) → In x ys × (test x ≡ true)) → In x (y ∷ ys) × (test x ≡ true)
    by true e (inl same) rest = (inl same, ap test same ∙ e)
    by true e (inr h) rest = let r = rest h in (inr r.0, r.1)
    by false e h rest = let r = rest h in (inr r.0, r.1)
