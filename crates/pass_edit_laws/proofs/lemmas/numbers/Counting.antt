-- What can't fail to be: all of finitely many things, and the greatest of bounded numbers.
use Rattle.std.proofs.Common.{◌≢◌, ℕ, zero, suc, ◌+◌, ◌<◌, ◌≤◌, List, [], ◌∷◌, get_or, sym, subst, inl, inr, ⊎_elim, arith}
use Rattle.std.specs.List.{AllPairs}
use Rattle.std.proofs.lemmas.Bool.{cases_lt}
use Rattle.std.proofs.lemmas.List.Elements.{Contains-get_or}
use Rattle.std.proofs.lemmas.List.Kept.{AllPairs-cons}
use Rattle.bril_tree.specs.Membership.{In}
use Rattle.bril_tree.proofs.Counting.{differ-first, differ-rest}
use Rattle.bril_tree.proofs.Members.{in_contains}

-- of things among finitely many some different ones are all
pub not_uncounted : {A : Type 0} (P : A → Type 0) (cs : List A) → AllPairs (λ a b. a ≢ b) cs → ((xs : List A) → AllPairs (λ a b. a ≢ b) xs → ((x : A) → In x xs → P x × In x cs) → ((x : A) → In x cs → P x → In x xs) → ⊥) → ⊥
not_uncounted P [] differ none = none [] (λ i j d less inside. absurd (omega arith)) (λ x i. absurd i) (λ x i p. absurd i)
not_uncounted P (c ∷ cs) differ none =
    not_uncounted P cs (differ-rest c cs differ) (λ xs apart are all.
    let without : (P c → ⊥) → ⊥ = λ lacks. none xs apart (λ x i. let h = are x i in (h.0, inr h.1)) (λ x i p. ⊎_elim (λ e. absurd (lacks (subst P e p))) (λ h. all x h p) i) in
    without (λ p. none (c ∷ xs)
    (AllPairs-cons (λ a b. a ≢ b) c xs (λ k d low. λ e. differ-first c cs differ (get_or xs k d) (are (get_or xs k d) (in_contains (get_or xs k d) xs (Contains-get_or xs k d low))).1 e) apart)
    (λ x i. ⊎_elim (λ e. (subst P (sym e) p, inl e)) (λ h. let k = are x h in (k.0, inr k.1)) i)
    (λ x i q. ⊎_elim inl (λ h. inr (all x h q)) i)))

-- bounded numbers have a greatest
pub not_unbounded : (S : ℕ → Type 0) (bound : ℕ) → ((n : ℕ) → S n → n ≤ bound) → (n : ℕ) → S n → ((m : ℕ) → S m → ((k : ℕ) → S k → k ≤ m) → ⊥) → ⊥
not_unbounded S bound low n s none = by (suc bound) n (omega arith) s
  where
    by : (fuel m : ℕ) → bound < fuel + m → S m → ⊥
    by zero m enough h = let l = low m h in omega arith
    by (suc fuel) m enough h = none m h (λ k g. ⊎_elim (λ more. absurd (by fuel k (omega arith) g)) (λ l. l) (cases_lt m k))
