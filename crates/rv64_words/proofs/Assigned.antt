-- What is read of a function after one of its values changed.
use Rattle.std.proofs.Common.{◌≡◌, ◌≢◌, ℕ, Bool, true, false, cond, eqb, refl, ap, arith}
use Rattle.std.proofs.lemmas.Bool.{eq-eqb, ne_eqb}
use Rattle.std.proofs.lemmas.Bool.Decides.{nat_tests}
use Rattle.rv64_words.specs.State.{assigned}
use Rattle.rv64_words.proofs.Words.{same_words}

pub assigned_twice : (f : ℕ → ℕ) (r a b : ℕ) → assigned (assigned f r a) r b ≡ assigned f r b
assigned_twice f r a b = same_words _ _ (λ y. by_test (eqb y r) y)
  where
    by_test : (t : Bool) (y : ℕ) → cond t b (cond t a (f y)) ≡ cond t b (f y)
    by_test true y = refl
    by_test false y = refl

-- what is there already changes nothing
pub assigned_same : (f : ℕ → ℕ) (r : ℕ) → assigned f r (f r) ≡ f
assigned_same f r = same_words _ _ (λ y. by_test (eqb y r) y refl)
  where
    by_test : (t : Bool) (y : ℕ) → eqb y r ≡ t → cond t (f r) (f y) ≡ f y
    by_test true y e = grind (arith, nat_tests)
    by_test false y e = refl

pub assigned_here : (f : ℕ → ℕ) (r v : ℕ) → assigned f r v r ≡ v
assigned_here f r v = ap (λ t. cond t v (f r)) (eq-eqb r r refl)

pub assigned_other : (f : ℕ → ℕ) (r v s : ℕ) → s ≢ r → assigned f r v s ≡ f s
assigned_other f r v s ne = ap (λ t. cond t v (f s)) (ne_eqb s r ne)
