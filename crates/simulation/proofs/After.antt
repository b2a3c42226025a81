-- States after a number of steps.
use Rattle.std.proofs.Common.{◌≡◌, ℕ, zero, suc, ◌+◌, ◌-◌, ◌≤◌, ◌⊎◌, Option, Some, None, refl, sym, ap, ◌∙◌, subst, inl, inr, ⊎_elim, arith, true≢false}
use Rattle.simulation.specs.System.{System, after, IsFinal, IsPrefix, IsSystem, Agree}
use Rattle.simulation.proofs.Prefix.{IsPrefix-refl, IsPrefix-trans}

-- one more step at the end
pub after-suc : {S : Type 0} (step : S → S) (n : ℕ) (s : S) → after step (suc n) s ≡ step (after step n s)
after-suc step zero s = refl
after-suc step (suc n) s = after-suc step n (step s)

pub after-add_one : {S : Type 0} (step : S → S) (n : ℕ) (s : S) → after step (n + 1) s ≡ step (after step n s)
after-add_one step n s = let e : n + 1 ≡ suc n = omega arith in ap (λ k. after step k s) e ∙ after-suc step n s

-- what a loop that makes one step in each turn wants
pub ruleset stepping = (after-suc, after-add_one)

pub after-add : {S : Type 0} (step : S → S) (n m : ℕ) (s : S) → after step (n + m) s ≡ after step m (after step n s)
after-add step zero m s = let e : zero + m ≡ m = omega arith in ap (λ k. after step k s) e
after-add step (suc n) m s = let e : suc n + m ≡ suc (n + m) = omega arith in ap (λ k. after step k s) e ∙ after-add step n m (step s)

-- the first n of m steps
pub after-sub : {S : Type 0} (step : S → S) (n m : ℕ) (s : S) → n ≤ m → after step m s ≡ after step (m - n) (after step n s)
after-sub step n m s h = let e : m ≡ n + (m - n) = omega arith in ap (λ k. after step k s) e ∙ after-add step n (m - n) s

-- a state is final or runs
pub final_or_running : {E : Type 0} (o : Option E) → IsFinal o ⊎ (o ≡ None)
final_or_running None = inr refl
final_or_running (Some e) = inl refl

pub running-not_final : {E : Type 0} (o : Option E) → o ≡ None → IsFinal o → ⊥
running-not_final {E = E} o e f = let g : IsFinal {E = E} None = subst IsFinal e f in true≢false (sym g)

-- states that agree are final together
pub Agree-final : {E S T : Type 0} (P : System E S) (Q : System E T) (s : S) (t : T) → Agree P Q s t → IsFinal (P.ending s) → IsFinal (Q.ending t)
Agree-final P Q s t a f = subst IsFinal a.0 f

pub Agree-final_back : {E S T : Type 0} (P : System E S) (Q : System E T) (s : S) (t : T) → Agree P Q s t → IsFinal (Q.ending t) → IsFinal (P.ending s)
Agree-final_back P Q s t a f = subst IsFinal (sym a.0) f

pub Agree-trans : {E S T U : Type 0} (P : System E S) (Q : System E T) (O : System E U) (s : S) (t : T) (u : U) → Agree P Q s t → Agree Q O t u → Agree P O s u
Agree-trans P Q O s t u a b = (a.0 ∙ b.0, a.1 ∙ b.1)

module _ {E S : Type 0} (P : System E S) (sound : IsSystem P) where
  -- a final state stays as it is
  pub after-final : (n : ℕ) (s : S) → IsFinal (P.ending s) → after P.step n s ≡ s
  after-final zero s f = refl
  after-final (suc n) s f = ap (after P.step n) (sound.rests s f) ∙ after-final n s f

  pub after-final_le : (n m : ℕ) (s : S) → n ≤ m → IsFinal (P.ending (after P.step n s)) → after P.step m s ≡ after P.step n s
  after-final_le n m s h f = after-sub P.step n m s h ∙ after-final (m - n) (after P.step n s) f

  -- what has ended has ended later too
  pub IsFinal-later : (n m : ℕ) (s : S) → n ≤ m → IsFinal (P.ending (after P.step n s)) → IsFinal (P.ending (after P.step m s))
  IsFinal-later n m s h f = subst (λ x. IsFinal (P.ending x)) (sym (after-final_le n m s h f)) f

  -- what runs ran before too
  pub running-earlier : (n m : ℕ) (s : S) → n ≤ m → P.ending (after P.step m s) ≡ None → P.ending (after P.step n s) ≡ None
  running-earlier n m s h e =
      ⊎_elim (λ f. absurd (running-not_final (P.ending (after P.step m s)) e (IsFinal-later n m s h f))) (λ r. r) (final_or_running (P.ending (after P.step n s)))

  -- printed bytes stay
  pub after-grows : (n : ℕ) (s : S) → IsPrefix (P.printed s) (P.printed (after P.step n s))
  after-grows zero s = IsPrefix-refl (P.printed s)
  after-grows (suc n) s = IsPrefix-trans (P.printed s) (P.printed (P.step s)) (P.printed (after P.step n (P.step s))) (sound.grows s) (after-grows n (P.step s))

  pub after-grows_le : (n m : ℕ) (s : S) → n ≤ m → IsPrefix (P.printed (after P.step n s)) (P.printed (after P.step m s))
  after-grows_le n m s h =
      subst (λ x. IsPrefix (P.printed (after P.step n s)) (P.printed x)) (sym (after-sub P.step n m s h)) (after-grows (m - n) (after P.step n s))
