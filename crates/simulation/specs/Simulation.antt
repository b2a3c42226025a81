-- Relations between the states of two systems that their steps keep.
use Rattle.std.specs.Prelude.{◌≡◌, ℕ, suc, ◌+◌, ◌*◌, ◌<◌, ◌≤◌, ◌⊎◌}
use Rattle.std.specs.declared.option.Option.TheVariants.{None}
use Rattle.simulation.specs.System.{System, after, IsFinal, IsPrefix, Agree}

-- from two states some steps of P and some of Q lead to related states
pub record Chunk {E S T : Type 0} (P : System E S) (Q : System E T) (k : ℕ) (R : S → T → Type 0) (s : S) (t : T) : Type 0 where
  -- P makes early + 1 steps, and Q makes moves + 1
  pub early : ℕ
  pub moves : ℕ
  pub within : suc moves ≤ k * suc early
  -- P neither prints nor ends before the last of its steps
  pub quiet : P.printed (after P.step early s) ≡ P.printed s
  pub running : P.ending (after P.step early s) ≡ None
  pub again : R (after P.step (suc early) s) (after Q.step (suc moves) t)

-- related states agree, and from related states that run some steps lead to related states again
pub record Simulation {E S T : Type 0} (P : System E S) (Q : System E T) (k : ℕ) (R : S → T → Type 0) : Type 0 where
  pub agrees : (s : S) (t : T) → R s t → Agree P Q s t
  pub chunk : (s : S) (t : T) → R s t → P.ending s ≡ None → Chunk P Q k R s t

-- each step of P is at least one and at most c steps of Q
pub record Plus {E S T : Type 0} (P : System E S) (Q : System E T) (c : ℕ) (R : S → T → Type 0) : Type 0 where
  pub agrees : (s : S) (t : T) → R s t → Agree P Q s t
  pub moves : (s : S) (t : T) → R s t → P.ending s ≡ None → (m : ℕ) × (suc m ≤ c) × R (P.step s) (after Q.step (suc m) t)

-- each step of P is at least one and at most c steps of Q, or P makes it alone, and then a distance falls
pub record Star {E S T : Type 0} (P : System E S) (Q : System E T) (c : ℕ) (distance : S → ℕ) (R : S → T → Type 0) : Type 0 where
  pub agrees : (s : S) (t : T) → R s t → Agree P Q s t
  pub moves : (s : S) (t : T) → R s t → P.ending s ≡ None →
      ((distance (P.step s) < distance s) × R (P.step s) t) ⊎ ((m : ℕ) × (suc m ≤ c) × R (P.step s) (after Q.step (suc m) t))

-- Q from t has at each state of P from s a state that is related to it, after at most c steps for each step of P and one more
pub record Tracks {E S T : Type 0} (P : System E S) (Q : System E T) (c : ℕ) (R : S → T → Type 0) (s : S) (t : T) : Type 0 where
  -- how many steps Q has made when P has made n
  pub count : ℕ → ℕ
  pub bounded : (n : ℕ) → count n ≤ c * (n + 1)
  pub rising : (n m : ℕ) → n ≤ m → count n ≤ count m
  pub related : (n : ℕ) → R (after P.step n s) (after Q.step (count n) t)
  pub agrees : (n : ℕ) → Agree P Q (after P.step n s) (after Q.step (count n) t)
  -- where Q ends, P ends alike
  pub ends_only : (m : ℕ) → IsFinal (Q.ending (after Q.step m t)) → (n : ℕ) × Agree P Q (after P.step n s) (after Q.step m t)
  -- Q prints nothing that P does not print
  pub prints_only : (m : ℕ) → (n : ℕ) × IsPrefix (Q.printed (after Q.step m t)) (P.printed (after P.step n s))
