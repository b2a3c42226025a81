-- Refinement between two systems, in both directions, with a bound on the number of steps.
use Rattle.std.specs.Prelude.{ℕ, ◌*◌}
use Rattle.simulation.specs.System.{System, after, IsFinal, IsPrefix, Agree}

-- Q from t does what P from s does, in at most k steps for each step of P
pub record Follows {E S T : Type 0} (P : System E S) (Q : System E T) (k : ℕ) (s : S) (t : T) : Type 0 where
  -- where P ends, Q ends alike after k times as many steps
  pub ends : (n : ℕ) → IsFinal (P.ending (after P.step n s)) → Agree P Q (after P.step n s) (after Q.step (k * n) t)
  -- where Q ends, P ends alike
  pub ends_only : (m : ℕ) → IsFinal (Q.ending (after Q.step m t)) → (n : ℕ) × Agree P Q (after P.step n s) (after Q.step m t)
  -- Q has printed by then what P has printed
  pub prints : (n : ℕ) → IsPrefix (P.printed (after P.step n s)) (Q.printed (after Q.step (k * n) t))
  -- Q prints nothing that P does not print
  pub prints_only : (m : ℕ) → (n : ℕ) × IsPrefix (Q.printed (after Q.step m t)) (P.printed (after P.step n s))
