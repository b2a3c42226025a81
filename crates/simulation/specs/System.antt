-- Systems that make steps, and what can be seen of them: how they end and what they print.
use Rattle.std.specs.Prelude.{◌≡◌, ℕ, zero, suc, List, ◌++◌, Option, IsSome}

-- a system that makes steps: one step, how a state ended (None while it runs), and what it has printed so far
pub record System (E S : Type 0) : Type 0 where
  pub step : S → S
  pub ending : S → Option E
  pub printed : S → List ℕ

-- the state after n steps
abbrev pub after : {S : Type 0} → (S → S) → ℕ → S → S
after step zero s = s
after step (suc n) s = after step n (step s)

-- it has ended, in whatever way
abbrev pub IsFinal : {E : Type 0} → Option E → Type 0
IsFinal o = IsSome o

-- ys begins with xs
abbrev pub IsPrefix : List ℕ → List ℕ → Type 0
IsPrefix xs ys = (rest : List ℕ) × (ys ≡ xs ++ rest)

-- a step leaves a final state as it is, and takes back nothing that was printed
pub record IsSystem {E S : Type 0} (P : System E S) : Type 0 where
  pub rests : (s : S) → IsFinal (P.ending s) → P.step s ≡ s
  pub grows : (s : S) → IsPrefix (P.printed s) (P.printed (P.step s))

-- the two states ended alike, or both run, and they have printed the same
abbrev pub Agree : {E S T : Type 0} → System E S → System E T → S → T → Type 0
Agree P Q s t = (P.ending s ≡ Q.ending t) × (P.printed s ≡ Q.printed t)
