-- The laws of refinement and simulation, each as one statement.
use Rattle.std.specs.Prelude.{ℕ, ◌*◌, ◌≤◌}
use Rattle.simulation.specs.System.{System, IsSystem, after}
use Rattle.simulation.specs.Refinement.{Follows}
use Rattle.simulation.specs.Simulation.{Simulation, Plus, Star, Tracks}

-- each system follows itself, step by step
abbrev pub FollowsItself : (E S : Type 0) → Type 0
FollowsItself E S = (P : System E S) (s : S) → Follows P P 1 s s

-- refinement composes, and the factors multiply
abbrev pub FollowsOn : (E S T U : Type 0) → Type 0
FollowsOn E S T U =
    (P : System E S) (Q : System E T) (O : System E U) (k j : ℕ) (s : S) (t : T) (u : U) →
    Follows P Q k s t → Follows Q O j t u → Follows P O (k * j) s u

-- a larger factor serves too
abbrev pub FollowsSlower : (E S T : Type 0) → Type 0
FollowsSlower E S T =
    (P : System E S) (Q : System E T) → IsSystem Q → (k j : ℕ) (s : S) (t : T) → k ≤ j → Follows P Q k s t → Follows P Q j s t

-- a simulation gives refinement from related states on
abbrev pub SimulationFollows : (E : Type 0) {S T : Type 0} → (S → T → Type 0) → Type 0
SimulationFollows E {S} {T} R =
    (P : System E S) (Q : System E T) → IsSystem P → IsSystem Q →
    (k : ℕ) → Simulation P Q k R → (s : S) (t : T) → R s t → Follows P Q k s t

-- so does a simulation in lock step
abbrev pub PlusFollows : (E : Type 0) {S T : Type 0} → (S → T → Type 0) → Type 0
PlusFollows E {S} {T} R =
    (P : System E S) (Q : System E T) → IsSystem P → IsSystem Q →
    (c : ℕ) → Plus P Q c R → (s : S) (t : T) → R s t → Follows P Q c s t

-- so does a star one
abbrev pub StarFollows : (E : Type 0) {S T : Type 0} → (S → T → Type 0) → Type 0
StarFollows E {S} {T} R =
    (P : System E S) (Q : System E T) → IsSystem P → IsSystem Q →
    (c : ℕ) (distance : S → ℕ) → Star P Q c distance R → (s : S) (t : T) → R s t → Follows P Q c s t

-- in lock step Q keeps track of P, from any state that leads to a related one within c steps
abbrev pub PlusTracks : (E : Type 0) {S T : Type 0} → (S → T → Type 0) → Type 0
PlusTracks E {S} {T} R =
    (P : System E S) (Q : System E T) → IsSystem P → IsSystem Q →
    (c : ℕ) → Plus P Q c R → (s : S) (t : T) (lead : ℕ) → lead ≤ c → R s (after Q.step lead t) → Tracks P Q c R s t

-- so it does in a star one
abbrev pub StarTracks : (E : Type 0) {S T : Type 0} → (S → T → Type 0) → Type 0
StarTracks E {S} {T} R =
    (P : System E S) (Q : System E T) → IsSystem P → IsSystem Q →
    (c : ℕ) (distance : S → ℕ) → Star P Q c distance R → (s : S) (t : T) (lead : ℕ) → lead ≤ c → R s (after Q.step lead t) → Tracks P Q c R s t
