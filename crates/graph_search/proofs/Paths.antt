-- What paths reach.
use Rattle.std.proofs.Common.{◌≡◌, ℕ, ◌+◌, ◌<◌, ◌≤◌, ◌↔◌, List, [], ◌∷◌, ◌++◌, length, take, get_or, sym, ap, ◌∙◌, subst, ⊎_elim, arith}
use Rattle.std.specs.Prelude.{slice_index, Bool}
use Rattle.std.proofs.lemmas.Bool.{cases_eq}
use Rattle.std.proofs.lemmas.List.{get_or_append_left, get_or_default, take_more}
use Rattle.std.proofs.lemmas.List.Elements.{Contains-get_or, Contains-push, Contains-push_cases, Contains-append_left}
use Rattle.std.specs.List.{Contains}
use Rattle.graph_search.specs.declared.graph.Arc.{Arc}
use Rattle.graph_search.specs.Reached.{VisitsAll}
use Rattle.graph_search.specs.Path.{IsPath, IsReached, Leads}
use Rattle.graph_search.proofs.Visiting.{kept, came}

pub reached_seed : (arcs : List Arc) (seeds : List ℕ) (gate : Arc → Bool) (node : ℕ) → Contains seeds node → IsReached arcs seeds gate node
reached_seed arcs seeds gate node h = record { path = []; is = h }

pub reached_step : (arcs : List Arc) (seeds : List ℕ) (gate : Arc → Bool) (from to : ℕ) → IsReached arcs seeds gate from → Leads arcs gate from to → IsReached arcs seeds gate to
reached_step arcs seeds gate from to r leads = record { path = from ∷ r.path; is = (leads, r.is) }

-- what holds of the seeds, and goes on along arcs, holds of all that paths reach
path_all : (arcs : List Arc) (seeds : List ℕ) (gate : Arc → Bool) (P : ℕ → Type 0) → ((n : ℕ) → Contains seeds n → P n) →
    ((m n : ℕ) → P m → Leads arcs gate m n → P n) → (path : List ℕ) (n : ℕ) → IsPath arcs seeds gate n path → P n
path_all arcs seeds gate P at_seeds on [] n h = at_seeds n h
path_all arcs seeds gate P at_seeds on (m ∷ path) n h = on m n (path_all arcs seeds gate P at_seeds on path m h.1) h.0

pub reached_all : (arcs : List Arc) (seeds : List ℕ) (gate : Arc → Bool) (P : ℕ → Type 0) → ((n : ℕ) → Contains seeds n → P n) →
    ((m n : ℕ) → P m → Leads arcs gate m n → P n) → (n : ℕ) → IsReached arcs seeds gate n → P n
reached_all arcs seeds gate P at_seeds on n r = path_all arcs seeds gate P at_seeds on r.path n r.is

-- a place of the list as it was
before_at : (P : ℕ → Type 0) (found new : List ℕ) (k : ℕ) → VisitsAll P found new → k < length found → slice_index new k ≡ slice_index found k
before_at P found new k v low = ap (λ xs. get_or xs k 0) v.grew ∙ get_or_append_left found v.rest 0 k low

pub closed_more : (arcs : List Arc) (gate : Arc → Bool) (next node : ℕ) (found new : List ℕ) → next < length found → slice_index found next ≡ node →
    ((k : ℕ) → k < next → (n : ℕ) → Leads arcs gate (slice_index found k) n → Contains found n) → VisitsAll (Leads arcs gate node) found new →
    (k : ℕ) → k < next + 1 → (n : ℕ) → Leads arcs gate (slice_index new k) n → Contains new n
closed_more arcs gate next node found new low here closed v k below n leads =
    let within : k < length found = omega arith in
    let leads' : Leads arcs gate (slice_index found k) n = subst (λ m. Leads arcs gate m n) (before_at (Leads arcs gate node) found new k v within) leads in
    ⊎_elim
    (λ same. v.all n (subst (λ m. Leads arcs gate m n) (ap (slice_index found) same ∙ here) leads'))
    (λ differs. let less : k < next = omega arith in kept (Leads arcs gate node) found new v n (closed k less n leads'))
    (cases_eq k next)

pub reached_more : (arcs : List Arc) (seeds : List ℕ) (gate : Arc → Bool) (node : ℕ) (found new : List ℕ) → Contains found node → VisitsAll (Leads arcs gate node) found new →
    ((n : ℕ) → Contains found n → IsReached arcs seeds gate n) → (n : ℕ) → Contains new n → IsReached arcs seeds gate n
reached_more arcs seeds gate node found new here v reached n h =
    ⊎_elim (reached n) (λ leads. reached_step arcs seeds gate node n (reached node here) leads) (came (Leads arcs gate node) found new v n h)

-- what is closed and has the seeds has all that paths reach
pub all_found : (arcs : List Arc) (seeds : List ℕ) (gate : Arc → Bool) (next : ℕ) (found : List ℕ) → length found ≤ next →
    ((k : ℕ) → k < next → (n : ℕ) → Leads arcs gate (slice_index found k) n → Contains found n) → ((n : ℕ) → Contains seeds n → Contains found n) →
    (n : ℕ) → IsReached arcs seeds gate n → Contains found n
all_found arcs seeds gate next found short closed has = reached_all arcs seeds gate (Contains found) has
    (λ m n h leads.
    let below : h.0 < next = let low = h.1 in omega arith in
    closed h.0 below n (subst (λ x. Leads arcs gate x n) (sym (get_or_default found h.0 0 m h.1 ∙ h.2)) leads))

pub none_found : (arcs : List Arc) (gate : Arc → Bool) (found : List ℕ) → found ≡ [] → (n : ℕ) → Contains found n ↔ IsReached arcs [] gate n
none_found arcs gate found e n = (
  λ h. absurd (nothing n (subst (λ xs. Contains xs n) e h)),
  λ r. absurd (reached_all arcs [] gate (λ m. ⊥) nothing (λ m k p leads. p) n r),
)
  where
    nothing : (m : ℕ) → Contains [] m → ⊥
    nothing m h = omega (arith, h.1)

-- what paths reach is closed
pub closed_found : (arcs : List Arc) (seeds : List ℕ) (gate : Arc → Bool) (found new : List ℕ) (P : ℕ → Type 0) → ((n : ℕ) → Contains found n ↔ IsReached arcs seeds gate n) →
    VisitsAll P found new → (k : ℕ) → k < length found → (n : ℕ) → Leads arcs gate (slice_index new k) n → Contains new n
closed_found arcs seeds gate found new P is v k low n leads =
    let leads' : Leads arcs gate (slice_index found k) n = subst (λ m. Leads arcs gate m n) (before_at P found new k v low) leads in
    let here : IsReached arcs seeds gate (slice_index found k) = (is (slice_index found k)).0 (Contains-get_or found k 0 low) in
    kept P found new v n ((is n).1 (reached_step arcs seeds gate (slice_index found k) n here leads'))

-- one more seed
pub seeds_more : (arcs : List Arc) (seeds : List ℕ) (gate : Arc → Bool) (i : ℕ) (found new all : List ℕ) → i < length seeds →
    ((n : ℕ) → Contains found n ↔ IsReached arcs (take i seeds) gate n) → VisitsAll (λ n. slice_index seeds i ≡ n) found new →
    ((n : ℕ) → Contains all n ↔ IsReached arcs new gate n) → (n : ℕ) → Contains all n ↔ IsReached arcs (take (i + 1) seeds) gate n
seeds_more arcs seeds gate i found new all low is v then n =
    let P : ℕ → Type 0 = λ m. slice_index seeds i ≡ m in
    let more : take (i + 1) seeds ≡ take i seeds ++ slice_index seeds i ∷ [] = take_more seeds i 0 low in
    let back : (m : ℕ) → Contains (take i seeds ++ slice_index seeds i ∷ []) m → Contains (take (i + 1) seeds) m = λ m h. subst (λ xs. Contains xs m) (sym more) h in
    let on : (m k : ℕ) → IsReached arcs (take (i + 1) seeds) gate m → Leads arcs gate m k → IsReached arcs (take (i + 1) seeds) gate k =
    reached_step arcs (take (i + 1) seeds) gate in
    let wider : (m : ℕ) → IsReached arcs (take i seeds) gate m → IsReached arcs (take (i + 1) seeds) gate m =
    reached_all arcs (take i seeds) gate (IsReached arcs (take (i + 1) seeds) gate)
    (λ m h. reached_seed arcs (take (i + 1) seeds) gate m (back m (Contains-append_left (take i seeds) (slice_index seeds i ∷ []) m h))) on in
    let from_new : (m : ℕ) → Contains new m → IsReached arcs (take (i + 1) seeds) gate m =
    λ m h. ⊎_elim (λ old. wider m ((is m).0 old))
    (λ e. reached_seed arcs (take (i + 1) seeds) gate m (back m (subst (Contains (take i seeds ++ slice_index seeds i ∷ [])) e (Contains-push (take i seeds) (slice_index seeds i)))))
    (came P found new v m h) in
    let to_new : (m : ℕ) → Contains (take (i + 1) seeds) m → IsReached arcs new gate m =
    λ m h. reached_seed arcs new gate m (⊎_elim
    (λ old. kept P found new v m ((is m).1 (reached_seed arcs (take i seeds) gate m old)))
    (λ e. v.all m e)
    (Contains-push_cases (take i seeds) (slice_index seeds i) m (subst (λ xs. Contains xs m) more h))) in (
      λ h. reached_all arcs new gate (IsReached arcs (take (i + 1) seeds) gate) from_new on n ((then n).0 h),
      λ r. (then n).1 (reached_all arcs (take (i + 1) seeds) gate (IsReached arcs new gate) to_new (reached_step arcs new gate) n r),
    )
