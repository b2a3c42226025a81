-- Lowering a number to the least index of a read that meets a condition.
use Rattle.std.proofs.Common.{◌≡◌, ℕ, ◌<◌, ◌≤◌, List, Some, length, get_or, sym, ap, ◌∙◌, subst, refl, inl, inr, ◌⊎◌, ⊎_elim, min, arith}
use Rattle.std.specs.Prelude.{slice_get}
use Rattle.std.proofs.lemmas.Bool.{cases_lt}
use Rattle.std.proofs.lemmas.Option.{slice_get-get_or}
use Rattle.flow_graph.specs.declared.reads.Access.{Access}
use Rattle.definite_assignment.specs.Reads.{Lowers}
use Rattle.definite_assignment.specs.Window.{window_of}

-- the condition may be another that is met by the same reads
pub Lowers-same : (reads : List Access) (P Q : Access → Type 0) (first least : ℕ) → ((r : Access) → P r → Q r) → ((k : ℕ) (r : Access) → slice_get reads k ≡ Some r → Q r → P r) → Lowers reads P first least → Lowers reads Q first least
Lowers-same reads P Q first least p q low = record {
  within = low.within;
  met = ⊎_elim inl (λ h. inr (h.0, h.1, p h.0 h.2)) low.met;
  none = λ k read below e h. low.none k read below e (q k read e h);
}

pub Lowers-none : (reads : List Access) (P : Access → Type 0) (first : ℕ) → ((k : ℕ) (r : Access) → slice_get reads k ≡ Some r → ¬ P r) → Lowers reads P first first
Lowers-none reads P first never = record {
  within = omega arith;
  met = inl refl;
  none = λ k read below e. never k read e;
}

-- what lowering at a place says
abbrev LowersAt : List Access → (Access → Type 0) → ℕ → ℕ → ℕ → Type 0
LowersAt reads P k least result = (read : Access) → slice_get reads k ≡ Some read → (P read × (result ≡ min least k)) ⊎ ((¬ P read) × (result ≡ least))

-- the least is the first, or the place of a read of the window that meets the condition
abbrev pub Met : List Access → (Access → Type 0) → ℕ → ℕ → ℕ → Type 0
Met reads P window first least = (least ≡ first) ⊎ ((read : Access) × (slice_get reads least ≡ Some read) × ((window_of read.location ≡ window) × P read))

module _ (reads : List Access) (P : Access → Type 0) (k least result : ℕ) (low : k < length reads) (at : LowersAt reads P k least result) where
  pub lower-below : result ≤ least
  lower-below =
      let read = get_or reads k (record { item = 0; location = 0 }) in
      ⊎_elim (λ h. let m = h.1 in omega arith) (λ h. let m = h.1 in omega arith) (at read (slice_get-get_or reads k (record { item = 0; location = 0 }) low))

  pub lower-here : (read : Access) → slice_get reads k ≡ Some read → P read → result ≤ k
  lower-here read e met = ⊎_elim (λ h. let m = h.1 in omega arith) (λ h. absurd (h.0 met)) (at read e)

  pub lower-met : (window first : ℕ) → ((read : Access) → slice_get reads k ≡ Some read → window_of read.location ≡ window) → Met reads P window first least → Met reads P window first result
  lower-met window first is met =
      let read = get_or reads k (record { item = 0; location = 0 }) in
      let e : slice_get reads k ≡ Some read = slice_get-get_or reads k (record { item = 0; location = 0 }) low in
      let same : result ≡ least → Met reads P window first result = λ h. subst (Met reads P window first) (sym h) met in
      ⊎_elim
      (λ h. ⊎_elim
      (λ less. let here : result ≡ k = let m = h.1 in omega arith in inr (read, ap (slice_get reads) here ∙ e, (is read e, h.0)))
      (λ more. same (let m = h.1 in omega arith))
      (cases_lt k least))
      (λ h. same h.1)
      (at read e)
