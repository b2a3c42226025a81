-- Rows of marks, as they grow.
use Rattle.std.proofs.Common.{◌≡◌, ◌⊎◌, inl, inr, ⊎_elim, ℕ, ◌+◌, ◌<◌, Bool, true, List, [], ◌∷◌, ◌++◌, length, get_or, take, Option, Some, None, refl, sym, ap, ◌∙◌, subst}
use Rattle.std.specs.Prelude.{option_map, slice_get}
use Rattle.std.proofs.lemmas.List.{take_more}
use Rattle.std.proofs.lemmas.Option.{same_Some}
use Rattle.bril_tree.specs.Assigned.{assigns_at}
use Rattle.bril_tree.specs.Membership.{In}
use Rattle.bril_tree.specs.Operand.{Location}
use Rattle.bril_tree.proofs.Members.{contains_in, in_append_cases, in_append_left, in_append_right, in_contains}
use Rattle.flow_graph.specs.Location.{location_at, number_at, number_of}
use Rattle.flow_graph.proofs.Locations.{assigned-number, location-assigned}
use Rattle.live_sets.specs.Liveness.{is_live}
use Rattle.shadow_place.specs.declared.analyses.Analyses.{Analyses}
use Rattle.shadow_place.specs.Marks.{Adds, AddsAll, IsMarkedAt, IsMarkedIn, row_at, site_told}

-- ---- a row

-- no number meets the condition
adds_none : (P : ℕ → Type 0) (row : List Bool) → ((n : ℕ) → P n → ⊥) → Adds P row row
adds_none P row none = record { long = refl; kept = λ n h. h; came = λ n h. inl h; all = λ n less p. absurd (none n p) }

-- the same condition in other words
adds_for : (P Q : ℕ → Type 0) (old new : List Bool) → ((n : ℕ) → P n → Q n) → ((n : ℕ) → Q n → P n) → Adds P old new → Adds Q old new
adds_for P Q old new on back a = record {
  long = a.long;
  kept = a.kept;
  came = λ n h. ⊎_elim inl (λ p. inr (on n p)) (a.came n h);
  all = λ n less q. a.all n less (back n q);
}

-- one condition after another
adds_then : (P Q R : ℕ → Type 0) (old middle new : List Bool) → ((n : ℕ) → P n → R n) → ((n : ℕ) → Q n → R n) → ((n : ℕ) → R n → P n ⊎ Q n) → Adds P old middle → Adds Q middle new → Adds R old new
adds_then P Q R old middle new first second split a b = record {
  long = b.long ∙ a.long;
  kept = λ n h. b.kept n (a.kept n h);
  came = λ n h. ⊎_elim (λ m. ⊎_elim inl (λ p. inr (first n p)) (a.came n m)) (λ q. inr (second n q)) (b.came n h);
  all = λ n less r. ⊎_elim (λ p. b.kept n (a.all n less p)) (λ q. b.all n (subst (λ k. n < k) (sym a.long) less) q) (split n r);
}

-- ---- all rows

pub all_none : (P : ℕ → ℕ → Type 0) (rows : List (List Bool)) → ((s n : ℕ) → P s n → ⊥) → AddsAll P rows rows
all_none P rows none s = adds_none (P s) (row_at rows s) (none s)

pub all_for : (P Q : ℕ → ℕ → Type 0) (old new : List (List Bool)) → ((s n : ℕ) → P s n → Q s n) → ((s n : ℕ) → Q s n → P s n) → AddsAll P old new → AddsAll Q old new
all_for P Q old new on back a s = adds_for (P s) (Q s) (row_at old s) (row_at new s) (on s) (back s) (a s)

pub all_then : (P Q R : ℕ → ℕ → Type 0) (old middle new : List (List Bool)) → ((s n : ℕ) → P s n → R s n) → ((s n : ℕ) → Q s n → R s n) → ((s n : ℕ) → R s n → P s n ⊎ Q s n) → AddsAll P old middle → AddsAll Q middle new → AddsAll R old new
all_then P Q R old middle new first second split a b s = adds_then (P s) (Q s) (R s) (row_at old s) (row_at middle s) (row_at new s) (first s) (second s) (split s) (a s) (b s)

-- ---- the location that an item assigns

-- the location of the number that an item assigns
numbered : (o : Option Location) (number : ℕ) → option_map number_of o ≡ Some number → (x : Location) × (o ≡ Some x) × (number_of x ≡ number)
numbered None number e = absurd cc
numbered (Some x) number e = (x, refl, same_Some (number_of x) number e)

module _ (a : Analyses) (level label point : ℕ) where
  at_number : (number s n : ℕ) → number_at (slice_get a.func.now.code point) ≡ Some number → IsMarkedAt a level label point s n → n ≡ number
  at_number number s n e m =
      let own = assigned-number (slice_get a.func.now.code point) m.location (in_contains m.location (assigns_at (slice_get a.func.now.code point)) m.assigns) in
      same_Some n number (ap Some (sym m.numbered) ∙ (sym own ∙ e))

  -- it is live
  pub marks_it : (number : ℕ) (told : Bool) (site : Option ℕ) (old new : List (List Bool)) → number_at (slice_get a.func.now.code point) ≡ Some number → ((x : Location) → number_of x ≡ number → told ≡ is_live a.live.now x label) → told ≡ true →
      site ≡ site_told level (slice_get a.graph.now.sites point) → AddsAll (λ s n. (site ≡ Some s) × (n ≡ number)) old new → AddsAll (IsMarkedAt a level label point) old new
  marks_it number told site old new e tells is opened added =
      all_for (λ s n. (site ≡ Some s) × (n ≡ number)) (IsMarkedAt a level label point) old new
      (λ s n m. subst (IsMarkedAt a level label point s) (sym m.1) (here s m.0)) (λ s n m. (opened ∙ m.opened, at_number number s n e m)) added
    where
      x : (x : Location) × (location_at (slice_get a.func.now.code point) ≡ Some x) × (number_of x ≡ number)
      x = numbered (location_at (slice_get a.func.now.code point)) number e

      here : (s : ℕ) → site ≡ Some s → IsMarkedAt a level label point s number
      here s at = record {
        opened = sym opened ∙ at;
        location = x.0;
        numbered = x.2;
        assigns = contains_in x.0 (assigns_at (slice_get a.func.now.code point)) (location-assigned (slice_get a.func.now.code point) x.0 x.1);
        told = sym (tells x.0 x.2) ∙ is;
      }

-- ---- points

module _ (a : Analyses) (level label : ℕ) where
  -- one point more
  pub marks_more : (points : List ℕ) (i point : ℕ) (old middle new : List (List Bool)) → i < length points → point ≡ get_or points i point → AddsAll (IsMarkedIn a level label (take i points)) old middle → AddsAll (IsMarkedAt a level label point) middle new →
      AddsAll (IsMarkedIn a level label (take (i + 1) points)) old new
  marks_more points i point old middle new less here before next =
      subst (λ l. AddsAll (IsMarkedIn a level label l) old new) (sym front)
      (all_then (IsMarkedIn a level label (take i points)) (IsMarkedAt a level label point) (IsMarkedIn a level label (take i points ++ point ∷ [])) old middle new
      (λ s n m. record { point = m.point; there = contains_in m.point (take i points ++ point ∷ []) (in_append_left m.point (take i points) (point ∷ []) (in_contains m.point (take i points) m.there)); marked = m.marked })
      (λ s n m. record { point = point; there = contains_in point (take i points ++ point ∷ []) (in_append_right point (take i points) (point ∷ []) (inl refl)); marked = m })
      split before next)
    where
      front : take (i + 1) points ≡ take i points ++ point ∷ []
      front = take_more points i point less ∙ ap (λ p. take i points ++ p ∷ []) (sym here)

      split : (s n : ℕ) → IsMarkedIn a level label (take i points ++ point ∷ []) s n → IsMarkedIn a level label (take i points) s n ⊎ IsMarkedAt a level label point s n
      split s n m = by (in_append_cases m.point (take i points) (point ∷ []) (in_contains m.point (take i points ++ point ∷ []) m.there))
        where
          by : In m.point (take i points) ⊎ In m.point (point ∷ []) → IsMarkedIn a level label (take i points) s n ⊎ IsMarkedAt a level label point s n
          by (inl h) = inl (record { point = m.point; there = contains_in m.point (take i points) h; marked = m.marked })
          by (inr (inl e)) = inr (subst (λ p. IsMarkedAt a level label p s n) e m.marked)
          by (inr (inr h)) = absurd h
