-- The array of first points: written at the heads of blocks, and blank again.
use Rattle.std.proofs.Common.{◌≡◌, ◌↔◌, ◌⊎◌, ℕ, zero, suc, ◌+◌, ◌-◌, ◌<◌, ◌≤◌, true, List, [], ◌∷◌, length, refl, sym, ap, subst, ◌∙◌, inl, inr, ⊎_elim, set, arith}
use Rattle.std.specs.Prelude.{nat_lt, slice_get, slice_index}
use Rattle.std.specs.List.{Contains}
use Rattle.std.proofs.lemmas.Bool.{cases_eq, cases_lt, lt-ltb, ltb-true}
use Rattle.std.proofs.lemmas.List.{get_or-set_same, get_or-set_other, length-set}
use Rattle.bril_tree.specs.Assigned.{assigns_at}
use Rattle.bril_tree.specs.declared.numbered.Instr.{Instr}
use Rattle.bril_tree.specs.Membership.{In}
use Rattle.bril_tree.specs.Operand.{Location}
use Rattle.bril_tree.specs.Walk.{IsReached}
use Rattle.bril_tree.proofs.Assignments.{in_or_not}
use Rattle.bril_tree.proofs.Branches.{walk_within}
use Rattle.bril_tree.proofs.Members.{contains_in, in_contains}
use Rattle.ssa_search.specs.accesses.Accesses.{AssignsFirst}
use Rattle.ssa_search.proofs.lemmas.accesses.Tracking.{assigned-within}
use Rattle.ssa_search.specs.gets.Found.{IsBlank, with_values}
use Rattle.ssa_search.specs.placing.Blocks.{AreFirsts}
use Rattle.ssa_search.specs.placing.Wanted.{Unassigned, head_of}
use Rattle.ssa_search.proofs.lemmas.placing.Wanted.{head-between, head-le}

-- ---- an array written at heads

pub values-length : (value : ℕ → ℕ) (heads points first : List ℕ) → length (with_values value heads points first) ≡ length first
values-length value heads [] first = refl
values-length value heads (p ∷ points) first = values-length value heads points (set first (slice_index heads p) (value p)) ∙ length-set first (slice_index heads p) (value p)

-- a place was written for one of the points, or for none
abbrev pub WrittenBy : (ℕ → ℕ) → List ℕ → List ℕ → List ℕ → ℕ → Type 0
WrittenBy value heads points first i = (p : ℕ) × In p points × (slice_index heads p ≡ i) × (slice_index (with_values value heads points first) i ≡ value p)

abbrev pub WrittenByNone : (ℕ → ℕ) → List ℕ → List ℕ → List ℕ → ℕ → Type 0
WrittenByNone value heads points first i = ((p : ℕ) → In p points → slice_index heads p ≡ i → ⊥) × (slice_index (with_values value heads points first) i ≡ slice_index first i)

pub written_by : (value : ℕ → ℕ) (heads points first : List ℕ) (i : ℕ) → i < length first → WrittenBy value heads points first i ⊎ WrittenByNone value heads points first i
written_by value heads [] first i low = inr ((λ p i e. i), refl)
written_by value heads (p ∷ points) first i low = by (written_by value heads points (set first (slice_index heads p) (value p)) i (let l = length-set first (slice_index heads p) (value p) in omega (arith, l, low))) (cases_eq (slice_index heads p) i)
  where
    by : WrittenBy value heads points (set first (slice_index heads p) (value p)) i ⊎ WrittenByNone value heads points (set first (slice_index heads p) (value p)) i → (slice_index heads p ≡ i) ⊎ (slice_index heads p ≡ i → ⊥) → WrittenBy value heads (p ∷ points) first i ⊎ WrittenByNone value heads (p ∷ points) first i
    by (inl w) h = inl (w.0, inr w.1, w.2, w.3)
    by (inr n) (inl e) = inl (p, inl refl, e, n.1 ∙ ap (slice_index (set first (slice_index heads p) (value p))) (sym e) ∙ get_or-set_same first (slice_index heads p) (value p) 0 (omega (arith, low, e)))
    by (inr n) (inr d) = inr ((λ q j e. ⊎_elim (λ s. d (ap (slice_index heads) (sym s) ∙ e)) (λ k. n.0 q k e) j), n.1 ∙ get_or-set_other first (slice_index heads p) i (value p) 0 (λ e. d (sym e)))

-- what was written is erased again
pub erased-blank : (heads points first : List ℕ) → IsBlank first → IsBlank (with_values (λ _. 4294967295) heads points (with_values (λ p. p) heads points first))
erased-blank heads points first blank i low =
    let long = values-length (λ p. p) heads points first in
    let longer = values-length (λ _. 4294967295) heads points (with_values (λ p. p) heads points first) in
    let inside : i < length first = omega (arith, long, longer, low) in
    ⊎_elim
    (λ w. w.3)
    (λ n. n.1 ∙ ⊎_elim (λ w. absurd (n.0 w.0 w.1 w.2)) (λ m. m.1 ∙ blank i inside) (written_by (λ p. p) heads points first i inside))
    (written_by (λ _. 4294967295) heads points (with_values (λ p. p) heads points first) i (omega (arith, long, inside)))

-- ---- first points

module _ (code : List Instr) (a : Location) where
  -- the first of so many points from one on that assigns the location, or none
  record FirstFrom (h n : ℕ) : Type 0 where
    point : ℕ
    from : h ≤ point
    low : point < h + n
    assigns : Contains (assigns_at (slice_get code point)) a
    unassigned : Unassigned code a h point

  first-from : (h n : ℕ) → Unassigned code a h (h + n) ⊎ FirstFrom h n
  first-from h zero = inl (λ q from less. absurd (omega (arith, from, less)))
  first-from h (suc n) = ⊎_elim none (λ f. inr (record { point = f.point; from = f.from; low = let l = f.low in omega (arith, l); assigns = f.assigns; unassigned = f.unassigned })) (first-from h n)
    where
      none : Unassigned code a h (h + n) → Unassigned code a h (h + suc n) ⊎ FirstFrom h (suc n)
      none u = ⊎_elim
          (λ i. inr (record { point = h + n; from = omega arith; low = omega arith; assigns = contains_in a (assigns_at (slice_get code (h + n))) i; unassigned = u }))
          (λ no. inl (λ q from less c. ⊎_elim
          (λ same. no (subst (λ k. In a (assigns_at (slice_get code k))) same (in_contains a (assigns_at (slice_get code q)) c)))
          (λ differs. u q from (omega (arith, less, differs)) c)
          (cases_eq q (h + n))))
          (in_or_not a (assigns_at (slice_get code (h + n))))

  -- the first in the block of a point that assigns it
  first-in_block : (r : ℕ) → Contains (assigns_at (slice_get code r)) a → (q : ℕ) × AssignsFirst code a q × (head_of code q ≡ head_of code r) × (q ≤ r)
  first-in_block r c = by (first-from (head_of code r) (r - head_of code r))
    where
      le : head_of code r ≤ r
      le = head-le code r

      whole : head_of code r + (r - head_of code r) ≡ r
      whole = omega (arith, le)

      by : Unassigned code a (head_of code r) (head_of code r + (r - head_of code r)) ⊎ FirstFrom (head_of code r) (r - head_of code r) → (q : ℕ) × AssignsFirst code a q × (head_of code q ≡ head_of code r) × (q ≤ r)
      by (inl u) = (r, record { assigns = c; unassigned = subst (Unassigned code a (head_of code r)) whole u }, refl, omega arith)
      by (inr f) =
          let low = f.low in
          let before : f.point < r = omega (arith, low, whole) in
          let same = head-between code r f.point f.from (omega (arith, before)) in
          (f.point, record { assigns = f.assigns; unassigned = subst (λ h. Unassigned code a h f.point) (sym same) f.unassigned }, same, omega (arith, before))

  -- a number tells the first point in the block of another that assigns the location, or is above all points
  abbrev pub FirstTold : ℕ → ℕ → Type 0
  FirstTold p v = ((q : ℕ) × AssignsFirst code a q × (head_of code q ≡ head_of code p) × (v ≡ q)) ⊎ (((q : ℕ) → AssignsFirst code a q → head_of code q ≡ head_of code p → ⊥) × (v ≡ 4294967295))

  pub first-told : length code < 4294967295 → (p v : ℕ) → IsReached code p → FirstTold p v → (nat_lt p v ≡ true) ↔ Unassigned code a (head_of code p) (suc p)
  first-told few p v r (inl (q, f, same, is)) =
      let le = head-le code q in (
        (λ e s from less. let l = ltb-true p v e in f.unassigned s (omega (arith, same, from)) (omega (arith, l, is, less))),
        (λ u. lt-ltb p v (⊎_elim (λ l. omega (arith, l, is)) (λ over. absurd (u q (omega (arith, same, le)) (omega (arith, over)) f.assigns)) (cases_lt p q))),
      )
  first-told few p v r (inr (none, is)) =
      let high : p ≤ length code = subst (λ k. k ≤ length code) r.ends (walk_within code r.walk r.is) in (
        (λ e s from less c.
            let w = first-in_block s c in
            none w.0 w.1 (w.2 ∙ head-between code p s from (omega (arith, less)))),
        (λ u. lt-ltb p v (omega (arith, is, high, few))),
      )

  module _ (heads : List ℕ) (are : (p : ℕ) → p < length code → slice_index heads p ≡ head_of code p) (points : List ℕ) (exact : (q : ℕ) → Contains points q ↔ AssignsFirst code a q)
      (first : List ℕ) (long : length first ≡ length code + 1) (few : length code < 4294967295) (blank : IsBlank first) where
    abbrev written : List ℕ
    written = with_values (λ p. p) heads points first

    pub firsts-are : AreFirsts code a written
    firsts-are p r = first-told few p (slice_index written (head_of code p)) r (by (written_by (λ p. p) heads points first (head_of code p) inside))
      where
        high : p ≤ length code
        high = subst (λ k. k ≤ length code) r.ends (walk_within code r.walk r.is)

        inside : head_of code p < length first
        inside = let le = head-le code p in omega (arith, le, high, long)

        by : WrittenBy (λ p. p) heads points first (head_of code p) ⊎ WrittenByNone (λ p. p) heads points first (head_of code p) → FirstTold p (slice_index written (head_of code p))
        by (inl (q, j, at, is)) = let f = (exact q).0 (contains_in q points j) in inl (q, f, sym (are q (assigned-within code a q f.assigns)) ∙ at, is)
        by (inr (none, is)) = inr ((λ q f same. none q (in_contains q points ((exact q).1 f)) (are q (assigned-within code a q f.assigns) ∙ same)), is ∙ blank (head_of code p) inside)
