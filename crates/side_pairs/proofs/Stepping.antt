-- One step of pairing.
use Rattle.std.proofs.Common.{◌≡◌, ℕ, zero, suc, ◌+◌, ◌-◌, ◌<◌, true, false, List, [], ◌∷◌, refl, sym, ap, subst, ◌∙◌, inl, inr, ⊎_elim, arith}
use Rattle.std.specs.Prelude.{slice_get}
use Rattle.std.proofs.lemmas.Bool.{cases_lt}
use Rattle.bril_tree.specs.declared.numbered.Instr.{Instr}
use Rattle.bril_tree.specs.Step.{point_of}
use Rattle.side_laws.specs.Paired.{BeginsWith, Commits, Ends, Going, Inverts, IsDirect, IsGuardOn, IsInverted, IsKept, IsNoDirect, IsNoInverted, Pair, Pairing, Pairs, PairsFrom, Walker, Within, goes, is_nop, item_place, pairs_by, settled, stands}
use Rattle.side_pairs.specs.declared.step.Spot.{Spot}
use Rattle.side_pairs.specs.declared.walk as walk
use Rattle.side_pairs.specs.Steps.{FromSpot, IsStanding, skipped}
use Rattle.side_pairs.specs.Walks.{walker_of}

-- the first pair, and the rest
pub begins-so : (p q : Pair) → p ≡ q → (X Y : List Pair → Type 0) → ((xs : List Pair) → X xs → Y xs) → (xs : List Pair) → BeginsWith p X xs → BeginsWith q Y xs
begins-so p q e X Y f [] h = absurd h
begins-so p q e X Y f (x ∷ xs) h = (h.0 ∙ e, f xs h.1)

-- where the walk stands, so many items are left
stands-some : (code : List Instr) (bail : ℕ) (next skip : Pairing) (i n a : ℕ) (kept : List ℕ) (pairs : List Pair) → 0 < n → (g : Going code i a) → goes code bail next skip (n - 1) kept pairs g → stands code bail next skip i n a kept pairs
stands-some code bail next skip i zero a kept pairs some g h = absurd (omega (arith, some))
stands-some code bail next skip i (suc n) a kept pairs some g h = let e : suc n - 1 ≡ n = omega arith in (g, subst (λ k. goes code bail next skip k kept pairs g) e h)

module _ (code : List Instr) (bail : ℕ) where
  from-by : (room i : ℕ) (w : Walker) (kept : List ℕ) (pairs : List Pair) → pairs_by code bail (PairsFrom code bail room) (skipped code bail room) i w kept pairs → PairsFrom code bail (suc room) i w kept pairs
  from-by zero i w kept pairs h = h
  from-by (suc room) i w kept pairs h = h

  from-room : (room i : ℕ) (w : Walker) (kept : List ℕ) (pairs : List Pair) → 0 < room → pairs_by code bail (PairsFrom code bail (room - 1)) (skipped code bail (room - 1)) i w kept pairs → PairsFrom code bail room i w kept pairs
  from-room zero i w kept pairs some h = absurd (omega (arith, some))
  from-room (suc room) i w kept pairs some h = let e : suc room - 1 ≡ room = omega arith in from-by room i w kept pairs (subst (λ k. pairs_by code bail (PairsFrom code bail k) (skipped code bail k) i w kept pairs) e h)

  -- two items further
  pub skip-room : (room i : ℕ) (w : Walker) (kept : List ℕ) (pairs : List Pair) → 1 < room → PairsFrom code bail (room - 2) i w kept pairs → skipped code bail (room - 1) i w kept pairs
  skip-room zero i w kept pairs some h = absurd (omega (arith, some))
  skip-room (suc zero) i w kept pairs some h = absurd (omega (arith, some))
  skip-room (suc (suc room)) i w kept pairs some h =
      let a : suc (suc room) - 2 ≡ room = omega arith in
      let b : suc room ≡ suc (suc room) - 1 = omega arith in
      subst (λ k. skipped code bail k i w kept pairs) b (subst (λ k. PairsFrom code bail k i w kept pairs) a h)

  pub pairs-pass : (room i : ℕ) (w : Walker) (kept : List ℕ) (pairs : List Pair) → 0 < room → is_nop (slice_get code i) ≡ true → PairsFrom code bail (room - 1) (suc i) w kept pairs → PairsFrom code bail room i w kept pairs
  pairs-pass room i w kept pairs some e h = from-room room i w kept pairs some (inl (e, h))

  pub pairs-stand : (room i : ℕ) (w : Walker) (kept : List ℕ) (pairs : List Pair) (v : Walker) → 0 < room → is_nop (slice_get code i) ≡ false → v ≡ settled code w.left w.point → 0 < v.left
      → (g : Going code i v.point) × goes code bail (PairsFrom code bail (room - 1)) (skipped code bail (room - 1)) (v.left - 1) kept pairs g → PairsFrom code bail room i w kept pairs
  pairs-stand room i w kept pairs v some e same left h =
      from-room room i w kept pairs some (inr (
        e,
        subst (λ (z : Walker). stands code bail (PairsFrom code bail (room - 1)) (skipped code bail (room - 1)) i z.left z.point kept pairs) same
            (stands-some code bail (PairsFrom code bail (room - 1)) (skipped code bail (room - 1)) i v.left v.point kept pairs left h.0 h.1),
      ))

  -- from a spot by its parts
  pub from-parts : (s : Spot) (room i : ℕ) (w : Walker) (kept : List ℕ) (pairs : List Pair) → s.room ≡ room → s.item ≡ i → walker_of s.walker ≡ w → FromSpot code bail s kept pairs → PairsFrom code bail room i w kept pairs
  from-parts s room i w kept pairs a b c h =
      subst (λ z. PairsFrom code bail room i z kept pairs) c (subst (λ z. PairsFrom code bail room z (walker_of s.walker) kept pairs) b (subst (λ z. PairsFrom code bail z s.item (walker_of s.walker) kept pairs) a h))

pub walker-is : (w : walk.Walker.Walker) (left point : ℕ) → w.left ≡ left → w.point ≡ point → walker_of w ≡ record { left = left; point = point }
walker-is w left point a b = λ z. record { left = a z; point = b z }

-- a guard is not the commit
pub guard-within : (code : List Instr) (i n room : ℕ) → IsGuardOn (slice_get code (suc i)) n → item_place (slice_get code (i + room)) ≡ Commits → 0 < room → 1 < room
guard-within code i n room guard closes some = ⊎_elim (λ l. l)
    (λ few. absurd (let same : i + room ≡ suc i = omega (arith, few, some) in let z : Within ≡ Commits = ap item_place (sym guard.1) ∙ ap (λ m. item_place (slice_get code m)) (sym same) ∙ closes in cc)) (cases_lt 1 room)

-- ---- what pairing does where the walk stands

-- the next spot: so many items further, with this walk
pub record IsNext (spot next : Spot) (count left point : ℕ) : Type 0 where
  pub item : next.item ≡ spot.item + count
  pub room : next.room ≡ spot.room - count
  pub left_is : next.walker.left ≡ left
  pub point_is : next.walker.point ≡ point

module _ (code : List Instr) (bail : ℕ) (spot next : Spot) (left a : ℕ) (kept : List ℕ) (pairs : List Pair) where
  -- one item further
  pub next-one : (point to : ℕ) → IsNext spot next 1 left point → point ≡ to → (ks : List ℕ) (ps : List Pair) → FromSpot code bail next ks ps → PairsFrom code bail (spot.room - 1) (suc spot.item) (record { left = left; point = to }) ks ps
  next-one point to n e ks ps h =
      let item : spot.item + 1 ≡ suc spot.item = omega arith in
      from-parts code bail next (spot.room - 1) (suc spot.item) (record { left = left; point = to }) ks ps n.room (n.item ∙ item) (walker-is next.walker left to n.left_is (n.point_is ∙ e)) h

  next-two : (point to : ℕ) → IsNext spot next 2 left point → point ≡ to → 1 < spot.room → (ps : List Pair) → FromSpot code bail next kept ps → skipped code bail (spot.room - 1) (suc (suc spot.item)) (record { left = left; point = to }) kept ps
  next-two point to n e some ps h =
      let item : spot.item + 2 ≡ suc (suc spot.item) = omega arith in
      skip-room code bail spot.room (suc (suc spot.item)) (record { left = left; point = to }) kept ps some
      (from-parts code bail next (spot.room - 2) (suc (suc spot.item)) (record { left = left; point = to }) kept ps n.room (n.item ∙ item) (walker-is next.walker left to n.left_is (n.point_is ∙ e)) h)

  pub stands-inverts : (c on off point guard : ℕ) → IsInverted code spot.item a c on off → item_place (slice_get code (spot.item + spot.room)) ≡ Commits → 0 < spot.room → IsNext spot next 2 left point → point ≡ point_of off code → guard ≡ spot.item + 1
      → BeginsWith (record { guard = guard; bail = bail; kept = kept; other = on }) (FromSpot code bail next kept) pairs → IsStanding code bail spot left a kept pairs
  stands-inverts c on off point guard is closes some n e g h =
      let at : guard ≡ suc spot.item = omega (arith, g) in (
        Inverts c on off is,
        begins-so (record { guard = guard; bail = bail; kept = kept; other = on }) (record { guard = suc spot.item; bail = bail; kept = kept; other = on }) (ap (λ z. record { guard = z; bail = bail; kept = kept; other = on }) at)
            (FromSpot code bail next kept) (skipped code bail (spot.room - 1) (suc (suc spot.item)) (record { left = left; point = point_of off code }) kept)
            (next-two point (point_of off code) n e (guard-within code spot.item is.n spot.room is.guards closes some)) pairs h,
      )

  pub stands-pairs : (c on off point : ℕ) → IsNoInverted code spot.item a → IsDirect code spot.item a c on off → IsNext spot next 1 left point → point ≡ point_of on code
      → BeginsWith (record { guard = spot.item; bail = bail; kept = kept; other = off }) (FromSpot code bail next kept) pairs → IsStanding code bail spot left a kept pairs
  stands-pairs c on off point none is n e h = (
    Pairs c on off none is,
    begins-so (record { guard = spot.item; bail = bail; kept = kept; other = off }) (record { guard = spot.item; bail = bail; kept = kept; other = off }) refl
        (FromSpot code bail next kept) (PairsFrom code bail (spot.room - 1) (suc spot.item) (record { left = left; point = point_of on code }) kept)
        (next-one point (point_of on code) n e kept) pairs h,
  )

pub stands-ends : (code : List Instr) (bail : ℕ) (spot : Spot) (left a : ℕ) (kept : List ℕ) (pairs : List Pair) → IsNoInverted code spot.item a → IsNoDirect code spot.item a → (IsKept code spot.item a → ⊥) → pairs ≡ [] → IsStanding code bail spot left a kept pairs
stands-ends code bail spot left a kept pairs none other not h = (Ends none other not, h)

-- the item is passed over
pub step-passes : (code : List Instr) (bail : ℕ) (spot next : Spot) (kept : List ℕ) (pairs : List Pair) → 0 < spot.room → is_nop (slice_get code spot.item) ≡ true → IsNext spot next 1 spot.walker.left spot.walker.point → FromSpot code bail next kept pairs → FromSpot code bail spot kept pairs
step-passes code bail spot next kept pairs some e n h =
    let item : spot.item + 1 ≡ suc spot.item = omega arith in
    pairs-pass code bail spot.room spot.item (walker_of spot.walker) kept pairs some e (from-parts code bail next (spot.room - 1) (suc spot.item) (walker_of spot.walker) kept pairs n.room (n.item ∙ item) (walker-is next.walker spot.walker.left spot.walker.point n.left_is n.point_is) h)
