-- The places of clashes by their first variables.
use Rattle.std.proofs.Common.{◌≡◌, ◌↔◌, ℕ, zero, suc, ◌+◌, ◌<◌, List, [], ◌∷◌, length, get_or, Some, None, refl, sym, ap, subst, ◌∙◌, inl, inr, arith, All}
use Rattle.std.specs.Prelude.{slice_get}
use Rattle.std.specs.List.{Contains}
use Rattle.std.proofs.lemmas.Option.{same_Some, slice_get_within}
use Rattle.std.proofs.lemmas.List.Elements.{Contains-get_or}
use Rattle.bril_tree.specs.Membership.{In}
use Rattle.bril_tree.proofs.Members.{contains_in, in_contains}
use Rattle.flow_graph.specs.Accesses.{Accesses}
use Rattle.flow_graph.specs.declared.reads.Access.{Access}
use Rattle.coalesce.specs.Classes.{firsts_from}
use Rattle.coalesce.specs.declared.clashes.Clash.{Clash}

there : (list : List Clash) (k place : ℕ) (c : Clash) → slice_get list place ≡ Some c → In (record { item = k + place; location = c.one }) (firsts_from k list)
there [] k place c e = absurd (let n : None ≡ Some c = e in cc)
there (d ∷ list) k zero c e = inl (let s : d ≡ c = same_Some d c e in let n : k + zero ≡ k = omega arith in λ i. record { item = n i; location = (sym s i).one })
there (d ∷ list) k (suc place) c e = inr (subst (λ n. In (record { item = n; location = c.one }) (firsts_from (suc k) list)) (let h : suc k + place ≡ k + suc place = omega arith in h) (there list (suc k) place c e))

record From (list : List Clash) (k : ℕ) (a : Access) : Type 0 where
  place : ℕ
  c : Clash
  at : slice_get list place ≡ Some c
  item : a.item ≡ k + place
  location : a.location ≡ c.one

from : (list : List Clash) (k : ℕ) (a : Access) → In a (firsts_from k list) → From list k a
from [] k a i = absurd i
from (d ∷ list) k a (inl e) = record { place = 0; c = d; at = refl; item = (let h = ap (λ (b : Access). b.item) e in omega (arith, h)); location = ap (λ (b : Access). b.location) e }
from (d ∷ list) k a (inr i) = let r = from list (suc k) a i in record { place = suc r.place; c = r.c; at = r.at; item = (let h = r.item in omega (arith, h)); location = r.location }

module _ (list : List Clash) (rows : List Access) (keyed : rows ≡ firsts_from 0 list) (x : ℕ) where
  pub place-there : (place : ℕ) (c : Clash) → slice_get list place ≡ Some c → c.one ≡ x → Accesses rows x place
  place-there place c at e = subst (λ l. Accesses l x place) (sym keyed) (subst (λ n. Accesses (firsts_from 0 list) n place) e (contains_in (record { item = place; location = c.one }) (firsts_from 0 list) (subst (λ n. In (record { item = n; location = c.one }) (firsts_from 0 list)) (let h : 0 + place ≡ place = omega arith in h) (there list 0 place c at))))

  pub place-from : (place : ℕ) → Accesses rows x place → (c : Clash) × (slice_get list place ≡ Some c) × (c.one ≡ x)
  place-from place a =
      let r = from list 0 (record { item = place; location = x }) (in_contains _ (firsts_from 0 list) (subst (λ l. Accesses l x place) keyed a)) in
      (r.c, subst (λ n. slice_get list n ≡ Some r.c) (let h = r.item in omega (arith, h)) r.at, sym r.location)

  module _ (places : List ℕ) (exact : (place : ℕ) → Contains places place ↔ Accesses rows x place) where
    pub places-within : All (λ place. place < length list) places
    places-within k d low =
        let r = place-from (get_or places k d) ((exact (get_or places k d)).0 (Contains-get_or places k d low)) in
        slice_get_within list (get_or places k d) r.0 r.1

    pub places-all : (place : ℕ) (c : Clash) → slice_get list place ≡ Some c → c.one ≡ x → Contains places place
    places-all place c at e = (exact place).1 (place-there place c at e)

    pub places-only : (place : ℕ) (c : Clash) → slice_get list place ≡ Some c → Contains places place → c.one ≡ x
    places-only place c at i =
        let r = place-from place ((exact place).0 i) in
        let same : c ≡ r.0 = same_Some c r.0 (sym at ∙ r.1) in
        ap (λ (d : Clash). d.one) same ∙ r.2

pub length-firsts : (k : ℕ) (list : List Clash) → length (firsts_from k list) ≡ length list
length-firsts k [] = refl
length-firsts k (c ∷ list) = ap suc (length-firsts (suc k) list)
