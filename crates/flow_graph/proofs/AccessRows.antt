-- The rows of a list of accesses by their locations.
use Rattle.std.proofs.Common.{◌≡◌, ℕ, ◌+◌, ◌<◌, ◌≤◌, List, [], Some, length, get_or, sym, ap, ◌∙◌, subst, refl, ⊎_elim, ◌↔◌, arith}
use Rattle.std.specs.Prelude.{slice_get, slice_index}
use Rattle.std.specs.List.{All, Contains}
use Rattle.std.proofs.lemmas.Bool.{cases_lt, cases_eq}
use Rattle.std.proofs.lemmas.List.{get_or-map}
use Rattle.std.proofs.lemmas.List.Elements.{Contains-get_or}
use Rattle.std.proofs.lemmas.Option.{slice_get_within, get_or_from_slice_get, slice_get-get_or}
use Rattle.bril_tree.proofs.Elements.{get_in, in_get}
use Rattle.bril_tree.proofs.Members.{in_contains, contains_in}
use Rattle.graph_search.specs.Adjacency.{EndsRow}
use Rattle.flow_graph.specs.Accesses.{Accesses, locations_of}
use Rattle.flow_graph.specs.declared.reads.Access.{Access}

pub location-of : (list : List Access) (k : ℕ) (access : Access) → slice_get list k ≡ Some access → slice_index (locations_of list) k ≡ access.location
location-of list k access e = get_or-map (λ r. r.location) list k access 0 (slice_get_within list k access e) ∙ ap (λ r. r.location) (get_or_from_slice_get list k access access e)

-- A location's row was gone through from its last access down to an end: what is left of it ends there, and each access from
-- there on has the property.
pub record RowDone (list : List Access) (location end : ℕ) (Q : ℕ → Access → Type 0) : Type 0 where
  pub bound : ℕ
  pub within : bound ≤ length list
  pub row : EndsRow (locations_of list) location bound end
  pub all : (k : ℕ) (access : Access) → end ≤ k → slice_get list k ≡ Some access → access.location ≡ location → Q k access

-- nothing was gone through yet
pub done-start : (list : List Access) (location end : ℕ) (Q : ℕ → Access → Type 0) → EndsRow (locations_of list) location (length list) end → RowDone list location end Q
done-start list location end Q row = record {
  bound = length list;
  within = omega arith;
  row = row;
  all = λ k access late at is. absurd (row.last k late (slice_get_within list k access at) (location-of list k access at ∙ is));
}

-- one access more
pub done-next : (list : List Access) (location end k earlier : ℕ) (Q R : ℕ → Access → Type 0) → k + 1 ≡ end → RowDone list location end Q → EndsRow (locations_of list) (slice_index (locations_of list) k) k earlier
    → ((j : ℕ) (access : Access) → Q j access → R j access) → ((access : Access) → slice_get list k ≡ Some access → R k access) → RowDone list location earlier R
done-next list location end k earlier Q R here d ends old new =
    let rest : EndsRow (locations_of list) location k earlier = subst (λ l. EndsRow (locations_of list) l k earlier) (d.row.stands k here) ends in
    let within = d.within in
    let below = d.row.within in
    record {
      bound = k;
      within = omega arith;
      row = rest;
      all = λ j access late at is. ⊎_elim
          (λ less. absurd (rest.last j late less (location-of list j access at ∙ is)))
          (λ above. ⊎_elim
          (λ same. subst (λ i. R i access) (sym same) (new access (ap (slice_get list) (sym same) ∙ at)))
          (λ differs. old j access (d.all j access (omega arith) at is))
          (cases_eq j k))
          (cases_lt j k);
    }

-- an access of the list
pub listed : (list : List Access) (k location : ℕ) (access : Access) → slice_get list k ≡ Some access → access.location ≡ location → Accesses list location access.item
listed list k location access at is = subst (λ l. Contains list (record { item = access.item; location = l })) is (contains_in access list (get_in list k access at))

-- the access at the row's end is one of the location
pub accessed : (list : List Access) (location bound end k : ℕ) (access : Access) → EndsRow (locations_of list) location bound end → k + 1 ≡ end → k < length list → access ≡ get_or list k access → Accesses list location access.item
accessed list location bound end k access row here low is =
    let at : slice_get list k ≡ Some access = slice_get-get_or list k access low ∙ ap Some (sym is) in
    listed list k location access at (sym (location-of list k access at) ∙ row.stands k here)

-- all of the row
pub all-done : (list : List Access) (location : ℕ) (items : List ℕ) (end : ℕ) → end ≡ 0 → RowDone list location end (λ k access. Contains items access.item) → All (λ item. Accesses list location item) items → (item : ℕ) → Contains items item ↔ Accesses list location item
all-done list location items end none done only item = (
  (λ c. subst (Accesses list location) c.2 (only c.0 item c.1)),
  (λ c. let at = in_get (record { item = item; location = location }) list (in_contains _ list c) in done.all at.0 (record { item = item; location = location }) (omega arith) at.1 refl),
)

-- a location with no row has no access
pub none-accessed : (list : List Access) (location locations : ℕ) (items : List ℕ) → items ≡ [] → locations ≤ location → All (λ access. access.location < locations) list → (item : ℕ) → Contains items item ↔ Accesses list location item
none-accessed list location locations items none past above item = (
  (λ c. absurd (in_contains item [] (subst (λ l. Contains l item) none c))),
  (λ c. absurd (let low = subst (λ (a : Access). a.location < locations) c.2 (above c.0 (record { item = item; location = location }) c.1) in omega arith)),
)

-- the items that access a location have numbers below a bound of all
pub items-within : (list : List Access) (bound location : ℕ) (items : List ℕ) → All (λ access. access.item < bound) list → ((item : ℕ) → Contains items item ↔ Accesses list location item) → All (λ item. item < bound) items
items-within list bound location items below exact k d low =
    let c = (exact (get_or items k d)).0 (Contains-get_or items k d low) in
    subst (λ (a : Access). a.item < bound) c.2 (below c.0 (record { item = get_or items k d; location = location }) c.1)
