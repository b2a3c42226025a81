-- The first walks' open sites, as they are kept for each point: the newest, and how many.
use Rattle.std.specs.Prelude.{◌≡◌, ℕ, zero, suc, ◌+◌, min, List, [], ◌∷◌, ◌++◌, length, Option, Some, None, slice_get}
use Rattle.std.specs.Option.{option_to_list}
use Rattle.bril_tree.specs.declared.numbered.Instr.{Instr}
use Rattle.bril_tree.specs.Edge.{Branch}
use Rattle.bril_tree.specs.Walk.{IsFirstWalk, IsReached}
use Rattle.bril_tree.specs.Sites.{Change, Opens, Closes, Keeps, change_of, sites_of, most_sites}
use Rattle.flow_graph.specs.declared.visits.Visit.{Visit}

-- no open site
abbrev pub none_open : Visit
none_open = record { newest = None; count = 0 }

abbrev pub visit_or_none : Option (Option Visit) → Visit
visit_or_none None = none_open
visit_or_none (Some None) = none_open
visit_or_none (Some (Some visit)) = visit

-- what is kept for a point, and no open site where nothing is
abbrev pub visit_at : List (Option Visit) → ℕ → Visit
visit_at visits point = visit_or_none (slice_get visits point)

-- one open site more, of which a list that is too long is never told from another such list
abbrev pub opened : ℕ → Visit → Visit
opened site visit = record { newest = Some site; count = min (suc most_sites) (suc visit.count) }

-- without the newest open site
abbrev pub closed : List (Option Visit) → Option ℕ → Visit → Visit
closed visits None visit = visit
closed visits (Some site) visit = visit_at visits site

abbrev pub visit_changed : List (Option Visit) → Change → ℕ → Visit → Visit
visit_changed visits Opens point visit = opened point visit
visit_changed visits Closes point visit = closed visits visit.newest visit
visit_changed visits Keeps point visit = visit

-- what a branch brings to its point
abbrev pub visit_behind : List Instr → List (Option Visit) → Branch → Visit
visit_behind code visits branch = visit_changed visits (change_of code branch) branch.from (visit_at visits branch.from)

-- The sites are those that are kept: their newest, how many, and the rest of them at the newest.
abbrev pub Keep : List (Option Visit) → Visit → List ℕ → Type 0
Keep visits visit [] = (visit.newest ≡ None) × (visit.count ≡ 0)
Keep visits visit (site ∷ sites) =
    (visit.newest ≡ Some site) × (visit.count ≡ min (suc most_sites) (suc (length sites)))
    × ((inner : Visit) × (slice_get visits site ≡ Some (Some inner)) × Keep visits inner sites)

-- some first walk leads to the point, and its open sites are kept
pub record IsVisited (code : List Instr) (visits : List (Option Visit)) (point : ℕ) (visit : Visit) : Type 0 where
  pub walk : List Branch
  pub first : IsFirstWalk code point walk
  pub kept : Keep visits visit (sites_of code walk)

-- What is kept is so for each point that walks lead to, and nothing is kept for any other.
pub record AreVisits (code : List Instr) (visits : List (Option Visit)) : Type 0 where
  pub points : length visits ≡ length code + 1
  pub visited : (point : ℕ) (visit : Visit) → slice_get visits point ≡ Some (Some visit) → IsVisited code visits point visit
  pub reached : (point : ℕ) → IsReached code point → (visit : Visit) × (slice_get visits point ≡ Some (Some visit))

-- the sites below an open site
abbrev pub below : List (Option Visit) → Option ℕ → Option ℕ
below visits None = None
below visits (Some site) = (visit_at visits site).newest

-- so many of the sites from one on, the newest first
abbrev pub sites_kept : List (Option Visit) → ℕ → Option ℕ → List ℕ
sites_kept visits zero newest = []
sites_kept visits (suc more) newest = option_to_list newest ++ sites_kept visits more (below visits newest)

abbrev pub sites_shown : List (Option Visit) → Option Visit → Option (List ℕ)
sites_shown visits None = None
sites_shown visits (Some visit) = Some (sites_kept visits most_sites visit.newest)
