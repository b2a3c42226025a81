-- Where the open sites fail, as it shows at each point.
use Rattle.std.specs.Prelude.{◌≡◌, ◌≢◌, ◌⊎◌, ℕ, ◌<◌, ◌≤◌, min, List, Option, Some, None, MatchOption, IsTrue, slice_get}
use Rattle.bril_tree.specs.declared.numbered.Instr.{Instr}
use Rattle.bril_tree.specs.Edge.{Branch}
use Rattle.bril_tree.specs.Sites.{most_sites, needs_site}
use Rattle.flow_graph.specs.declared.visits.Visit.{Visit}
use Rattle.flow_graph.specs.declared.branches.Branches.{Branches}
use Rattle.flow_graph.specs.declared.branches.Branches.TheVariants.{Nowhere, Single, Either}
use Rattle.flow_graph.specs.Visits.{visit_at, visit_behind}
use Rattle.flow_graph.specs.Branches.{branch_of}

-- it is the least number of which a fact holds, and none where the fact holds of none
abbrev pub IsLeastOf : (ℕ → Type 0) → Option ℕ → Type 0
IsLeastOf P least = MatchOption least ((p : ℕ) → P p → ⊥) (λ m. P m × ((p : ℕ) → P p → m ≤ p))

abbrev pub lesser : Option ℕ → Option ℕ → Option ℕ
lesser None b = b
lesser (Some x) None = Some x
lesser (Some x) (Some y) = Some (min x y)

-- too many sites are open at the point, or none is where one is needed
abbrev pub Lacks : List Instr → Visit → ℕ → Type 0
Lacks code visit point = (most_sites < visit.count) ⊎ ((visit.newest ≡ None) × IsTrue (needs_site (slice_get code point)))

-- the branch brings other sites to the point
abbrev pub Brings : List Instr → List (Option Visit) → Branch → ℕ → Type 0
Brings code visits branch point = (branch.to ≡ point) × ((visit_behind code visits branch).newest ≢ (visit_at visits branch.to).newest)

abbrev pub FailsAhead : List Instr → List (Option Visit) → Branches → ℕ → Type 0
FailsAhead code visits Nowhere point = ⊥
FailsAhead code visits (Single branch) point = Brings code visits (branch_of branch) point
FailsAhead code visits (Either first second) point = Brings code visits (branch_of first) point ⊎ Brings code visits (branch_of second) point

-- sites that fail at the second point show at the first: it is the same and lacks one or has too many, or a branch on
-- from it brings others
abbrev pub FailsFrom : List Instr → Branches → List (Option Visit) → ℕ → Option (Option Visit) → ℕ → Type 0
FailsFrom code row visits source None point = ⊥
FailsFrom code row visits source (Some None) point = ⊥
FailsFrom code row visits source (Some (Some visit)) point =
    ((source ≡ point) × Lacks code visit source) ⊎ FailsAhead code visits row point

abbrev pub FailsAt : List Instr → Branches → List (Option Visit) → ℕ → ℕ → Type 0
FailsAt code row visits source point = FailsFrom code row visits source (slice_get visits source) point

-- it shows at some point before one
pub record FailsBefore (code : List Instr) (rows : List Branches) (visits : List (Option Visit)) (end point : ℕ) : Type 0 where
  pub source : ℕ
  pub before : source < end
  pub row : Branches
  pub at : slice_get rows source ≡ Some row
  pub fails : FailsAt code row visits source point
