-- The rows of a table of liveness.
use Rattle.std.proofs.Common.{◌≡◌, ◌↔◌, ℕ, ◌<◌, List, [], ◌∷◌, ◌++◌, length, get_or, Bool, Option, Some, None, refl, sym, subst, ◌∙◌, ⊎_elim, true≢false}
use Rattle.std.specs.Prelude.{slice_get, IsTrue}
use Rattle.std.specs.List.{All, Contains}
use Rattle.std.proofs.lemmas.List.Elements.{Contains-get_or}
use Rattle.graph_search.specs.Path.{IsBetween, IsReached, other_than}
use Rattle.graph_search.specs.declared.graph.Arc.{Arc}
use Rattle.bril_tree.specs.declared.numbered.Instr.{Instr}
use Rattle.bril_tree.specs.Live.{IsLive}
use Rattle.bril_tree.specs.Operand.{Location, reads_of}
use Rattle.bril_tree.proofs.Elements.{none_past, pushed_get}
use Rattle.flow_graph.specs.Accesses.{Accesses}
use Rattle.flow_graph.specs.Location.{number_of}
use Rattle.flow_graph.specs.Reads.{reads_from}
use Rattle.flow_graph.specs.declared.reads.Access.{Access}
use Rattle.live_sets.specs.Flow.{FlowView, IsFlowOf}
use Rattle.live_sets.specs.Liveness.{has_point_if, is_told}
use Rattle.live_sets.specs.Points.{has_point}
use Rattle.live_sets.specs.declared.points.Points.{Points}
use Rattle.live_sets.proofs.Law.{AreReaders, live-read, live-reached, reached-live, reached-within}
use Rattle.live_sets.proofs.Readers.{read_listed, readers_are}

-- the points at which the location is live
abbrev pub IsRow : List Instr → Location → Points → Type 0
IsRow code x row = (point : ℕ) → IsTrue (has_point row point) ↔ IsLive code x point

-- the rows so far, by the numbers of their locations
abbrev pub AreRows : List Instr → List Points → Type 0
AreRows code rows = (x : Location) (row : Points) → slice_get rows (number_of x) ≡ Some row → IsRow code x row

-- no row yet
pub no-rows : (code : List Instr) → AreRows code []
no-rows code x row e = absurd (let n : None ≡ Some row = e in cc)

-- one row more
pub more-rows : (code : List Instr) (rows more : List Points) (row : Points) (number : ℕ) → number ≡ length rows → AreRows code rows → ((x : Location) → number_of x ≡ number → IsRow code x row) → more ≡ rows ++ row ∷ [] → AreRows code more
more-rows code rows more row number long are is e x found at =
    ⊎_elim (λ h. are x found h) (λ h. subst (IsRow code x) h.1 (is x (h.0 ∙ sym long))) (pushed_get rows row (number_of x) found (subst (λ l. slice_get l (number_of x) ≡ Some found) e at))

-- a location without a row isn't read
unread : (code : List Instr) (rows : List Points) (x : Location) (point : ℕ) → All (λ (read : Access). read.location < length rows) (reads_from 0 code) → slice_get rows (number_of x) ≡ None → IsLive code x point → ⊥
unread code rows x point above none live =
    let r = live-read code x point live in
    let there = (numbered r.0 r.1 r.2 r.3) in
    none_past rows (number_of x) there none
  where
    numbered : (at : ℕ) (item : Instr) → slice_get code at ≡ Some item → Contains (reads_of item) x → number_of x < length rows
    numbered at item here reads = let c = read_listed code x at item here reads in subst (λ (r : Access). r.location < length rows) c.2 (above c.0 (record { item = at; location = number_of x }) c.1)

-- the table
pub tells : (code : List Instr) (rows : List Points) → AreRows code rows → All (λ (read : Access). read.location < length rows) (reads_from 0 code) → (x : Location) (point : ℕ) → IsTrue (is_told rows x point) ↔ IsLive code x point
tells code rows are above x point = by (slice_get rows (number_of x)) refl
  where
    by : (o : Option Points) → slice_get rows (number_of x) ≡ o → IsTrue (has_point_if o point) ↔ IsLive code x point
    by None e = ((λ h. absurd (true≢false (sym h))), (λ live. absurd (unread code rows x point above e live)))
    by (Some row) e = are x row e point

-- ---- one row

-- what was found is a row of nodes
pub found-within : (nodes : ℕ) (arcs : List Arc) (seeds : List ℕ) (gate : Arc → Bool) (found : List ℕ) → All (IsBetween nodes) arcs → All (λ seed. seed < nodes) seeds → ((node : ℕ) → Contains found node ↔ IsReached arcs seeds gate node) → All (λ node. node < nodes) found
found-within nodes arcs seeds gate found between inside searched k d low =
    reached-within nodes arcs seeds gate between inside (get_or found k d) ((searched (get_or found k d)).0 (Contains-get_or found k d low))

-- what is found from the readers of a location is where it is live
pub found-live : (code : List Instr) (flow : FlowView) (location : ℕ) (seeds found : List ℕ) → ((item : ℕ) → Contains seeds item ↔ Accesses flow.reads.list location item) → ((point : ℕ) → Contains found point ↔ IsReached flow.arcs seeds (other_than location) point)
    → IsFlowOf code flow → (x : Location) → number_of x ≡ location → (point : ℕ) → Contains found point ↔ IsLive code x point
found-live code flow location seeds found exact searched are x number point = (
  (λ c. reached-live code flow.arcs are.arcs x seeds readers point (subst (λ n. IsReached flow.arcs seeds (other_than n) point) (sym number) ((searched point).0 c))),
  (λ live. (searched point).1 (subst (λ n. IsReached flow.arcs seeds (other_than n) point) number (live-reached code flow.arcs are.arcs x seeds readers point live))),
)
  where
    readers : AreReaders code x seeds
    readers = readers_are code x seeds (λ item. let e = exact item in subst (λ n. (Contains seeds item → Accesses (reads_from 0 code) n item) × (Accesses (reads_from 0 code) n item → Contains seeds item)) (sym number) (subst (λ l. (Contains seeds item → Accesses l location item) × (Accesses l location item → Contains seeds item)) are.reads (e.0, e.1)))
