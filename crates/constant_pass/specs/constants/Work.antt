-- The work lists: points that became reached, and locations of which more became known.
use Rattle.std.specs.Prelude.{◌≡◌, ◌⊎◌, ℕ, ◌+◌, ◌<◌, ◌≤◌, Bool, true, false, List, [], ◌∷◌, length, Some, slice_get, slice_index_or}
use Rattle.bril_tree.specs.declared.numbered.Instr.{Instr}
use Rattle.bril_tree.specs.declared.numbered_function.Func.{Func}
use Rattle.bril_tree.specs.Assigned.{assigns_of}
use Rattle.bril_tree.specs.Membership.{In}
use Rattle.bril_tree.specs.Operand.{Location, Variable, reads_of}
use Rattle.flow_graph.specs.Location.{number_of}
use Rattle.constant_pass.specs.declared.constants.known.Known.{Known}
use Rattle.constant_pass.specs.declared.constants.known.Known.TheVariants.{Nothing, One, Many}
use Rattle.constant_pass.specs.constants.Known.{IsBelow}
use Rattle.constant_pass.specs.constants.Answer.{answer}
use Rattle.constant_pass.specs.constants.Ways.{item_ways}
use Rattle.constant_pass.specs.constants.Consistent.{IsAtMost, IsConsistent, Table}
use Rattle.graph_search.specs.Marks.{is_marked}
use Rattle.constant_pass.specs.constants.Kept.{kept, table_of}

-- ---- how much work is left

-- how often an entry can still rise
abbrev pub height : Known → ℕ
height Nothing = 2
height (One v) = 1
height Many = 0

abbrev pub heights : List Known → ℕ
heights [] = 0
heights (entry ∷ entries) = height entry + heights entries

abbrev pub unmarked : Bool → ℕ
unmarked true = 0
unmarked false = 1

-- how many points aren't reached so far
abbrev pub unreached : List Bool → ℕ
unreached [] = 0
unreached (mark ∷ marks) = unmarked mark + unreached marks

abbrev pub work_left : List Known → List Bool → List ℕ → List ℕ → ℕ
work_left known marks points risen = (heights known + length risen) + (unreached marks + length points)

-- ---- the state of the work lists

-- what the item assigns is at least its answer, and the points to which it leads are reached
pub record IsSettled (known : List Known) (marks : List Bool) (code : List Instr) (point : ℕ) (item : Instr) : Type 0 where
  pub assigned : (x : Location) → In x (assigns_of item) → IsBelow (answer (kept known) item) (kept known x)
  pub leads : (to : ℕ) → In to (item_ways (kept known) code point item) → is_marked marks to ≡ true

-- the item reads a location that rose
pub record ReadsRisen (item : Instr) (risen : List ℕ) : Type 0 where
  pub location : Location
  pub reads : In location (reads_of item)
  pub rose : In (number_of location) risen

-- What is kept is in every consistent table, and each reached item is settled, but for those in the lists, those that read what
-- rose, and those that are left to be looked at.
pub record IsWork (f : Func) (known : List Known) (marks : List Bool) (points risen left : List ℕ) : Type 0 where
  pub forced : (u : Table) → IsConsistent f.code f.args u → IsAtMost (table_of known marks) u
  pub arguments : (x : ℕ) → x < f.args → kept known (Variable x) ≡ Many
  pub start : is_marked marks 0 ≡ true
  pub settled : (point : ℕ) (item : Instr) → slice_get f.code point ≡ Some item → is_marked marks point ≡ true → In point points ⊎ (In point left ⊎ (ReadsRisen item risen ⊎ IsSettled known marks f.code point item))

-- ---- steps

-- The entry of this number now is the least that is at or above what it was and the new answer, and if it rose it is queued.
pub record Raises (number : ℕ) (to : Known) (old new : List Known) (risen longer : List ℕ) : Type 0 where
  pub others : (k : ℕ) → (k ≡ number → ⊥) → slice_index_or new k Nothing ≡ slice_index_or old k Nothing
  pub above : IsBelow to (slice_index_or new number Nothing)
  pub grows : IsBelow (slice_index_or old number Nothing) (slice_index_or new number Nothing)
  pub least : (bound : Known) → IsBelow (slice_index_or old number Nothing) bound → IsBelow to bound → IsBelow (slice_index_or new number Nothing) bound
  pub queued : (new ≡ old) ⊎ In number longer
  pub older : (k : ℕ) → In k risen → In k longer
  pub less : heights new + length longer ≤ heights old + length risen

-- What the item assigns rose to its answer.
pub record Assigns (item : Instr) (old new : List Known) (risen longer : List ℕ) : Type 0 where
  pub others : (x : Location) → (In x (assigns_of item) → ⊥) → kept new x ≡ kept old x
  pub above : (x : Location) → In x (assigns_of item) → IsBelow (answer (kept old) item) (kept new x)
  pub grows : (x : Location) → IsBelow (kept old x) (kept new x)
  pub least : (x : Location) (bound : Known) → In x (assigns_of item) → IsBelow (kept old x) bound → IsBelow (answer (kept old) item) bound → IsBelow (kept new x) bound
  pub queued : (x : Location) → (kept new x ≡ kept old x) ⊎ In (number_of x) longer
  pub older : (k : ℕ) → In k risen → In k longer
  pub less : heights new + length longer ≤ heights old + length risen

-- These points are reached now, and those that weren't are queued.
pub record Reaches (ways : List ℕ) (marks more : List Bool) (points longer : List ℕ) : Type 0 where
  pub long : length more ≡ length marks
  pub grows : (p : ℕ) → is_marked marks p ≡ true → is_marked more p ≡ true
  pub there : (p : ℕ) → In p ways → is_marked more p ≡ true
  pub only : (p : ℕ) → is_marked more p ≡ true → (is_marked marks p ≡ true) ⊎ (In p ways × In p longer)
  pub older : (p : ℕ) → In p points → In p longer
  pub less : unreached more + length longer ≤ unreached marks + length points
