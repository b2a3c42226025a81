-- The work list: what is dead so far, and the locations that are to be looked at.
use Rattle.std.specs.Prelude.{◌≡◌, ◌≢◌, ◌⊎◌, ℕ, suc, ◌+◌, ◌<◌, ◌≤◌, Bool, true, false, List, [], ◌∷◌, ◌++◌, length, map, Some, slice_get}
use Rattle.std.specs.List.{All, Contains}
use Rattle.std.specs.Option.{option_to_list}
use Rattle.bril_tree.specs.Assigned.{assigns_of}
use Rattle.bril_tree.specs.Live.{IsLive}
use Rattle.bril_tree.specs.Numbered.{nop, nop_item}
use Rattle.bril_tree.specs.Operand.{Location, reads_of}
use Rattle.bril_tree.specs.Walk.{IsReached}
use Rattle.bril_tree.specs.declared.function_tree.FuncTree.{FuncTree}
use Rattle.bril_tree.specs.declared.numbered.Instr.{Instr}
use Rattle.bril_tree.specs.declared.numbered_function.Func.{Func}
use Rattle.flow_graph.specs.Location.{location_at, number_of}
use Rattle.dead_code.specs.Emptied.{IsCleared, emptied, WereRemovable}
use Rattle.pass_edit_laws.specs.plan.Marked.{with_nops}
use Rattle.dead_code.specs.Removable.{is_computation, is_silent}
use Rattle.flow_graph.specs.Reads.{access_at}
use Rattle.flow_graph.specs.declared.reads.Access.{Access}
use Rattle.graph_search.specs.Marks.{is_marked}

-- the code with `nop` for what is dead
abbrev pub remaining : List Instr → List Bool → List Instr
remaining code dead = with_nops nop dead code

-- a function of a tree and what the pass makes of it: dead items are `nop`
pub record IsEmptiedFunction (F : Func) (function made : FuncTree) : Type 0 where
  pub dead : List Bool
  pub cleared : IsCleared F.code (remaining F.code dead)
  pub tree : made ≡ record function { code = with_nops nop_item dead function.code }

-- ---- what is dead so far

-- What is dead was removable, one item after another, and nothing idle remains.
pub record IsSound (code : List Instr) (dead : List Bool) : Type 0 where
  pub long : length dead ≡ length code
  pub points : List ℕ
  pub were : WereRemovable code points
  pub is : remaining code dead ≡ emptied code points

-- nothing idle remains
abbrev pub NoneIdle : List Instr → List Bool → Type 0
NoneIdle code dead = (point : ℕ) (item : Instr) → slice_get (remaining code dead) point ≡ Some item → (is_silent item ≡ true) ⊎ IsReached code point

-- ---- the locations that are to be looked at

pub record AreQueued (queue : List ℕ) (queued : List Bool) : Type 0 where
  pub inside : All (λ l. l < length queued) queue
  pub there : (l : ℕ) → is_marked queued l ≡ true → Contains queue l

-- the location is live after each computation of it that remains
abbrev pub IsSettled : List Instr → List Bool → Location → Type 0
IsSettled code dead x = (point : ℕ) (item : Instr) → slice_get (remaining code dead) point ≡ Some item → is_computation item ≡ true → Contains (assigns_of item) x → IsReached code point → IsLive (remaining code dead) x (suc point)

-- so many reads remain to be done
abbrev pub reads_left : List Instr → ℕ
reads_left [] = 0
reads_left (item ∷ items) = length (reads_of item) + reads_left items

-- ---- the assignments of computations

abbrev pub assignment_if : Bool → ℕ → Instr → List Access
assignment_if true item instr = map (access_at item) (option_to_list (location_at (Some instr)))
assignment_if false item instr = []

-- the assignments of computations among items that are numbered from one on
abbrev pub assignments_from : ℕ → List Instr → List Access
assignments_from item [] = []
assignments_from item (instr ∷ code) = assignment_if (is_computation instr) item instr ++ assignments_from (suc item) code

-- The state of the work list, where the locations that are not queued are settled, but for those of an exception.
pub record IsWork (code : List Instr) (dead : List Bool) (queue : List ℕ) (queued : List Bool) (except : ℕ → Type 0) : Type 0 where
  pub sound : IsSound code dead
  pub none_idle : NoneIdle code dead
  pub are : AreQueued queue queued
  pub settled : (x : Location) → number_of x < length queued → is_marked queued (number_of x) ≡ false → (except (number_of x) → ⊥) → IsSettled code dead x

-- What was found of a location: where it is live, unless it is queued again, and where it isn't.
pub record IsSearched (code : List Instr) (dead queued : List Bool) (number : ℕ) (found : List ℕ) : Type 0 where
  pub live : (x : Location) → number_of x ≡ number → is_marked queued number ≡ false → (point : ℕ) → IsReached code point → Contains found point → IsLive (remaining code dead) x point
  pub not_live : (x : Location) → number_of x ≡ number → (point : ℕ) → IsReached code point → ¬ Contains found point → ¬ IsLive (remaining code dead) x point

-- The state while the computations of a location are looked at, of which this was found: that location alone may not be settled.
pub record IsLooking (code : List Instr) (dead : List Bool) (queue : List ℕ) (queued : List Bool) (number : ℕ) (found : List ℕ) : Type 0 where
  pub inside : number < length queued
  pub work : IsWork code dead queue queued (λ n. n ≡ number)
  pub searched : IsSearched code dead queued number found

-- the item is dead, or what it computes is live at the next point
abbrev pub IsLookedAt : List Bool → List ℕ → ℕ → Type 0
IsLookedAt dead found item = (is_marked dead item ≡ true) ⊎ Contains found (suc item)

-- ---- the queue

-- the number is that of a location that the item reads
abbrev pub IsReadBy : Instr → ℕ → Type 0
IsReadBy item number = Contains (map number_of (reads_of item)) number

-- These numbers are queued, as far as there are marks for them, and none is queued no longer; so many more are in the queue
-- at most.
pub record Queues (P : ℕ → Type 0) (more : ℕ) (queue longer : List ℕ) (queued marked : List Bool) : Type 0 where
  pub are : AreQueued longer marked
  pub long : length marked ≡ length queued
  pub kept : (l : ℕ) → is_marked queued l ≡ true → is_marked marked l ≡ true
  pub all : (l : ℕ) → P l → l < length queued → is_marked marked l ≡ true
  pub few : length longer ≤ length queue + more

-- The number is taken off the queue, and no other.
pub record Unqueues (number : ℕ) (queue shorter : List ℕ) (queued marked : List Bool) : Type 0 where
  pub inside : number < length queued
  pub are : AreQueued shorter marked
  pub long : length marked ≡ length queued
  pub others : (l : ℕ) → l ≢ number → is_marked marked l ≡ is_marked queued l
  pub few : length shorter + 1 ≡ length queue
