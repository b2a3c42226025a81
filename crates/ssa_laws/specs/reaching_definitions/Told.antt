-- The tables of a function, made item by item: which definition reaches a point follows from those that reach the point before
-- it, and behind a label from the label's `get`s.
use Rattle.std.specs.Prelude.{◌≡◌, ◌⊎◌, ℕ, zero, suc, ◌+◌, ◌<◌, ◌≤◌, true, false, List, ◌∷◌, length, Option, Some, None, slice_get, nat_lt, if◌then◌else◌}
use Rattle.bril_tree.specs.declared.numbered.Instr.{Instr}
use Rattle.bril_tree.specs.declared.numbered.Instr.TheVariants.{Label}
use Rattle.bril_tree.specs.declared.types.Ty.{Ty}
use Rattle.bril_tree.specs.Edge.{Branch, branches_at, onward}
use Rattle.bril_tree.specs.Live.{IsLive}
use Rattle.bril_tree.specs.Operand.{Location, Variable, Shadow}
use Rattle.bril_tree.specs.Sites.{sites_of}
use Rattle.bril_tree.specs.Walk.{IsWalk, IsReached, end_of}
use Rattle.bril_tree.specs.Membership.{In}
use Rattle.ssa_laws.specs.inserted_copies.Inserted.{is_copy, destination, source}
use Rattle.ssa_laws.specs.reaching_definitions.Tables.{Tables, is_dest, else_passed, behind}

-- a branch leads to the next point, or to a label
abbrev pub LeadToLabels : List Instr → Type 0
LeadToLabels code = (p : ℕ) (w : Branch) → In w (branches_at code p) → (w ≡ onward p) ⊎ ((l : ℕ) × (slice_get code w.to ≡ Some (Label l)))

-- an argument is its own definition, by its number
abbrev pub argument : ℕ → Location → Option ℕ
argument args (Variable x) = if nat_lt x args then Some x else None
argument args (Shadow x) = None

-- just before a label no location has a definition: those behind it are its `get`s
abbrev pub entered : Option Instr → Option ℕ → Option ℕ
entered (Some (Label l)) o = None
entered _ o = o

-- which definition reaches behind an item, from those that reach it; `w` is the item's own
abbrev pub passed_by : Option Instr → ℕ → (Location → Option ℕ) → Location → Option ℕ
passed_by o w known a = if is_copy o then known (source o a) else (if is_dest (destination o) a then Some w else known a)

-- `gets k a` is the number of the `get` of location a behind the label k.
module _ (code : List Instr) (args : ℕ) (gets : ℕ → Location → Option ℕ) where
  -- item i's destination has the number args + i
  abbrev pub written : ℕ → ℕ
  written i = args + i

  -- the definition of a location just before item i
  abbrev pub into_at : ℕ → Location → Option ℕ
  into_at zero a = entered (slice_get code 0) (argument args a)
  into_at (suc i) a = entered (slice_get code (suc i)) (else_passed (gets i a) (passed_by (slice_get code i) (written i) (into_at i) a))

  -- all tables of the function
  abbrev pub table_of : Tables
  table_of = record { into = into_at; gets = gets; writes = written }

  -- there is a `get` for exactly what is live behind a reachable label
  pub record AreWanted : Type 0 where
    pub wanted : (k l : ℕ) (a : Location) → slice_get code k ≡ Some (Label l) → IsReached code k → IsLive code a k → (y : ℕ) × (gets k a ≡ Some y)
    pub label : (k y : ℕ) (a : Location) → gets k a ≡ Some y → (l : ℕ) × (slice_get code k ≡ Some (Label l))
    pub reached : (k y : ℕ) (a : Location) → gets k a ≡ Some y → IsReached code k
    pub live : (k y : ℕ) (a : Location) → gets k a ≡ Some y → IsLive code a k
    -- numbers of their own
    pub above : (k y : ℕ) (a : Location) → gets k a ≡ Some y → args + length code ≤ y
    pub once : (j k y : ℕ) (a b : Location) → gets j a ≡ Some y → gets k b ≡ Some y → (j ≡ k) × (a ≡ b)

-- what a `get` is set from, and on which edge
pub data Source (code : List Instr) (n : Tables) (args k : ℕ) (a : Location) (z : ℕ) : Type 0 where
  FromStart : k ≡ 0 → argument args a ≡ Some z → Source code n args k a z
  FromNext : (walk : List Branch) (w : Branch) → IsWalk code walk → In w (branches_at code (end_of walk)) → w.aborts ≡ false → w.to ≡ k → behind code n (end_of walk) a ≡ Some z → Source code n args k a z
  FromBack : (walk : List Branch) (w : Branch) (s : ℕ) (sites : List ℕ) → IsWalk code walk → In w (branches_at code (end_of walk)) → w.aborts ≡ true → w.to ≡ k → sites_of code walk ≡ s ∷ sites → n.into s a ≡ Some z → Source code n args k a z

-- the `get` y of the location behind the label k is set from exactly these
abbrev pub AreSources : List Instr → Tables → ℕ → (ℕ → ℕ → Type 0) → Type 0
AreSources code n args Sets = (k y z : ℕ) (a : Location) → n.gets k a ≡ Some y → ((Source code n args k a z → Sets y z) × (Sets y z → Source code n args k a z))

-- What is asked of the definitions that stand for others, once no trivial `get` is left: those below `base` are no `get`s.
pub record IsSolved (code : List Instr) (n : Tables) (args base : ℕ) (find : ℕ → ℕ) : Type 0 where
  pub fixed : (d : ℕ) → d < base → find d ≡ d
  -- what is left out is set from one definition alone
  pub gone : (k y z : ℕ) (a : Location) → n.gets k a ≡ Some y → (find y ≡ y → ⊥) → Source code n args k a z → find z ≡ find y

-- ---- types of definitions

-- The types of definitions: each has that of the location that it is a definition of.
pub record AreTyped (code : List Instr) (n : Tables) (args : ℕ) (type_at : Location → Option Ty) (types : ℕ → Option Ty) : Type 0 where
  pub argument : (a : Location) (y : ℕ) → argument args a ≡ Some y → types y ≡ type_at a
  pub write : (i x : ℕ) → is_copy (slice_get code i) ≡ false → destination (slice_get code i) ≡ Some x → types (n.writes i) ≡ type_at (Variable x)
  pub get : (k y : ℕ) (a : Location) → n.gets k a ≡ Some y → types y ≡ type_at a
  -- what is got has a type
  pub typed : (k y : ℕ) (a : Location) → n.gets k a ≡ Some y → (ty : Ty) × (type_at a ≡ Some ty)
  -- a copy has the type of what it is copied to, where that has one
  pub copied : (i : ℕ) (a : Location) → is_copy (slice_get code i) ≡ true → (type_at a ≡ None) ⊎ (type_at (source (slice_get code i) a) ≡ type_at a)

-- the definition has the type of the location, where that has one
abbrev pub HasTypeOf : (Location → Option Ty) → (ℕ → Option Ty) → ℕ → Location → Type 0
HasTypeOf type_at types y a = (type_at a ≡ None) ⊎ (types y ≡ type_at a)
