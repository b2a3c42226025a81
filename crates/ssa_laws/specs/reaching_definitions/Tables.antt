-- Which definition each location has at each point: the tables of a function on its way into SSA form (Braun and others, "Simple
-- and Efficient Construction of Static Single Assignment Form", 2013, section 2). A `get` behind a label is the phi function.
use Rattle.std.specs.Prelude.{◌≡◌, ℕ, ◌==◌, Bool, true, false, List, ◌∷◌, Option, Some, None, slice_get, if◌then◌else◌}
use Rattle.bril_tree.specs.declared.numbered.Instr.{Instr}
use Rattle.bril_tree.specs.declared.numbered.Instr.TheVariants.{Label}
use Rattle.bril_tree.specs.Edge.{Branch, branches_at}
use Rattle.bril_tree.specs.Operand.{Location, Variable, Shadow}
use Rattle.bril_tree.specs.Sites.{sites_of}
use Rattle.bril_tree.specs.Walk.{IsWalk, IsReached, end_of}
use Rattle.bril_tree.specs.Membership.{In}
use Rattle.ssa_laws.specs.inserted_copies.Inserted.{is_copy, destination, source}

-- Definitions have numbers. `into i a` is that of location a just before item i, `gets i a` that of the `get` of a behind
-- the label i, `writes i` that of item i's destination.
pub record Tables : Type 0 where
  pub into : ℕ → Location → Option ℕ
  pub gets : ℕ → Location → Option ℕ
  pub writes : ℕ → ℕ

-- the location is the variable of this destination
abbrev pub is_dest : Option ℕ → Location → Bool
is_dest None a = false
is_dest (Some x) (Variable y) = y == x
is_dest (Some x) (Shadow y) = false

-- the definition of a location behind an item, its `get`s left out
abbrev pub passed : Tables → Option Instr → ℕ → Location → Option ℕ
passed n o i a = if is_copy o then n.into i (source o a) else (if is_dest (destination o) a then Some (n.writes i) else n.into i a)

-- that of the `get`, where there is one
abbrev pub else_passed : Option ℕ → Option ℕ → Option ℕ
else_passed None o = o
else_passed (Some y) o = Some y

module _ (code : List Instr) (n : Tables) where
  -- the definition of a location behind an item and its `get`s
  abbrev pub behind : ℕ → Location → Option ℕ
  behind i a = else_passed (n.gets i a) (passed n (slice_get code i) i a)

  -- the item is a definition of it, or one of the `get`s behind it is
  pub data Defines (i y : ℕ) : Type 0 where
    Writes : (x : ℕ) → is_copy (slice_get code i) ≡ false → destination (slice_get code i) ≡ Some x → n.writes i ≡ y → Defines i y
    Gets : (a : Location) → n.gets i a ≡ Some y → Defines i y

  -- the tables agree along each branch
  pub record AreConsistent (IsArgument : ℕ → Type 0) : Type 0 where
    pub start : (a : Location) (y : ℕ) → n.into 0 a ≡ Some y → IsArgument y
    pub next : (walk : List Branch) (w : Branch) (a : Location) (y : ℕ) → IsWalk code walk → In w (branches_at code (end_of walk)) → w.aborts ≡ false → n.into w.to a ≡ Some y → behind (end_of walk) a ≡ Some y
    pub back : (walk : List Branch) (w : Branch) (a : Location) (y : ℕ) → IsWalk code walk → In w (branches_at code (end_of walk)) → w.aborts ≡ true → (s : ℕ) (sites : List ℕ) → sites_of code walk ≡ s ∷ sites → n.into w.to a ≡ Some y → n.into s a ≡ Some y
    -- one definition each
    pub once : (i j y : ℕ) → IsReached code i → IsReached code j → Defines i y → Defines j y → i ≡ j
    pub apart : (i y : ℕ) → IsReached code i → Defines i y → IsArgument y → ⊥
    pub single : (i y : ℕ) (a b : Location) → IsReached code i → n.gets i a ≡ Some y → n.gets i b ≡ Some y → a ≡ b
    pub plain : (i y : ℕ) (a : Location) → IsReached code i → n.gets i a ≡ Some y → (l : ℕ) × (slice_get code i ≡ Some (Label l))

-- ---- all trivial `get`s are left out at once: `find` has the definition that stands for each; a `get` stays where that is its own

-- the `get`, where it stays
abbrev pub kept : (ℕ → ℕ) → Option ℕ → Option ℕ
kept find None = None
kept find (Some y) = if find y == y then Some y else None

-- what stands for a definition
abbrev pub replaced : (ℕ → ℕ) → Option ℕ → Option ℕ
replaced find None = None
replaced find (Some y) = Some (find y)

-- the definition just before a label: that which stands for its `get`, where this is left out
abbrev pub resolved : (ℕ → ℕ) → Option ℕ → Option ℕ → Option ℕ
resolved find None o = replaced find o
resolved find (Some y) o = if find y == y then replaced find o else Some (find y)

-- the tables without the `get`s that are left out
abbrev pub resolve : Tables → (ℕ → ℕ) → Tables
resolve n find = record {
  into = λ i a. resolved find (n.gets i a) (n.into i a);
  gets = λ i a. kept find (n.gets i a);
  writes = n.writes;
}

-- What the loop over the `get`s keeps: whatever is set for one that is left out stands for the same. A merge of two classes
-- keeps it.
pub record AreResolved (code : List Instr) (n : Tables) (IsArgument : ℕ → Type 0) (find : ℕ → ℕ) : Type 0 where
  pub writes : (i x : ℕ) → IsReached code i → is_copy (slice_get code i) ≡ false → destination (slice_get code i) ≡ Some x → find (n.writes i) ≡ n.writes i
  pub arguments : (y : ℕ) → IsArgument y → find y ≡ y
  pub first : (a : Location) (y : ℕ) → n.gets 0 a ≡ Some y → (find y ≡ y → ⊥) → IsArgument (find y)
  pub next : (walk : List Branch) (w : Branch) (a : Location) (y : ℕ) → IsWalk code walk → In w (branches_at code (end_of walk)) → w.aborts ≡ false → n.gets w.to a ≡ Some y → (find y ≡ y → ⊥) → (z : ℕ) × (behind code n (end_of walk) a ≡ Some z) × (find z ≡ find y)
  pub back : (walk : List Branch) (w : Branch) (a : Location) (y : ℕ) → IsWalk code walk → In w (branches_at code (end_of walk)) → w.aborts ≡ true → (s : ℕ) (sites : List ℕ) → sites_of code walk ≡ s ∷ sites → n.gets w.to a ≡ Some y → (find y ≡ y → ⊥)
      → (z : ℕ) × (n.into s a ≡ Some z) × (find z ≡ find y)
