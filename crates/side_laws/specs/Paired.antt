-- The guards of a run that are paired with branches, by the numbered code of a function.
use Rattle.std.specs.Prelude.{◌≡◌, ◌≢◌, ◌⊎◌, ℕ, zero, suc, ◌+◌, ◌<◌, ◌≤◌, Bool, true, false, List, [], ◌∷◌, ◌++◌, length, Option, Some, None, slice_get, slice_index, IsTrue}
use Rattle.bril_tree.specs.declared.numbered.Instr.{Instr}
use Rattle.bril_tree.specs.declared.numbered.Instr.TheVariants.{Label, Const, Act}
use Rattle.bril_tree.specs.declared.operation.Op.{Op}
use Rattle.bril_tree.specs.declared.types.Ty.{Ty}
use Rattle.bril_tree.specs.declared.operation.Op.TheVariants as op
use Rattle.bril_tree.specs.Operand.{Variable, reads_of}
use Rattle.bril_tree.specs.Step.{point_of}
use Rattle.bril_tree.specs.Edge.{leads_away}
use Rattle.bril_tree.specs.Walk.{IsReached}
use Rattle.bril_tree.specs.Membership.{In}

-- ---- runs

-- how an item stands in a run: within it, as its end, or where it breaks the run
pub data Place : Type 0 where
  Within : Place
  Commits : Place
  Breaks : Place

abbrev pub operation_place : Op → Place
operation_place op.Print = Breaks
operation_place op.Store = Breaks
operation_place op.Alloc = Breaks
operation_place op.Free = Breaks
operation_place op.Call = Breaks
operation_place op.Ret = Breaks
operation_place op.Speculate = Breaks
operation_place op.Jmp = Breaks
operation_place op.Br = Breaks
operation_place op.Commit = Commits
operation_place _ = Within

abbrev pub item_place : Option Instr → Place
item_place None = Breaks
item_place (Some (Label l)) = Breaks
item_place (Some (Const dest ty value)) = Within
item_place (Some (Act dest ty operation args funcs labels)) = operation_place operation

abbrev pub is_guard : Option Instr → Bool
is_guard None = false
is_guard (Some (Label l)) = false
is_guard (Some (Const dest ty value)) = false
is_guard (Some (Act dest ty op.Guard args funcs labels)) = true
is_guard (Some (Act dest ty _ args funcs labels)) = false

abbrev pub is_nop : Option Instr → Bool
is_nop None = false
is_nop (Some (Label l)) = false
is_nop (Some (Const dest ty value)) = false
is_nop (Some (Act dest ty op.Nop args funcs labels)) = true
is_nop (Some (Act dest ty _ args funcs labels)) = false

abbrev pub labels_of_item : Option Instr → List ℕ
labels_of_item None = []
labels_of_item (Some (Label l)) = []
labels_of_item (Some (Const dest ty value)) = []
labels_of_item (Some (Act dest ty operation args funcs labels)) = labels

-- a run: its `speculate` is at `start`, `size` items follow, and then its `commit`
pub record Run : Type 0 where
  pub start : ℕ
  pub size : ℕ
  pub bail : ℕ

pub record IsRun (code : List Instr) (r : Run) : Type 0 where
  pub opens : slice_get code r.start ≡ Some (Act None None op.Speculate [] [] [])
  pub reached : IsReached code r.start
  pub few : r.size ≤ 512
  pub within : (n : ℕ) → n < r.size → item_place (slice_get code (suc (r.start + n))) ≡ Within
  pub closes : item_place (slice_get code (suc (r.start + r.size))) ≡ Commits
  pub guards : (n : ℕ) → n < r.size → is_guard (slice_get code (suc (r.start + n))) ≡ true → labels_of_item (slice_get code (suc (r.start + n))) ≡ r.bail ∷ []
  -- it has a guard: one without names no label, so nothing of it is paired
  pub guard : ℕ
  pub guard_in : guard < r.size
  pub guard_is : is_guard (slice_get code (suc (r.start + guard))) ≡ true
  pub before : ℕ
  pub bail_at : suc before ≡ point_of r.bail code
  pub away : IsTrue (leads_away (slice_get code before))

-- ---- the walk

-- how the walk meets an item: it passes over it, to the next point or to a label, or stands at it
pub data Passing : Type 0 where
  Over : Passing
  To : (label : ℕ) → Passing
  Stands : Passing

abbrev pub operation_passing : Op → List ℕ → Passing
operation_passing op.Nop labels = Over
operation_passing op.Jmp labels = To (slice_index labels 0)
operation_passing _ labels = Stands

abbrev pub item_passing : Option Instr → Passing
item_passing None = Stands
item_passing (Some (Label l)) = Over
item_passing (Some (Const dest ty value)) = Stands
item_passing (Some (Act dest ty operation args funcs labels)) = operation_passing operation labels

-- where the walk is: `left` items may still be met
pub record Walker : Type 0 where
  pub left : ℕ
  pub point : ℕ

abbrev pub passing : List Instr → (ℕ → Walker) → ℕ → ℕ → Passing → Walker
passing code next left a Over = next (suc a)
passing code next left a (To l) = next (point_of l code)
passing code next left a Stands = record { left = left; point = a }

-- where it comes to stand from a point on; with nothing left it has ended
abbrev pub settled : List Instr → ℕ → ℕ → Walker
settled code zero a = record { left = 0; point = a }
settled code (suc left) a = passing code (settled code left) (suc left) a (item_passing (slice_get code a))

-- ---- pairing

-- no other item reads the variable
abbrev pub ReadAlone : List Instr → ℕ → ℕ → Type 0
ReadAlone code n g = (i : ℕ) (a : Instr) → slice_get code i ≡ Some a → In (Variable n) (reads_of a) → i ≡ g

-- a branch on the variable
abbrev pub IsBranchOn : Option Instr → ℕ → ℕ → ℕ → Type 0
IsBranchOn o c on off = o ≡ Some (Act None None op.Br (c ∷ []) [] (on ∷ off ∷ []))

abbrev pub IsGuardOn : Option Instr → ℕ → Type 0
IsGuardOn o c = (label : ℕ) × (o ≡ Some (Act None None op.Guard (c ∷ []) [] (label ∷ [])))

-- `n: bool = not c` at i, `guard n` just behind it, and the walk at a `br` on c
pub record IsInverted (code : List Instr) (i a c on off : ℕ) : Type 0 where
  pub n : ℕ
  pub ty : Option Ty
  pub nots : slice_get code i ≡ Some (Act (Some n) ty op.Not (c ∷ []) [] [])
  pub guards : IsGuardOn (slice_get code (suc i)) n
  pub turns : IsBranchOn (slice_get code a) c on off
  pub apart : n ≢ c
  pub alone : ReadAlone code n (suc i)

-- a guard at i on c, and the walk at a `br` on c
pub record IsDirect (code : List Instr) (i a c on off : ℕ) : Type 0 where
  pub guards : IsGuardOn (slice_get code i) c
  pub turns : IsBranchOn (slice_get code a) c on off

pub record IsKept (code : List Instr) (i a : ℕ) : Type 0 where
  pub item : Instr
  pub at : slice_get code i ≡ Some item
  pub same : slice_get code a ≡ Some item
  pub no_guard : is_guard (Some item) ≡ false

abbrev pub IsNoInverted : List Instr → ℕ → ℕ → Type 0
IsNoInverted code i a = (c on off : ℕ) → IsInverted code i a c on off → ⊥

abbrev pub IsNoDirect : List Instr → ℕ → ℕ → Type 0
IsNoDirect code i a = (c on off : ℕ) → IsDirect code i a c on off → ⊥

-- how the item at i goes with the item at a, at which the walk stands: the first that applies
pub data Going (code : List Instr) (i a : ℕ) : Type 0 where
  Inverts : (c on off : ℕ) → IsInverted code i a c on off → Going code i a
  Pairs : (c on off : ℕ) → IsNoInverted code i a → IsDirect code i a c on off → Going code i a
  Keeps : IsNoInverted code i a → IsNoDirect code i a → IsKept code i a → Going code i a
  Ends : IsNoInverted code i a → IsNoDirect code i a → (IsKept code i a → ⊥) → Going code i a

-- a paired guard: where it stands, the label that it names, the kept items before it, and its other label
pub record Pair : Type 0 where
  pub guard : ℕ
  pub bail : ℕ
  pub kept : List ℕ
  pub other : ℕ

-- what pairing goes on with: the run's item, the walk and what is kept so far
abbrev pub Pairing : Type 1
Pairing = (i : ℕ) → Walker → (kept : List ℕ) → List Pair → Type 0

-- the first pair is this one
abbrev pub BeginsWith : Pair → (List Pair → Type 0) → List Pair → Type 0
BeginsWith pair Rest [] = ⊥
BeginsWith pair Rest (p ∷ pairs) = (p ≡ pair) × Rest pairs

module _ (code : List Instr) (bail : ℕ) where
  abbrev pub walker : ℕ → ℕ → Walker
  walker left point = record { left = left; point = point }

  -- `next` goes on one item further, and `skip` two
  abbrev pub goes : {i a : ℕ} → Pairing → Pairing → ℕ → List ℕ → List Pair → Going code i a → Type 0
  goes {i} {a} next skip left kept pairs (Inverts c on off h) =
      BeginsWith (record { guard = suc i; bail = bail; kept = kept; other = on }) (skip (suc (suc i)) (walker left (point_of off code)) kept) pairs
  goes {i} {a} next skip left kept pairs (Pairs c on off n h) =
      BeginsWith (record { guard = i; bail = bail; kept = kept; other = off }) (next (suc i) (walker left (point_of on code)) kept) pairs
  goes {i} {a} next skip left kept pairs (Keeps n m h) = next (suc i) (walker left (suc a)) (kept ++ i ∷ []) pairs
  goes {i} {a} next skip left kept pairs (Ends n m h) = pairs ≡ []

  -- the walk stands, or it has ended
  abbrev pub stands : Pairing → Pairing → ℕ → ℕ → ℕ → List ℕ → List Pair → Type 0
  stands next skip i zero a kept pairs = pairs ≡ []
  stands next skip i (suc left) a kept pairs = (g : Going code i a) × goes next skip left kept pairs g

  abbrev pub pairs_by : Pairing → Pairing → Pairing
  pairs_by next skip i w kept pairs =
      ((is_nop (slice_get code i) ≡ true) × next (suc i) w kept pairs)
      ⊎ ((is_nop (slice_get code i) ≡ false) × stands next skip i (settled code w.left w.point).left (settled code w.left w.point).point kept pairs)

  -- the pairs from item i of a run on, of which `room` items are left
  abbrev pub PairsFrom : (room : ℕ) → Pairing
  PairsFrom zero i w kept pairs = pairs ≡ []
  PairsFrom (suc zero) i w kept pairs = pairs_by (PairsFrom zero) (λ i w kept pairs. ⊥) i w kept pairs
  PairsFrom (suc (suc room)) i w kept pairs = pairs_by (PairsFrom (suc room)) (PairsFrom room) i w kept pairs

-- the pairs of a run: the walk begins at the label that its guards name, its first item, and ends at its 1,025th
abbrev pub PairsOf : List Instr → Run → List Pair → Type 0
PairsOf code r pairs = PairsFrom code r.bail r.size (suc r.start) (record { left = 1023; point = suc (point_of r.bail code) }) [] pairs

-- the pairs of the function's runs, which begin at item k or later, in the order of items
abbrev pub PairsWithin : List Instr → (count k : ℕ) → List Pair → Type 0
PairsWithin code zero k pairs = pairs ≡ []
PairsWithin code (suc count) k pairs =
    ((r : Run) × (r.start ≡ k) × IsRun code r × (here : List Pair) × PairsOf code r here × (rest : List Pair) × PairsWithin code count (suc k) rest × (pairs ≡ here ++ rest))
    ⊎ (((r : Run) → r.start ≡ k → IsRun code r → ⊥) × PairsWithin code count (suc k) pairs)

-- All pairs of the function, in the order of items.
abbrev pub ArePairs : List Instr → List Pair → Type 0
ArePairs code pairs = PairsWithin code (length code) 0 pairs
