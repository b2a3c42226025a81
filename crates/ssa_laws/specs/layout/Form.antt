-- SSA form (Braun and others, "Simple and Efficient Construction of Static Single Assignment Form", 2013, section 2): each
-- definition stands once, and each `get`, which is a phi function, behind a label.
use Rattle.std.specs.Prelude.{◌≡◌, ◌⊎◌, ℕ, zero, suc, ◌+◌, false, List, Option, Some, None, slice_get}
use Rattle.bril_tree.specs.declared.function_tree.Dest.{Dest}
use Rattle.bril_tree.specs.declared.function_tree.Item.{Item}
use Rattle.bril_tree.specs.declared.function_tree.Item.TheVariants as item
use Rattle.bril_tree.specs.declared.numbered_function.Func.{Func}
use Rattle.bril_tree.specs.declared.operation.Op.TheVariants as op
use Rattle.bril_tree.specs.declared.program.Prog.{Prog}
use Rattle.bril_tree.specs.Numbered.{tree_at}
use Rattle.bril_tree.specs.Operand.{Location}
use Rattle.bril_tree.specs.Step.{code_of}
use Rattle.bril_tree.specs.Walk.{IsReached}
use Rattle.ssa_laws.specs.inserted_copies.Inserted.{destination, is_copy}
use Rattle.ssa_laws.specs.layout.Laid.{Begins, Laid, Setting, first, home}
use Rattle.ssa_laws.specs.reaching_definitions.Tables.{Tables}

-- ---- `get`s behind labels

-- the name that a destination has
abbrev pub dest_name : Option Dest → Option (List ℕ)
dest_name None = None
dest_name (Some d) = Some d.name

-- a `get` of this name
abbrev pub IsGetOf : List ℕ → Item → Type 0
IsGetOf name (item.Label l) = ⊥
IsGetOf name (item.Const dest ty value) = ⊥
IsGetOf name (item.Act dest op.Get args funcs labels) = dest_name dest ≡ Some name
IsGetOf name (item.Act dest _ args funcs labels) = ⊥

-- such an item stands there
abbrev pub IsGetAt : List Item → ℕ → List ℕ → Type 0
IsGetAt code i name = (x : Item) × (slice_get code i ≡ Some x) × IsGetOf name x

-- a label stands there
abbrev pub IsLabelAt : List Item → ℕ → Type 0
IsLabelAt code i = (name : List ℕ) × (slice_get code i ≡ Some (item.Label name))

-- a label stands before the point, with only `get`s in between
abbrev pub FollowsLabel : List Item → ℕ → Type 0
FollowsLabel code zero = ⊥
FollowsLabel code (suc i) = IsLabelAt code i ⊎ ((name : List ℕ) × IsGetAt code i name × FollowsLabel code i)

-- only reached labels have `get`s
abbrev pub GetsAreReached : Prog → (ℕ → Tables) → ℕ → Type 0
GetsAreReached P table f = (k y : ℕ) (a : Location) → (table f).gets k a ≡ Some y → IsReached (code_of P f) k

-- Where `items` has the items of the result's function, each of its `get`s stands behind a label, with only `get`s between.
abbrev pub GetsFollowLabels : Type 0
GetsFollowLabels = (P Q : Prog) (table : ℕ → Tables) (name : ℕ → ℕ → List ℕ) (gets : ℕ → ℕ → List ℕ) (sets : ℕ → ℕ → List Setting) (c : ℕ) → Laid P Q table name gets sets c
    → (f : ℕ) (F : Func) → slice_get P.funcs f ≡ Some F → GetsAreReached P table f → (items : List Item) → ((j : ℕ) (x : Item) → tree_at Q f j ≡ Some x → slice_get items j ≡ Some x)
    → (i k y : ℕ) → slice_get (gets f (suc i)) k ≡ Some y → FollowsLabel items (first P Q table name gets sets f (suc i) + k)

-- ---- one definition each

module _ (P Q : Prog) (table : ℕ → Tables) (name : ℕ → ℕ → List ℕ) (gets : ℕ → ℕ → List ℕ) (sets : ℕ → ℕ → List Setting) (f : ℕ) where
  -- the point of the result assigns the definition
  pub data Assigns (j y : ℕ) : Type 0 where
    AtHome : (i x : ℕ) → IsReached (code_of P f) i → is_copy (slice_get (code_of P f) i) ≡ false → destination (slice_get (code_of P f) i) ≡ Some x → (table f).writes i ≡ y → j ≡ home P Q table name gets sets f i → Assigns j y
    AtGet : (i k : ℕ) → slice_get (gets f (suc i)) k ≡ Some y → j ≡ first P Q table name gets sets f (suc i) + k → Assigns j y

-- Each definition is assigned at one point, or is an argument and assigned at none.
abbrev pub DefinedOnce : Type 0
DefinedOnce = (P Q : Prog) (table : ℕ → Tables) (name : ℕ → ℕ → List ℕ) (gets : ℕ → ℕ → List ℕ) (sets : ℕ → ℕ → List Setting) (c : ℕ) → Laid P Q table name gets sets c
    → (f : ℕ) → GetsAreReached P table f → ((i k l y : ℕ) → slice_get (gets f i) k ≡ Some y → slice_get (gets f i) l ≡ Some y → k ≡ l)
    → ((j k y : ℕ) → Assigns P Q table name gets sets f j y → Assigns P Q table name gets sets f k y → j ≡ k)
    × ((j y : ℕ) → Assigns P Q table name gets sets f j y → ((a : Location) × Begins P Q table name gets sets f a y) → ⊥)
