-- A program in which the items of another stand in their order, under names that may differ from point to point, with
-- `get`s and `set`s put in between. In place of its own `get`s and `set`s stand `nop`s.
use Rattle.std.specs.Prelude.{◌≡◌, ◌⊎◌, ℕ, zero, suc, ◌+◌, ◌-◌, ◌<◌, ◌≤◌, ◌==◌, Bool, true, false, List, ◌∷◌, map, length, Option, Some, None, slice_get, slice_index, if◌then◌else◌}
use Rattle.std.specs.Option.{option_map}
use Rattle.bril_tree.specs.declared.function_tree.Dest.{Dest}
use Rattle.bril_tree.specs.declared.function_tree.Item.{Item}
use Rattle.bril_tree.specs.declared.function_tree.Item.TheVariants as item
use Rattle.bril_tree.specs.declared.numbered.Instr.{Instr}
use Rattle.bril_tree.specs.declared.numbered.Instr.TheVariants.{Label, Const, Act}
use Rattle.bril_tree.specs.declared.numbered_function.Func.{Func}
use Rattle.bril_tree.specs.declared.operation.Op.TheVariants as op
use Rattle.bril_tree.specs.declared.program.Prog.{Prog}
use Rattle.bril_tree.specs.declared.types.Ty.{Ty}
use Rattle.bril_tree.specs.Accepted.{IsAccepted}
use Rattle.bril_tree.specs.Assigned.{assigns_at}
use Rattle.bril_tree.specs.Edge.{Branch, branches_at, onward}
use Rattle.bril_tree.specs.Numbered.{named, typed_name}
use Rattle.bril_tree.specs.Operand.{Location, Variable, Shadow, dest_of, reads_of}
use Rattle.bril_tree.specs.Run.{Refines}
use Rattle.bril_tree.specs.Sites.{sites_of}
use Rattle.bril_tree.specs.Step.{code_of, item_at}
use Rattle.bril_tree.specs.Walk.{IsWalk, IsReached, end_of}
use Rattle.bril_tree.specs.Membership.{In}
use Rattle.bril_tree.specs.Numbered.{names_of_functions}
use Rattle.pass_edit_laws.specs.plan.Plan.{Plan}
use Rattle.pass_edit_laws.specs.names.Named.{SameLocation}
use Rattle.pass_edit_laws.specs.names.NamedPlan.{SameHeads}
use Rattle.bril_tree.specs.Numbered.{names_in, nop_item, tree_at}

-- the item is a `get` or a `set`
abbrev pub is_copy : Option Instr → Bool
is_copy None = false
is_copy (Some (Label l)) = false
is_copy (Some (Const d ty v)) = false
is_copy (Some (Act d ty op.Get args fns ls)) = true
is_copy (Some (Act d ty op.Set args fns ls)) = true
is_copy (Some (Act d ty _ args fns ls)) = false

-- the item goes to its labels alone
abbrev pub is_jump : Option Instr → Bool
is_jump None = false
is_jump (Some (Label l)) = false
is_jump (Some (Const d ty v)) = false
is_jump (Some (Act d ty op.Jmp args fns ls)) = true
is_jump (Some (Act d ty op.Br args fns ls)) = true
is_jump (Some (Act d ty _ args fns ls)) = false

-- the variable that an item assigns
abbrev pub destination : Option Instr → Option ℕ
destination None = None
destination (Some item) = dest_of item

-- the location is the variable of this name
abbrev pub IsNamed : List (List ℕ) → Location → List ℕ → Type 0
IsNamed W (Variable x) n = (x < length W) × (named W x ≡ n)
IsNamed W (Shadow x) n = ⊥

-- ---- what was copied: which location held just before an item what a location holds behind it

-- behind a `get` with this destination
abbrev pub got : Option ℕ → Location → Location
got None c = c
got (Some x) (Variable y) = if y == x then Shadow x else Variable y
got (Some x) (Shadow y) = Shadow y

-- behind a `set` of the shadow of x to z
abbrev pub put : ℕ → ℕ → Location → Location
put x z (Variable y) = Variable y
put x z (Shadow y) = if y == x then Variable z else Shadow y

-- behind any item; one that is no copy is passed over
abbrev pub source : Option Instr → Location → Location
source None c = c
source (Some (Label l)) c = c
source (Some (Const d ty v)) c = c
source (Some (Act d ty op.Get args fns ls)) c = got d c
source (Some (Act d ty op.Set args fns ls)) c = put (slice_index args 0) (slice_index args 1) c
source (Some (Act d ty _ args fns ls)) c = c

-- behind n items from point j on
abbrev pub sources : Prog → ℕ → ℕ → ℕ → Location → Location
sources Q f zero j c = c
sources Q f (suc n) j c = source (item_at Q f j) (sources Q f n (suc j) c)

-- ---- an item under other names: what it reads by one table, its destination by a name of its own

-- a destination of this name
abbrev pub renamed_dest : Option ℕ → Option Ty → List ℕ → Option Dest
renamed_dest None ty w = None
renamed_dest (Some x) None w = None
renamed_dest (Some x) (Some ty) w = Some (typed_name w ty)

-- the item whose variables have the names r, and its destination the name w
abbrev pub renamed : List (List ℕ) → List (List ℕ) → (ℕ → List ℕ) → List ℕ → Instr → Item
renamed fs ls r w (Label l) = item.Label (named ls l)
renamed fs ls r w (Const d ty v) = item.Const w ty v
renamed fs ls r w (Act d ty o args fns ms) = item.Act (renamed_dest d ty w) o (map r args) (map (named fs) fns) (map (named ls) ms)

-- the same of the item at a point of a function
abbrev pub renamed_point : List (List ℕ) → (ℕ → List ℕ) → List ℕ → Option Func → ℕ → Option Item
renamed_point fs r w None i = None
renamed_point fs r w (Some F) i = option_map (renamed fs F.labels r w) (slice_get F.code i)

-- the same in a program
abbrev pub renamed_at : Prog → (ℕ → List ℕ) → List ℕ → ℕ → ℕ → Option Item
renamed_at P r w f i = renamed_point (names_of_functions P.funcs) r w (slice_get P.funcs f) i

-- ---- the relation

-- `home f i` is the point of Q at which item i of P stands; what was put in between stands before it. `base f i` says
-- which location of Q holds what a location of P does, when both are just before their items.
module _ (P Q : Prog) (home : ℕ → ℕ → ℕ) (base : (f i : ℕ) → Location → Location → Type 0) where
  -- the first point of Q that stands by item i: what is put in before it begins there
  abbrev pub low : ℕ → ℕ → ℕ
  low f zero = 0
  low f (suc i) = suc (home f i)

  -- the same at a point before: what is left to be copied is looked through
  abbrev pub held : (f i j : ℕ) → Location → Location → Type 0
  held f i j a b = (c : Location) × base f i a c × (b ≡ sources Q f (home f i - j) j c)

  -- The points that stand by an item match its point; both programs make the same step at its home, unless it is a copy.
  abbrev pub inserted_plan : Plan
  inserted_plan = record {
    PointsMatch = λ f i j. (low f i ≤ j) × (j ≤ home f i);
    LocationsMatch = held;
    IsRegular = λ f i j. (j ≡ home f i) × (is_copy (item_at P f i) ≡ false);
    IsKnown = λ f i a v. ⊥;
  }

  -- Q is P with at most c copies put in before each item. What is said of locations is said along each way to leave an item.
  pub record AreInserted (c : ℕ) : Type 0 where
    pub heads : SameHeads P Q
    -- points: copies alone stand before an item
    pub order : (f i : ℕ) → low f i ≤ home f i
    pub few : (f i : ℕ) → home f i ≤ c + low f i
    pub copies : (f i j : ℕ) → IsReached (code_of P f) i → low f i ≤ j → j < home f i → is_copy (item_at Q f j) ≡ true
    -- items: each stands at its home under the names that it reads and writes there, and a `nop` for a copy
    pub reads : (f i : ℕ) → ℕ → List ℕ
    pub writes : (f i : ℕ) → List ℕ
    pub same : (f i : ℕ) → IsReached (code_of P f) i → is_copy (item_at P f i) ≡ false → renamed_at P (reads f i) (writes f i) f i ≡ tree_at Q f (home f i)
    pub gone : (f i : ℕ) → IsReached (code_of P f) i → is_copy (item_at P f i) ≡ true → tree_at Q f (home f i) ≡ Some nop_item
    -- locations: at the start each holds what that of its name did; what an item reads holds the same; and behind each item,
    -- through the copies there, it is assigned by both, or held the same before
    pub start : (f : ℕ) (a b : Location) → held f 0 0 a b → SameLocation (names_in (slice_get P.funcs f)) (names_in (slice_get Q.funcs f)) a b
    pub read : (f i : ℕ) (item : Instr) (x y : ℕ) → IsReached (code_of P f) i → item_at P f i ≡ Some item → is_copy (Some item) ≡ false → In (Variable x) (reads_of item) → y < length (names_in (slice_get Q.funcs f)) → named (names_in (slice_get Q.funcs f)) y ≡ reads f i x
        → base f i (Variable x) (Variable y)
    pub next : (f i : ℕ) (a b : Location) → IsReached (code_of P f) i → is_copy (item_at P f i) ≡ false → is_jump (item_at P f i) ≡ false → In (onward i) (branches_at (code_of P f) i) → held f (suc i) (suc (home f i)) a b
        → (In a (assigns_at (item_at P f i)) × IsNamed (names_in (slice_get Q.funcs f)) b (writes f i)) ⊎ ((In a (assigns_at (item_at P f i)) → ⊥) × ((x : ℕ) → destination (item_at P f i) ≡ Some x → IsNamed (names_in (slice_get Q.funcs f)) b (writes f i) → ⊥) × base f i a b)
    pub copied : (f i : ℕ) (a b : Location) → IsReached (code_of P f) i → is_copy (item_at P f i) ≡ true → held f (suc i) (suc (home f i)) a b → base f i (source (item_at P f i) a) b
    pub jumps : (f i : ℕ) (w : Branch) (name : List ℕ) (a b : Location) → IsReached (code_of P f) i → is_jump (item_at P f i) ≡ true → In w (branches_at (code_of P f) i) → tree_at P f w.to ≡ Some (item.Label name) → base f w.to a b → base f i a b
    pub back : (f : ℕ) (w : Branch) (name : List ℕ) (walk : List Branch) → IsWalk (code_of P f) walk → In w (branches_at (code_of P f) (end_of walk)) → w.aborts ≡ true → tree_at P f w.to ≡ Some (item.Label name) → (s : ℕ) (sites : List ℕ) → sites_of (code_of P f) walk ≡ s ∷ sites → (a b : Location) → base f w.to a b → base f s a b

-- An accepted program with at most c copies put in before any item does what it did, in c + 1 steps for one at most.
abbrev pub CopiesRefine : (home : Prog → Prog → ℕ → ℕ → ℕ) → (base : Prog → Prog → (f i : ℕ) → Location → Location → Type 0) → Type 0
CopiesRefine home base = (P Q : Prog) (c : ℕ) → IsAccepted P → AreInserted P Q (home P Q) (base P Q) c → Refines P Q (suc c)
