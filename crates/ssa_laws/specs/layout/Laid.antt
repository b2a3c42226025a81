-- How the code in SSA form is laid by its tables: `get`s behind labels, `set`s where edges leave.
use Rattle.std.specs.Prelude.{◌≡◌, ℕ, zero, suc, ◌+◌, ◌<◌, ◌≤◌, true, false, List, [], ◌∷◌, length, Option, Some, None, slice_get}
use Rattle.bril_tree.specs.declared.function_tree.Item.{Item}
use Rattle.bril_tree.specs.declared.function_tree.Item.TheVariants as item
use Rattle.bril_tree.specs.declared.numbered.Instr.{Instr}
use Rattle.bril_tree.specs.declared.numbered_function.Func.{Func}
use Rattle.bril_tree.specs.declared.operation.Op.TheVariants as op
use Rattle.bril_tree.specs.declared.program.Prog.{Prog}
use Rattle.bril_tree.specs.declared.types.Ty.{Ty}
use Rattle.bril_tree.specs.Accepted.{IsAccepted}
use Rattle.bril_tree.specs.Edge.{Branch, branches_at, onward}
use Rattle.bril_tree.specs.Numbered.{named, typed_name}
use Rattle.bril_tree.specs.Operand.{Location, Variable, Shadow, reads_of}
use Rattle.bril_tree.specs.Run.{Refines}
use Rattle.bril_tree.specs.Sites.{sites_of}
use Rattle.bril_tree.specs.Step.{code_of, item_at}
use Rattle.bril_tree.specs.Walk.{IsWalk, IsReached, end_of}
use Rattle.bril_tree.specs.Membership.{In}
use Rattle.pass_edit_laws.specs.names.NamedPlan.{SameHeads}
use Rattle.bril_tree.specs.Numbered.{names_in, tree_at}
use Rattle.bril_tree.specs.Numbered.{nop_item}
use Rattle.ssa_laws.specs.inserted_copies.Inserted.{is_copy, is_jump, renamed_at}
use Rattle.ssa_laws.specs.reaching_definitions.Tables.{Tables, behind, AreConsistent}

-- a `set` of the shadow of the first definition to the second one
pub record Setting : Type 0 where
  pub get : ℕ
  pub from : ℕ

-- their items, by names
abbrev pub get_tree : List ℕ → Ty → Item
get_tree name ty = item.Act (Some (typed_name name ty)) op.Get [] [] []

abbrev pub set_tree : List ℕ → List ℕ → Item
set_tree name from = item.Act None op.Set (name ∷ from ∷ []) [] []

-- an edge leaves from item i, before which its `set`s stand, to the label k
pub data LeavesTo (code : List Instr) (i k : ℕ) : Type 0 where
  Jumps : (w : Branch) → is_jump (slice_get code i) ≡ true → In w (branches_at code i) → w.to ≡ k → LeavesTo code i k
  Aborts : (walk : List Branch) (w : Branch) (sites : List ℕ) → IsWalk code walk → In w (branches_at code (end_of walk)) → w.aborts ≡ true → sites_of code walk ≡ i ∷ sites → w.to ≡ k → LeavesTo code i k

-- how many arguments a function has
abbrev pub args_in : Option Func → ℕ
args_in None = 0
args_in (Some f) = f.args

-- Q is made from P by tables. `name f y` is the name of definition y of function f, `gets f i` has the definitions of the `get`s
-- before item i of P, and `sets f i` the `set`s there.
module _ (P Q : Prog) (table : ℕ → Tables) (name : ℕ → ℕ → List ℕ) (gets : ℕ → ℕ → List ℕ) (sets : ℕ → ℕ → List Setting) where
  -- the point of item i: before it stand the `get`s of a label i - 1, and then `set`s
  abbrev pub home : ℕ → ℕ → ℕ
  home f zero = length (gets f 0) + length (sets f 0)
  home f (suc i) = suc (home f i) + (length (gets f (suc i)) + length (sets f (suc i)))

  -- the first point that stands by item i
  abbrev pub first : ℕ → ℕ → ℕ
  first f zero = 0
  first f (suc i) = suc (home f i)

  -- the location is an argument, and the definition has its name
  abbrev pub Begins : ℕ → Location → ℕ → Type 0
  Begins f (Variable x) y = (x < length (names_in (slice_get P.funcs f))) × (named (names_in (slice_get P.funcs f)) x ≡ name f y) × (x < args_in (slice_get P.funcs f))
  Begins f (Shadow x) y = ⊥

  -- why a `set` stands before item i: at the start of the function, where the label i is entered from the item before it, or
  -- where an edge leaves from item i
  pub data IsSetBefore (f i : ℕ) (s : Setting) : Type 0 where
    Starts : (a : Location) → i ≡ 0 → (table f).gets 0 a ≡ Some s.get → Begins f a s.from → IsSetBefore f i s
    Falls : (a : Location) (p : ℕ) → i ≡ suc p → (table f).gets i a ≡ Some s.get → behind (code_of P f) (table f) p a ≡ Some s.from → IsSetBefore f i s
    Leaves : (a : Location) (k : ℕ) → LeavesTo (code_of P f) i k → (table f).gets k a ≡ Some s.get → (table f).into i a ≡ Some s.from → IsSetBefore f i s

  -- the name of a definition, and no name where there is none
  abbrev pub name_of : ℕ → Option ℕ → List ℕ
  name_of f None = []
  name_of f (Some y) = name f y

  -- Q is laid out so, with at most c `get`s and `set`s before an item.
  pub record Laid (c : ℕ) : Type 0 where
    pub heads : SameHeads P Q
    pub few : (f i : ℕ) → length (gets f i) + length (sets f i) ≤ c
    pub injective : (f y z : ℕ) → name f y ≡ name f z → y ≡ z
    pub consistent : (f : ℕ) → AreConsistent (code_of P f) (table f) (λ y. (a : Location) × Begins f a y)
    pub begin : (f : ℕ) (a : Location) (y : ℕ) → (table f).into 0 a ≡ Some y → Begins f a y
    -- the items
    pub same : (f i : ℕ) → IsReached (code_of P f) i → is_copy (item_at P f i) ≡ false → renamed_at P (λ x. name_of f ((table f).into i (Variable x))) (name f ((table f).writes i)) f i ≡ tree_at Q f (home f i)
    pub gone : (f i : ℕ) → IsReached (code_of P f) i → is_copy (item_at P f i) ≡ true → tree_at Q f (home f i) ≡ Some nop_item
    pub read : (f i x : ℕ) (item : Instr) → IsReached (code_of P f) i → item_at P f i ≡ Some item → is_copy (Some item) ≡ false → In (Variable x) (reads_of item) → (y : ℕ) × ((table f).into i (Variable x) ≡ Some y)
    -- the `get`s
    pub got : (f i t y : ℕ) → IsReached (code_of P f) i → slice_get (gets f i) t ≡ Some y → (ty : Ty) × (tree_at Q f (first f i + t) ≡ Some (get_tree (name f y) ty))
    pub no_gets : (f : ℕ) → gets f 0 ≡ []
    pub gets_are : (f i y : ℕ) → In y (gets f (suc i)) → (a : Location) × ((table f).gets i a ≡ Some y)
    pub gets_all : (f i y : ℕ) (a : Location) → (table f).gets i a ≡ Some y → In y (gets f (suc i))
    -- the `set`s
    pub put : (f i t : ℕ) (s : Setting) → IsReached (code_of P f) i → slice_get (sets f i) t ≡ Some s → tree_at Q f (first f i + length (gets f i) + t) ≡ Some (set_tree (name f s.get) (name f s.from))
    pub sets_are : (f i : ℕ) (s : Setting) → IsReached (code_of P f) i → In s (sets f i) → IsSetBefore f i s
    pub sets_fall : (f i y : ℕ) (a : Location) → IsReached (code_of P f) i → is_jump (item_at P f i) ≡ false → In (onward i) (branches_at (code_of P f) i) → (table f).gets (suc i) a ≡ Some y → (z : ℕ) × In (record { get = y; from = z }) (sets f (suc i))
    pub sets_start : (f y : ℕ) (a : Location) → (table f).gets 0 a ≡ Some y → (z : ℕ) × In (record { get = y; from = z }) (sets f 0)
    pub sets_leave : (f i k y : ℕ) (a : Location) → IsReached (code_of P f) i → LeavesTo (code_of P f) i k → (table f).gets k a ≡ Some y → (z : ℕ) × In (record { get = y; from = z }) (sets f i)

-- An accepted program that is laid out so does what it did, in c + 1 steps for one at most.
abbrev pub LaidRefine : Type 0
LaidRefine = (P Q : Prog) (table : ℕ → Tables) (name : ℕ → ℕ → List ℕ) (gets : ℕ → ℕ → List ℕ) (sets : ℕ → ℕ → List Setting) (c : ℕ) → IsAccepted P → Laid P Q table name gets sets c → Refines P Q (suc c)
