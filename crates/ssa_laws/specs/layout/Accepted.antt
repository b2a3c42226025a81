-- What is asked of laid code, beside its layout, so that it is accepted.
use Rattle.std.specs.Prelude.{◌≡◌, ◌⊎◌, ℕ, suc, ◌+◌, ◌<◌, false, List, [], length, Option, Some, slice_get}
use Rattle.bril_tree.specs.declared.function_tree.Item.TheVariants as item
use Rattle.bril_tree.specs.declared.numbered.Instr.{Instr}
use Rattle.bril_tree.specs.declared.numbered.Instr.TheVariants.{Label, Const, Act}
use Rattle.bril_tree.specs.declared.numbered_function.Func.{Func}
use Rattle.bril_tree.specs.declared.program.Prog.{Prog}
use Rattle.bril_tree.specs.declared.types.Ty.{Ty}
use Rattle.bril_tree.specs.Accepted.{IsAccepted}
use Rattle.bril_tree.specs.Membership.{In}
use Rattle.bril_tree.specs.Numbered.{named, names_in, nop_item, tree_at}
use Rattle.bril_tree.specs.Operand.{Location, Variable, dest_of}
use Rattle.bril_tree.specs.Step.{code_of, item_at}
use Rattle.bril_tree.specs.Typing.{variable_type}
use Rattle.bril_tree.specs.Walk.{IsReached}
use Rattle.bril_tree.proofs.Typings.{IsDestination, type_of}
use Rattle.ssa_laws.specs.inserted_copies.Inserted.{is_copy}
use Rattle.ssa_laws.specs.layout.Laid.{Laid, Setting, first, get_tree, home}
use Rattle.ssa_laws.specs.reaching_definitions.Tables.{Tables}

-- ---- walks

-- what is asked of the tables of a function, so that each `set` reads what every walk has assigned
pub record Tight (P : Prog) (table : ℕ → Tables) (sets : ℕ → ℕ → List Setting) (f : ℕ) : Type 0 where
  -- only reachable labels have `get`s, and where there is one the location has a definition behind the label too
  pub reached : (k y : ℕ) (a : Location) → (table f).gets k a ≡ Some y → IsReached (code_of P f) k
  pub goes : (k y : ℕ) (a : Location) → (table f).gets k a ≡ Some y → (z : ℕ) × (((table f).into (suc k) a ≡ Some z) ⊎ ((table f).gets (suc k) a ≡ Some z))
  -- before an item each `get` is set once
  pub alone : (i : ℕ) (s u : Setting) → In s (sets f i) → In u (sets f i) → s.get ≡ u.get → s.from ≡ u.from

-- ---- items

-- the variables that an item names
abbrev pub args_named : Instr → List ℕ
args_named (Label l) = []
args_named (Const d ty v) = []
args_named (Act d ty o args fns ls) = args

-- `types` has the type of each definition.
module _ (P Q : Prog) (table : ℕ → Tables) (name : ℕ → ℕ → List ℕ) (gets : ℕ → ℕ → List ℕ) (sets : ℕ → ℕ → List Setting) (f : ℕ) where
  -- the variables of the result that have a definition's name are arguments or destinations
  abbrev pub IsGiven : Func → ℕ → Type 0
  IsGiven G y = (v : ℕ) → (v < length (names_in (slice_get Q.funcs f))) × (named (names_in (slice_get Q.funcs f)) v ≡ name f y) → (v < G.args) ⊎ IsDestination G.code v

  -- which point of P, or which `get` or `set`, a point of the result stands for
  pub data Cover (j : ℕ) : Type 0 where
    Home : (i : ℕ) → IsReached (code_of P f) i → j ≡ home P Q table name gets sets f i → Cover j
    Get : (i k y : ℕ) → IsReached (code_of P f) i → slice_get (gets f i) k ≡ Some y → j ≡ first P Q table name gets sets f i + k → Cover j
    Set : (i k : ℕ) (s : Setting) → IsReached (code_of P f) i → slice_get (sets f i) k ≡ Some s → j ≡ first P Q table name gets sets f i + length (gets f i) + k → Cover j
    Dead : tree_at Q f j ≡ Some nop_item → Cover j
    Unreached : (l : List ℕ) → tree_at Q f j ≡ Some (item.Label l) → Cover j

  -- all points, and the types of what stands there
  pub record Covers (F G : Func) (types : ℕ → Option Ty) : Type 0 where
    pub covers : (j : ℕ) (b : Instr) → item_at Q f j ≡ Some b → Cover j
    -- types
    pub argued : (v y : ℕ) → v < G.args → (v < length (names_in (slice_get Q.funcs f))) × (named (names_in (slice_get Q.funcs f)) v ≡ name f y) → variable_type G.vars v ≡ types y
    pub arg_typed : (i x y : ℕ) (a : Instr) → IsReached (code_of P f) i → item_at P f i ≡ Some a → is_copy (Some a) ≡ false → In x (args_named a) → (table f).into i (Variable x) ≡ Some y → types y ≡ variable_type F.vars x
    pub dest_typed : (i x : ℕ) (a : Instr) → IsReached (code_of P f) i → item_at P f i ≡ Some a → is_copy (Some a) ≡ false → dest_of a ≡ Some x → (types ((table f).writes i) ≡ type_of a) × (types ((table f).writes i) ≡ variable_type F.vars x)
    pub got_typed : (i k y : ℕ) (ty : Ty) → IsReached (code_of P f) i → slice_get (gets f i) k ≡ Some y → tree_at Q f (first P Q table name gets sets f i + k) ≡ Some (get_tree (name f y) ty) → types y ≡ Some ty
    pub set_typed : (i k : ℕ) (s : Setting) → IsReached (code_of P f) i → slice_get (sets f i) k ≡ Some s → (ty : Ty) × (types s.get ≡ Some ty) × (types s.from ≡ Some ty)
    pub set_given : (i k : ℕ) (s : Setting) → IsReached (code_of P f) i → slice_get (sets f i) k ≡ Some s → IsGiven G s.get × IsGiven G s.from

-- what is asked of a function and of its result
pub record Covered (P Q : Prog) (table : ℕ → Tables) (name : ℕ → ℕ → List ℕ) (gets : ℕ → ℕ → List ℕ) (sets : ℕ → ℕ → List Setting) (f : ℕ) (F G : Func) : Type 0 where
  pub types : ℕ → Option Ty
  pub covers : Covers P Q table name gets sets f F G types
  pub tight : Tight P table sets f

-- Where each point of laid code is a renamed item, a `get`, a `set`, a `nop` or a label, and each definition has its type, the
-- result of an accepted program is accepted.
abbrev pub LaidAccepted : Type 0
LaidAccepted = (P Q : Prog) (table : ℕ → Tables) (name : ℕ → ℕ → List ℕ) (gets : ℕ → ℕ → List ℕ) (sets : ℕ → ℕ → List Setting) (c : ℕ) → IsAccepted P → Laid P Q table name gets sets c
    → ((f : ℕ) (F G : Func) → slice_get P.funcs f ≡ Some F → slice_get Q.funcs f ≡ Some G → Covered P Q table name gets sets f F G) → IsAccepted Q
