-- What laid code asks of one function, over its tables.
use Rattle.std.proofs.Common.{◌≡◌, ◌⊎◌, ℕ, suc, ◌+◌, ◌<◌, true, false, List, [], length, Option, Some, None}
use Rattle.std.specs.Prelude.{slice_get}
use Rattle.bril_tree.specs.declared.function_tree.Item.TheVariants as item
use Rattle.bril_tree.specs.declared.numbered.Instr.{Instr}
use Rattle.bril_tree.specs.declared.numbered_function.Func.{Func}
use Rattle.bril_tree.specs.declared.program.Prog.{Prog}
use Rattle.bril_tree.specs.declared.types.Ty.{Ty}
use Rattle.bril_tree.specs.Edge.{branches_at, onward}
use Rattle.bril_tree.specs.Membership.{In}
use Rattle.bril_tree.specs.Numbered.{named, names_in, names_of_functions, nop_item, tree_at}
use Rattle.bril_tree.specs.Operand.{Location, Shadow, Variable, dest_of, reads_of}
use Rattle.bril_tree.specs.Step.{items_of}
use Rattle.bril_tree.specs.Typing.{variable_type}
use Rattle.bril_tree.specs.Walk.{IsReached}
use Rattle.bril_tree.proofs.Typings.{type_of}
use Rattle.ssa_laws.specs.inserted_copies.Inserted.{is_copy, is_jump, renamed_point}
use Rattle.ssa_laws.specs.layout.Accepted.{args_named}
use Rattle.ssa_laws.specs.layout.Laid.{LeavesTo, Setting, args_in, first, get_tree, home, set_tree}
use Rattle.ssa_laws.specs.reaching_definitions.Tables.{AreConsistent, behind}
use Rattle.ssa_form_laws.specs.laid.Tables.{FunctionTables}

-- `o` is the function of the number f in P, where there is one.
module _ (P Q : Prog) (f : ℕ) (o : Option Func) (T : FunctionTables) where
  abbrev pub code_in : List Instr
  code_in = items_of o

  abbrev pub home_in : ℕ → ℕ
  home_in i = home P Q (λ _. T.table) (λ _. T.name) (λ _. T.gets) (λ _. T.sets) f i

  abbrev pub first_in : ℕ → ℕ
  first_in i = first P Q (λ _. T.table) (λ _. T.name) (λ _. T.gets) (λ _. T.sets) f i

  -- the location is an argument, and the definition has its name
  abbrev pub BeginsAt : Location → ℕ → Type 0
  BeginsAt (Variable x) y = (x < length (names_in o)) × (named (names_in o) x ≡ T.name y) × (x < args_in o)
  BeginsAt (Shadow x) y = ⊥

  abbrev pub name_or_none : Option ℕ → List ℕ
  name_or_none None = []
  name_or_none (Some y) = T.name y

  -- why a `set` stands before item i
  pub data SetAt (i : ℕ) (s : Setting) : Type 0 where
    StartedAt : (a : Location) → i ≡ 0 → T.table.gets 0 a ≡ Some s.get → BeginsAt a s.from → SetAt i s
    FallenAt : (a : Location) (p : ℕ) → i ≡ suc p → IsReached code_in p → T.table.gets (suc p) a ≡ Some s.get → behind code_in T.table p a ≡ Some s.from → SetAt i s
    LeftAt : (a : Location) (k : ℕ) → IsReached code_in i → LeavesTo code_in i k → T.table.gets k a ≡ Some s.get → T.table.into i a ≡ Some s.from → SetAt i s

  -- the tables of the function are those of laid code
  pub record IsLaidAt : Type 0 where
    pub injective : (y z : ℕ) → T.name y ≡ T.name z → y ≡ z
    pub consistent : AreConsistent code_in T.table (λ y. (a : Location) × BeginsAt a y)
    pub begin : (a : Location) (y : ℕ) → T.table.into 0 a ≡ Some y → BeginsAt a y
    -- items
    pub same : (i : ℕ) → IsReached code_in i → is_copy (slice_get code_in i) ≡ false → renamed_point (names_of_functions P.funcs) (λ x. name_or_none (T.table.into i (Variable x))) (T.name (T.table.writes i)) o i ≡ tree_at Q f (home_in i)
    pub gone : (i : ℕ) → IsReached code_in i → is_copy (slice_get code_in i) ≡ true → tree_at Q f (home_in i) ≡ Some nop_item
    pub read : (i x : ℕ) (item : Instr) → IsReached code_in i → slice_get code_in i ≡ Some item → is_copy (Some item) ≡ false → In (Variable x) (reads_of item) → (y : ℕ) × (T.table.into i (Variable x) ≡ Some y)
    -- `get`s
    pub got : (i t y : ℕ) → IsReached code_in i → slice_get (T.gets i) t ≡ Some y → (ty : Ty) × (tree_at Q f (first_in i + t) ≡ Some (get_tree (T.name y) ty))
    pub no_gets : T.gets 0 ≡ []
    pub gets_are : (i y : ℕ) → In y (T.gets (suc i)) → (a : Location) × (T.table.gets i a ≡ Some y)
    pub gets_all : (i y : ℕ) (a : Location) → T.table.gets i a ≡ Some y → In y (T.gets (suc i))
    -- `set`s
    pub put : (i t : ℕ) (s : Setting) → IsReached code_in i → slice_get (T.sets i) t ≡ Some s → tree_at Q f (first_in i + length (T.gets i) + t) ≡ Some (set_tree (T.name s.get) (T.name s.from))
    pub sets_are : (i : ℕ) (s : Setting) → IsReached code_in i → In s (T.sets i) → SetAt i s
    pub sets_fall : (i y : ℕ) (a : Location) → IsReached code_in i → is_jump (slice_get code_in i) ≡ false → In (onward i) (branches_at code_in i) → T.table.gets (suc i) a ≡ Some y → (z : ℕ) × In (record { get = y; from = z }) (T.sets (suc i))
    pub sets_start : (y : ℕ) (a : Location) → T.table.gets 0 a ≡ Some y → (z : ℕ) × In (record { get = y; from = z }) (T.sets 0)
    pub sets_leave : (i k y : ℕ) (a : Location) → IsReached code_in i → LeavesTo code_in i k → T.table.gets k a ≡ Some y → (z : ℕ) × In (record { get = y; from = z }) (T.sets i)

  -- only reachable labels have `get`s, what is got is still told behind it, and before an item each `get` is set once
  pub record IsTightAt : Type 0 where
    pub reached : (k y : ℕ) (a : Location) → T.table.gets k a ≡ Some y → IsReached code_in k
    pub goes : (k y : ℕ) (a : Location) → T.table.gets k a ≡ Some y → (z : ℕ) × ((T.table.into (suc k) a ≡ Some z) ⊎ (T.table.gets (suc k) a ≡ Some z))
    pub alone : (i : ℕ) (s u : Setting) → In s (T.sets i) → In u (T.sets i) → s.get ≡ u.get → s.from ≡ u.from

  -- which point of the function, or which `get` or `set`, a point of the result stands for
  pub data CoverAt (j : ℕ) : Type 0 where
    HomeAt : (i : ℕ) → IsReached code_in i → j ≡ home_in i → CoverAt j
    GetAt : (i k y : ℕ) → IsReached code_in i → slice_get (T.gets i) k ≡ Some y → j ≡ first_in i + k → CoverAt j
    PutAt : (i k : ℕ) (s : Setting) → IsReached code_in i → slice_get (T.sets i) k ≡ Some s → j ≡ first_in i + length (T.gets i) + k → CoverAt j
    DeadAt : tree_at Q f j ≡ Some nop_item → CoverAt j
    UnreachedAt : (name : List ℕ) → tree_at Q f j ≡ Some (item.Label name) → CoverAt j

-- what acceptance asks besides of a function, where its definitions have these types
pub record IsCoveredAt (P Q : Prog) (f : ℕ) (F G : Func) (T : FunctionTables) (types : ℕ → Option Ty) : Type 0 where
  pub covers : (j : ℕ) (b : Instr) → slice_get G.code j ≡ Some b → CoverAt P Q f (Some F) T j
  pub argued : (v y : ℕ) → v < G.args → (v < length (names_in (Some G))) × (named (names_in (Some G)) v ≡ T.name y) → variable_type G.vars v ≡ types y
  pub arg_typed : (i x y : ℕ) (a : Instr) → IsReached F.code i → slice_get F.code i ≡ Some a → is_copy (Some a) ≡ false → In x (args_named a) → T.table.into i (Variable x) ≡ Some y → types y ≡ variable_type F.vars x
  pub dest_typed : (i x : ℕ) (a : Instr) → IsReached F.code i → slice_get F.code i ≡ Some a → is_copy (Some a) ≡ false → dest_of a ≡ Some x → (types (T.table.writes i) ≡ type_of a) × (types (T.table.writes i) ≡ variable_type F.vars x)
  pub got_typed : (i k y : ℕ) (ty : Ty) → IsReached F.code i → slice_get (T.gets i) k ≡ Some y → tree_at Q f (first_in P Q f (Some F) T i + k) ≡ Some (get_tree (T.name y) ty) → types y ≡ Some ty
  pub set_typed : (i k : ℕ) (s : Setting) → IsReached F.code i → slice_get (T.sets i) k ≡ Some s → (ty : Ty) × (types s.get ≡ Some ty) × (types s.from ≡ Some ty)
