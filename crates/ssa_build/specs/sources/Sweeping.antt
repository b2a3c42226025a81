-- The operands that a sweep over the items of a function finds, by where edges leave.
use Rattle.std.specs.Prelude.{◌≡◌, ◌⊎◌, length, ℕ, zero, suc, ◌+◌, ◌-◌, ◌^◌, ◌<◌, List, Option, Some, None, is_some, slice_index}
use Rattle.std.specs.List.{Contains}
use Rattle.bril_tree.specs.declared.numbered.Instr.{Instr}
use Rattle.bril_tree.specs.declared.numbered_function.Func.{Func}
use Rattle.bril_tree.specs.Operand.{Location}
use Rattle.bril_tree.specs.Shape.{shape_fault_of}
use Rattle.bril_tree.specs.Sites.{AreSitesSound}
use Rattle.ssa_search.specs.declared.accesses.entries.Entry.{Entry}
use Rattle.ssa_search.specs.accesses.Entries.{AreEntriesOf, EntersAt}
use Rattle.ssa_build.specs.declared.trivial_phis.operands.Operand.{Operand}
use Rattle.ssa_search.specs.gets.Wants.{AreWantsOf, WantsView, gets_of, row_of}
use Rattle.ssa_build.specs.operands.Operands.{base_of}
use Rattle.ssa_search.specs.declared.renaming.now.WantedGet.{WantedGet}
use Rattle.ssa_laws.specs.reaching_definitions.Laws.{IsTabled}
use Rattle.ssa_laws.specs.reaching_definitions.Tables.{behind}
use Rattle.ssa_laws.specs.reaching_definitions.Told.{argument, table_of}

-- The items of a function are in form, and these are the `get`s that it wants.
pub record IsSweepable (F : Func) (v : WantsView) : Type 0 where
  pub shaped : shape_fault_of (is_some F.ret) F.code ≡ None
  pub few : length F.code < 2 ^ 32 - 1
  pub sound : AreSitesSound F.code
  pub wants : AreWantsOf F v
  pub tabled : IsTabled F.code F.args (gets_of v)

-- the start of the function comes first, and then its points
abbrev pub key_of : Option ℕ → ℕ
key_of None = 0
key_of (Some p) = suc p

abbrev pub leave_at : ℕ → Option ℕ
leave_at zero = None
leave_at (suc p) = Some p

abbrev pub entry_key : Entry → ℕ
entry_key entry = key_of entry.leave

-- the operand that a `get` has from an array of definitions
abbrev pub operand_of : ℕ → List ℕ → WantedGet → Operand
operand_of base now get = record { get = get.definition - base; from = slice_index now get.location }

module _ (code : List Instr) (args : ℕ) (gets : ℕ → Location → Option ℕ) where
  -- the definition of a location where edges leave
  abbrev pub told_at : ℕ → Location → Option ℕ
  told_at zero a = argument args a
  told_at (suc p) a = behind code (table_of code args gets) p a

  -- an edge that leaves there goes to a label whose `get` it sets from the definition
  pub record IsSetAt (key t z : ℕ) : Type 0 where
    pub label : ℕ
    pub location : Location
    pub enters : EntersAt code (leave_at key) label
    pub get : gets label location ≡ Some (base_of code args + t)
    pub told : told_at key location ≡ Some z

  -- the operands of all edges that leave before a bound
  pub record AreOperandsBefore (bound : ℕ) (list : List Operand) : Type 0 where
    pub there : (key t z : ℕ) → key < bound → IsSetAt key t z → Contains list (record { get = t; from = z })
    pub only : (o : Operand) → Contains list o → (key : ℕ) × (key < bound) × IsSetAt key o.get o.from

-- ---- one place of the sweep

-- an operand that some entry with this key gives to a `get` of its label
pub record IsGiven (entries : List Entry) (wants : WantsView) (now : List ℕ) (base key : ℕ) (o : Operand) : Type 0 where
  pub entry : Entry
  pub listed : Contains entries entry
  pub leaves : entry_key entry ≡ key
  pub get : WantedGet
  pub behind_label : Contains (row_of wants entry.label) get
  pub is : o ≡ operand_of base now get

-- the operands of all these were added
pub record AddsRow (entries : List Entry) (wants : WantsView) (now : List ℕ) (base key : ℕ) (old new : List Operand) : Type 0 where
  pub kept : (o : Operand) → Contains old o → Contains new o
  pub there : (o : Operand) → IsGiven entries wants now base key o → Contains new o
  pub only : (o : Operand) → Contains new o → Contains old o ⊎ IsGiven entries wants now base key o

-- the entries of a function, and the bounds of what the sweep counts
pub record AreEdgesOf (code : List Instr) (args : ℕ) (list : List Entry) (count base_number : ℕ) : Type 0 where
  pub entries : AreEntriesOf code list
  pub keys : count ≡ suc (length code)
  pub base : base_number ≡ base_of code args
