-- A program in SSA form (Braun and others, "Simple and Efficient Construction of Static Single Assignment Form", 2013, section 2),
-- as the pass makes it of another.
use Rattle.std.specs.Prelude.{◌≡◌, ◌≢◌, ℕ, ◌⊎◌, All, Bool, true, false, not, List, length, Option, Some, None, slice_get}
use Rattle.std.specs.List.{AllZip, Contains, count_by}
use Rattle.bril_names.specs.Faults.{SameHead, argument_names, labels_of}
use Rattle.bril_tree.specs.declared.function_tree.FuncTree.{FuncTree}
use Rattle.bril_tree.specs.declared.function_tree.Item.{Item}
use Rattle.bril_tree.specs.declared.function_tree.Item.TheVariants as item
use Rattle.bril_tree.specs.declared.numbered.Instr.{Instr}
use Rattle.bril_tree.specs.declared.numbered.Instr.TheVariants.{Label, Const, Act}
use Rattle.bril_tree.specs.declared.operation.Op.TheVariants as op
use Rattle.bril_tree.specs.declared.program.Prog.{Prog}
use Rattle.bril_tree.specs.Numbered.{tree_of}
use Rattle.bril_tree.specs.Step.{code_of, item_at}
use Rattle.bril_tree.specs.Walk.{IsReached}
use Rattle.pass_edit_laws.specs.numbers.Numbers.{NumbersGrow}
use Rattle.ssa_laws.specs.layout.Form.{FollowsLabel, IsGetAt, dest_name}
use Rattle.ssa_laws.specs.layout.Laid.{set_tree}
use Rattle.ssa_form_laws.specs.form.Numbers.{IsSsaBound, ssa_growth}

-- ---- a function

-- the variable that an item assigns
abbrev pub assigned_name : Item → Option (List ℕ)
assigned_name (item.Label name) = None
assigned_name (item.Const dest ty value) = Some dest
assigned_name (item.Act dest o args funcs labels) = dest_name dest

-- the item at a point assigns the variable of this name
abbrev pub Assigns : List Item → ℕ → List ℕ → Type 0
Assigns code i name = (x : Item) × (slice_get code i ≡ Some x) × (assigned_name x ≡ Some name)

-- some `set` gives a variable to the shadow of another
abbrev pub IsSet : List Item → (name from : List ℕ) → Type 0
IsSet code name from = (i : ℕ) × (slice_get code i ≡ Some (set_tree name from))

-- The `set`s of a variable give two that differ from it and from each other, so its `get` isn't trivial.
pub record HasTwoSets (code : List Item) (name : List ℕ) : Type 0 where
  pub first : List ℕ
  pub second : List ℕ
  pub is_first : IsSet code name first
  pub is_second : IsSet code name second
  pub differ : first ≢ second
  pub other_first : first ≢ name
  pub other_second : second ≢ name

-- Each variable has one item that assigns it, or is an argument and has none. Each `get` stands behind a label, with only `get`s
-- between, and none is trivial; and each variable whose shadow a `set` assigns has a `get`.
pub record IsSsaForm (f : FuncTree) : Type 0 where
  pub once : (i j : ℕ) (name : List ℕ) → Assigns f.code i name → Assigns f.code j name → i ≡ j
  pub apart : (i : ℕ) (name : List ℕ) → Assigns f.code i name → Contains (argument_names f) name → ⊥
  pub behind : (i : ℕ) (name : List ℕ) → IsGetAt f.code i name → FollowsLabel f.code i
  pub needed : (i : ℕ) (name : List ℕ) → IsGetAt f.code i name → HasTwoSets f.code name
  pub given : (name from : List ℕ) → IsSet f.code name from → (i : ℕ) × IsGetAt f.code i name

-- the item is a `get` or a `set`
abbrev pub is_get_or_set : Item → Bool
is_get_or_set (item.Label name) = false
is_get_or_set (item.Const dest ty value) = false
is_get_or_set (item.Act dest op.Get args funcs labels) = true
is_get_or_set (item.Act dest op.Set args funcs labels) = true
is_get_or_set (item.Act dest _ args funcs labels) = false

-- how many of these items are neither a `get` nor a `set`
abbrev pub other_items : List Item → ℕ
other_items code = count_by (λ x. not (is_get_or_set x)) code

-- ---- a program

-- the item is a label or a `nop`
abbrev pub IsSilent : Instr → Type 0
IsSilent (Label l) = Unit {0}
IsSilent (Const dest ty value) = ⊥
IsSilent (Act dest ty op.Nop args funcs labels) = Unit {0}
IsSilent (Act dest ty _ args funcs labels) = ⊥

-- Q is in SSA form, with the heads and labels of P. Beside `get`s and `set`s each function has as many items as that of P has in all.
-- What no walk reaches is a label or a `nop`, and the numbers grow by no more than the bound on items allows.
pub record IsSsa (P Q : Prog) : Type 0 where
  pub heads : AllZip SameHead (tree_of P).funcs (tree_of Q).funcs
  pub labels : AllZip (λ f g. labels_of f.code ≡ labels_of g.code) (tree_of P).funcs (tree_of Q).funcs
  pub items : AllZip (λ f g. other_items g.code ≡ length f.code) (tree_of P).funcs (tree_of Q).funcs
  pub form : All IsSsaForm (tree_of Q).funcs
  pub silent : (f i : ℕ) (item : Instr) → item_at Q f i ≡ Some item → IsSilent item ⊎ IsReached (code_of Q f) i
  pub numbers : (bound : ℕ) → IsSsaBound P bound → NumbersGrow P Q (ssa_growth bound)
