-- A program in which each shadow is a variable of its own: each `get` and `set` became a copy.
use Rattle.std.specs.Prelude.{◌≡◌, ℕ, Bool, true, false, ◌==◌, List, [], ◌∷◌, map, Option, Some, None, slice_get, slice_index, if◌then◌else◌}
use Rattle.std.specs.List.{AllZip, list_any}
use Rattle.bril_tree.specs.declared.function_tree.FuncTree.{FuncTree}
use Rattle.bril_tree.specs.declared.function_tree.Item.{Item}
use Rattle.bril_tree.specs.declared.function_tree.Item.TheVariants as item
use Rattle.bril_tree.specs.declared.numbered.Instr.{Instr}
use Rattle.bril_tree.specs.declared.numbered.Instr.TheVariants.{Label, Const, Act}
use Rattle.bril_tree.specs.declared.numbered_function.Func.{Func}
use Rattle.bril_tree.specs.declared.operation.Op.TheVariants as op
use Rattle.bril_tree.specs.declared.program.Prog.{Prog}
use Rattle.bril_tree.specs.declared.tree.Tree.{Tree}
use Rattle.bril_tree.specs.declared.types.Ty.{Ty}
use Rattle.bril_tree.specs.Numbered.{function_tree, item_tree, named, names_of_functions, nop_item, tree_of, typed_name, variable_names}
use Rattle.bril_tree.specs.Step.{item_at}
use Rattle.bril_tree.specs.Typing.{variable_type}
use Rattle.pass_edit_laws.specs.numbers.Numbers.{NumbersWithin}
use Rattle.ssa_exit.specs.Fresh.{AreFresh, count_beginning, shadow_names}

-- ---- shadows

-- the item is a `get` or a `set`
abbrev pub names_a_shadow : Option Instr → Bool
names_a_shadow None = false
names_a_shadow (Some (Label l)) = false
names_a_shadow (Some (Const dest ty value)) = false
names_a_shadow (Some (Act dest ty op.Get args funcs labels)) = true
names_a_shadow (Some (Act dest ty op.Set args funcs labels)) = true
names_a_shadow (Some (Act dest ty _ args funcs labels)) = false

-- the item is a `set` of the shadow of the variable
abbrev pub writes_shadow : ℕ → Instr → Bool
writes_shadow x (Label l) = false
writes_shadow x (Const dest ty value) = false
writes_shadow x (Act dest ty op.Set args funcs labels) = x == slice_index args 0
writes_shadow x (Act dest ty _ args funcs labels) = false

-- some `set` writes the shadow of the variable
abbrev pub is_written : List Instr → ℕ → Bool
is_written code x = list_any (writes_shadow x) code

-- ---- items

-- a copy
abbrev pub copy_item : List ℕ → Ty → List ℕ → Item
copy_item to ty from = item.Act (Some (typed_name to ty)) op.Id (from ∷ []) [] []

-- a variable that gets some value
abbrev pub undef_item : List ℕ → Ty → Item
undef_item to ty = item.Act (Some (typed_name to ty)) op.Undef [] [] []

-- `fresh x` is the name of the variable that stands for the shadow of x
module _ (F : Func) (fresh : ℕ → List ℕ) where
  -- what stands in place of a `get` of x: a copy of what stands for the shadow, or, where no `set` writes that, some value
  abbrev pub got_item : (x : ℕ) → Ty → Item
  got_item x ty = if is_written F.code x then copy_item (named (variable_names F.vars) x) ty (fresh x) else undef_item (named (variable_names F.vars) x) ty

  -- the same by its destination, which every `get` of an accepted program has
  abbrev pub get_item : Option ℕ → Option Ty → Item → Item
  get_item (Some x) (Some ty) i = got_item x ty
  get_item (Some x) None i = i
  get_item None ty i = i

  -- what stands in place of a `set` of the shadow of x to y: a copy to what stands for it, or nothing where x has no type
  abbrev pub set_item : Option Ty → (x y : ℕ) → Item
  set_item None x y = nop_item
  set_item (Some ty) x y = copy_item (fresh x) ty (named (variable_names F.vars) y)

  -- what stands in place of an item, which has this tree
  abbrev pub left_item : Instr → Item → Item
  left_item (Label l) i = i
  left_item (Const dest ty value) i = i
  left_item (Act dest ty op.Get args funcs labels) i = get_item dest ty i
  left_item (Act dest ty op.Set args funcs labels) i = set_item (variable_type F.vars (slice_index args 0)) (slice_index args 0) (slice_index args 1)
  left_item (Act dest ty _ args funcs labels) i = i

  -- that of the item at a point, which has this tree
  abbrev pub IsLeftAt : (point : ℕ) → Item → Item → Type 0
  IsLeftAt point i made = (a : Instr) × (slice_get F.code point ≡ Some a) × (made ≡ left_item a i)

  -- what stands in place of each item
  abbrev pub left_items : List Instr → List Item → List Item
  left_items [] is = []
  left_items (a ∷ code) [] = []
  left_items (a ∷ code) (i ∷ is) = left_item a i ∷ left_items code is

-- ---- functions and programs

-- the tree of a function of the program, whose shadows have become variables of these names
abbrev pub unssaed_function : Prog → Func → (ℕ → List ℕ) → FuncTree
unssaed_function P F fresh =
    record (function_tree (names_of_functions P.funcs) F) { code = map (λ a. left_item F fresh a (item_tree (names_of_functions P.funcs) (variable_names F.vars) F.labels a)) F.code }

-- a function, and what the pass makes of it
pub record IsUnssaedFunction (P : Prog) (F : Func) (g : FuncTree) : Type 0 where
  pub fresh : ℕ → List ℕ
  pub are : AreFresh (variable_names F.vars) fresh
  pub tree : g ≡ unssaed_function P F fresh

-- the same of a function's tree, by a stem with which no variable's name begins
pub record IsLeftFunction (F : Func) (function made : FuncTree) : Type 0 where
  pub stem : List ℕ
  pub free : count_beginning stem F.vars ≡ 0
  pub tree : made ≡ record function { code = left_items F (shadow_names stem F.vars) F.code function.code }

-- the pass makes this tree of the program
pub record IsUnssaedTree (P : Prog) (tree : Tree) : Type 0 where
  pub imports : tree.imports ≡ []
  pub functions : AllZip (IsUnssaedFunction P) P.funcs tree.funcs

-- In Q the shadows of P are variables of fresh names, and no `get` and no `set` is left; all else is as in P. No number of Q is
-- greater than that of P.
pub record IsUnssaed (P Q : Prog) : Type 0 where
  pub tree : IsUnssaedTree P (tree_of Q)
  pub no_shadow : (f point : ℕ) → names_a_shadow (item_at Q f point) ≡ false
  pub numbers : NumbersWithin P Q 0
