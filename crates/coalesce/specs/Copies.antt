-- How many copies a program has: with each round that changes it they become fewer.
use Rattle.std.specs.Prelude.{ℕ, Bool, true, false, List}
use Rattle.std.specs.List.{count_by, sum_by}
use Rattle.bril_tree.specs.declared.function_tree.Item.{Item}
use Rattle.bril_tree.specs.declared.function_tree.Item.TheVariants as item
use Rattle.bril_tree.specs.declared.numbered.Instr.{Instr}
use Rattle.bril_tree.specs.declared.numbered.Instr.TheVariants.{Label, Const, Act}
use Rattle.bril_tree.specs.declared.operation.Op.{Op}
use Rattle.bril_tree.specs.declared.operation.Op.TheVariants as op
use Rattle.bril_tree.specs.declared.tree.Tree.{Tree}

abbrev pub is_copying : Op → Bool
is_copying op.Id = true
is_copying _ = false

-- the item copies, by numbers
abbrev pub is_copy : Instr → Bool
is_copy (Label l) = false
is_copy (Const dest ty value) = false
is_copy (Act dest ty operation args callees targets) = is_copying operation

-- and by names
abbrev pub is_named_copy : Item → Bool
is_named_copy (item.Label name) = false
is_named_copy (item.Const dest ty value) = false
is_named_copy (item.Act dest operation args callees targets) = is_copying operation

-- how many of these items copy
abbrev pub copies_of_code : List Instr → ℕ
copies_of_code code = count_by is_copy code

abbrev pub copies_in : List Item → ℕ
copies_in items = count_by is_named_copy items

abbrev pub copies_of_tree : Tree → ℕ
copies_of_tree tree = sum_by (λ f. copies_in f.code) tree.funcs
