-- What follows of the lines alone.
use Rattle.std.specs.Prelude.{◌≡◌, ℕ, ◌≤◌, List, [], ◌∷◌}
use Rattle.std.specs.List.{AllZip}
use Rattle.bril_names.specs.Faults.{IsSoundEdit, function_names}
use Rattle.bril_profile.specs.declared.profile.Profile.{Profile}
use Rattle.bril_tree.specs.declared.function_tree.Item.{Item}
use Rattle.bril_tree.specs.declared.function_tree.Item.TheVariants as item
use Rattle.bril_tree.specs.declared.operation.Op.TheVariants as op
use Rattle.bril_tree.specs.declared.program.Prog.{Prog}
use Rattle.bril_tree.specs.declared.tree.Tree.{Tree}
use Rattle.bril_tree.specs.Numbered.{tree_of, tree_size}
use Rattle.trace_laws.specs.lines.Bound.{bound_with}
use Rattle.trace_laws.specs.lines.Traced.{IsTracedTree}

-- ---- quiet lines

-- The item prints, stores, takes and frees nothing, and calls and leaves no function. It is no label, goes to none but by a guard to
-- the label of this name, and neither begins nor ends a speculation.
abbrev pub IsQuiet : (bail : List ℕ) → Item → Type 0
IsQuiet bail (item.Label l) = ⊥
IsQuiet bail (item.Const d ty v) = Unit {0}
IsQuiet bail (item.Act d op.Print args funcs labels) = ⊥
IsQuiet bail (item.Act d op.Store args funcs labels) = ⊥
IsQuiet bail (item.Act d op.Alloc args funcs labels) = ⊥
IsQuiet bail (item.Act d op.Free args funcs labels) = ⊥
IsQuiet bail (item.Act d op.Call args funcs labels) = ⊥
IsQuiet bail (item.Act d op.Ret args funcs labels) = ⊥
IsQuiet bail (item.Act d op.Speculate args funcs labels) = ⊥
IsQuiet bail (item.Act d op.Commit args funcs labels) = ⊥
IsQuiet bail (item.Act d op.Jmp args funcs labels) = ⊥
IsQuiet bail (item.Act d op.Br args funcs labels) = ⊥
IsQuiet bail (item.Act d op.Guard args funcs labels) = labels ≡ bail ∷ []
IsQuiet bail (item.Act d _ args funcs labels) = Unit {0}

-- ---- trees

-- A tree with traces can be numbered, and has no more items than its bound.
pub record IsWellLaid (P : Prog) (profile : Profile) (tree : Tree) (made : IsTracedTree P profile tree) : Type 0 where
  pub names : AllZip (IsSoundEdit (function_names (tree_of P))) (tree_of P).funcs tree.funcs
  pub within : tree_size tree ≤ bound_with P made.fits

abbrev pub TracesAreWellLaid : Type 0
TracesAreWellLaid = (P : Prog) (profile : Profile) (tree : Tree) → (made : IsTracedTree P profile tree) → IsWellLaid P profile tree made
