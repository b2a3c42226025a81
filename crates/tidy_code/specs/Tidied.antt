-- A program without its `nop` items and without those that no walk reaches.
use Rattle.std.specs.Prelude.{◌≡◌, ◌⊎◌, ℕ, suc, List, [], ◌∷◌}
use Rattle.std.specs.List.{AllZip}
use Rattle.bril_names.specs.Faults.{SameHead}
use Rattle.bril_tree.specs.declared.function_tree.FuncTree.{FuncTree}
use Rattle.bril_tree.specs.declared.function_tree.Item.{Item}
use Rattle.bril_tree.specs.declared.numbered.Instr.{Instr}
use Rattle.bril_tree.specs.declared.program.Prog.{Prog}
use Rattle.bril_tree.specs.declared.tree.Tree.{Tree}
use Rattle.bril_tree.specs.Numbered.{function_tree, names_of_functions, nop_item, tree_of}
use Rattle.bril_tree.specs.Walk.{IsReached}
use Rattle.pass_edit_laws.specs.numbers.Numbers.{NumbersWithin}

-- the item at the point stays: a walk leads to it, and it is no `nop`
pub record IsStaying (code : List Instr) (point : ℕ) (x : Item) : Type 0 where
  pub reached : IsReached code point
  pub works : x ≡ nop_item → ⊥

-- of the items from a point on, those that stay, in order
abbrev pub AreStaying : List Instr → ℕ → List Item → List Item → Type 0
AreStaying code i [] ys = ys ≡ []
AreStaying code i (x ∷ xs) ys = (IsStaying code i x × ((rest : List Item) × (ys ≡ x ∷ rest) × AreStaying code (suc i) xs rest)) ⊎ ((IsStaying code i x → ⊥) × AreStaying code (suc i) xs ys)

-- a function by names, and what the pass makes of it
pub record IsTidiedFunction (code : List Instr) (f g : FuncTree) : Type 0 where
  pub head : SameHead f g
  pub items : AreStaying code 0 f.code g.code

-- the pass makes this tree of the program
pub record IsTidiedTree (P : Prog) (tree : Tree) : Type 0 where
  pub imports : tree.imports ≡ []
  pub functions : AllZip (λ F g. IsTidiedFunction F.code (function_tree (names_of_functions P.funcs) F) g) P.funcs tree.funcs

-- Q has exactly the reachable items of P other than `nop`, in order. No number of Q is greater than that of P, but that one label
-- more may be entered from a leave point: the one to which a dropped `nop` went on.
pub record IsTidied (P Q : Prog) : Type 0 where
  pub tree : IsTidiedTree P (tree_of Q)
  pub numbers : NumbersWithin P Q 1
