-- A program with one `nop` more before item 0 of each function.
use Rattle.std.specs.Prelude.{◌≡◌, ℕ, suc, ◌+◌, [], ◌∷◌, map, length, Some, slice_get}
use Rattle.bril_tree.specs.declared.function_tree.FuncTree.{FuncTree}
use Rattle.bril_tree.specs.declared.numbered_function.Func.{Func}
use Rattle.bril_tree.specs.declared.program.Prog.{Prog}
use Rattle.bril_tree.specs.declared.tree.Tree.{Tree}
use Rattle.bril_tree.specs.Size.{item_count}
use Rattle.bril_tree.specs.Step.{item_at}
use Rattle.bril_tree.specs.Numbered.{nop_item, nop, tree_at, tree_of}
use Rattle.pass_edit_laws.specs.names.NamedPlan.{SameHeads}

-- ---- by trees

abbrev pub padded_function : FuncTree → FuncTree
padded_function f = record f { code = nop_item ∷ f.code }

abbrev pub padded_tree : Tree → Tree
padded_tree t = record { imports = []; funcs = map padded_function t.funcs }

-- the tree of Q is that of P, padded
abbrev pub IsPadded : Prog → Prog → Type 0
IsPadded P Q = tree_of Q ≡ padded_tree (tree_of P)

-- its items: those of P, and one for each function
abbrev pub padded_size : Prog → ℕ
padded_size P = item_count P + length P.funcs

-- ---- by points

pub record PaddedAt (P Q : Prog) : Type 0 where
  pub heads : SameHeads P Q
  pub first : (f : ℕ) (F : Func) → slice_get P.funcs f ≡ Some F → item_at Q f 0 ≡ Some nop
  pub rest : (f i : ℕ) → tree_at P f i ≡ tree_at Q f (suc i)
