-- What a pass proves of the tree that it made, so that it becomes a checked program.
use Rattle.std.specs.Prelude.{◌≡◌, ◌<◌, [], length, All}
use Rattle.std.specs.List.{AllZip}
use Rattle.bril_tree.specs.declared.program.Prog.{Prog}
use Rattle.bril_tree.specs.declared.tree.Tree.{Tree}
use Rattle.bril_tree.specs.Accepted.{IsAccepted}
use Rattle.bril_tree.specs.Numbered.{Numbered, tree_of}
use Rattle.bril_names.specs.Faults.{function_names, IsSoundEdit}

-- the tree can be numbered, and what is numbered so is accepted
pub record CanBeMade (P : Prog) (tree : Tree) : Type 0 where
  pub imports : tree.imports ≡ []
  pub names : AllZip (IsSoundEdit (function_names (tree_of P))) (tree_of P).funcs tree.funcs
  pub accepted : (Q : Prog) → Numbered tree Q → IsAccepted Q
  pub items : All (λ f. length f.code < 4294967295) tree.funcs
