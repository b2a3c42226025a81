-- Functions with the same heads, by their trees.
use Rattle.std.specs.List.{AllZip}
use Rattle.bril_tree.specs.declared.program.Prog.{Prog}
use Rattle.bril_tree.specs.Numbered.{tree_of}
use Rattle.bril_tree.proofs.Trees.{function_at}
use Rattle.bril_tree.proofs.Elements.{zip-get}
use Rattle.bril_names.specs.Faults.{SameHead}
use Rattle.bril_names.proofs.Edits.{names-of_heads}
use Rattle.pass_edit_laws.specs.names.NamedPlan.{SameHeads}

pub heads-of_trees : (P Q : Prog) → AllZip SameHead (tree_of P).funcs (tree_of Q).funcs → SameHeads P Q
heads-of_trees P Q z = record {
  names = names-of_heads P Q z;
  args = λ f F G p q. (zip-get SameHead (tree_of P).funcs (tree_of Q).funcs f _ _ z (function_at P f F p) (function_at Q f G q)).args;
  ret = λ f F G p q. (zip-get SameHead (tree_of P).funcs (tree_of Q).funcs f _ _ z (function_at P f F p) (function_at Q f G q)).ret;
}
