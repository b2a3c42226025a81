-- The functions of a tree with traces.
use Rattle.std.proofs.Common.{List}
use Rattle.std.specs.List.{AllZip}
use Rattle.bril_names.specs.Faults.{SameHead}
use Rattle.bril_tree.specs.declared.program.Prog.{Prog}
use Rattle.bril_tree.specs.declared.tree.Tree.{Tree}
use Rattle.bril_tree.specs.declared.types.Ty.{Ty}
use Rattle.bril_tree.specs.Numbered.{tree_of}
use Rattle.pass_edit_laws.proofs.lemmas.plan.Elements.{zip-by_place}
use Rattle.trace_laws.specs.lines.Traced.{IsLaidTree, Laying}

pub laid-heads : (P : Prog) (bool : Ty) (laid : List Laying) (tree : Tree) → IsLaidTree P bool laid tree → AllZip SameHead (tree_of P).funcs tree.funcs
laid-heads P bool laid tree l = zip-by_place SameHead (tree_of P).funcs tree.funcs l.many (λ i F G p q. (l.functions i F G p q).head)
