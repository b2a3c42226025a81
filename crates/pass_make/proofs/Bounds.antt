-- What `check` asks of the numbering of a tree that a pass made: so many functions.
use Rattle.std.proofs.Common.{◌<◌, length, arith}
use Rattle.std.proofs.lemmas.List.{length-map}
use Rattle.bril_tree.specs.declared.program.Prog.{Prog}
use Rattle.bril_tree.specs.declared.tree.Tree.{Tree}
use Rattle.bril_tree.specs.Numbered.{tree_of, Numbered, function_tree, names_of_functions}
use Rattle.bril_tree.specs.Size.{IsCounted}
use Rattle.bril_tree.proofs.Elements.{zip-long}
use Rattle.bril_tree.proofs.Sizes.{functions_numbered}
use Rattle.bril_names.specs.Faults.{function_names, IsSoundEdit}
use Rattle.pass_make.specs.CanBeMade.{CanBeMade}

-- a made tree has as many functions as the program that it is made of
pub functions_bounded : (P : Prog) (t : Tree) (q : Prog) → CanBeMade P t → Numbered t q → IsCounted P → length q.funcs < 4294967296
functions_bounded P t q made of_q c =
    let many = zip-long (IsSoundEdit (function_names (tree_of P))) (tree_of P).funcs t.funcs made.names in
    let old = length-map P.funcs (function_tree (names_of_functions P.funcs)) in
    let new = functions_numbered t q of_q in
    let n = c.functions in
    omega arith
