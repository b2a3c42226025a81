use Rattle.bril_tree.proofs.Sizes.{functions_numbered, items_numbered, items_bounded}
use Rattle.bril_tree.proofs.Trees.{tree_of-numbered, numbered-tree_of}
use Rattle.bril_tree.proofs.laws.programs_have_one_tree.Goals as goal

pub returns-clause-tree : goal.returns-clause-tree
returns-clause-tree c = tree_of-numbered

pub returns-clause-one : goal.returns-clause-one
returns-clause-one c = numbered-tree_of

pub returns-clause-counts : goal.returns-clause-counts
returns-clause-counts c = λ tree p of_p. (functions_numbered tree p of_p, items_numbered tree p of_p)

pub returns-clause-bounds : goal.returns-clause-bounds
returns-clause-bounds c = items_bounded
