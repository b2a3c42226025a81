use Rattle.bril_grammar.proofs.Whole.{spell_one_tree}
use Rattle.bril_grammar.proofs.laws.one_tree.Goals as goal

pub returns : goal.returns
returns c = spell_one_tree
