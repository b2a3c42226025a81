use Rattle.bril_grammar.proofs.Terminals.{terminals_are_spelled}
use Rattle.bril_grammar.proofs.laws.terminals_are_spelled.Goals as goal

pub returns : goal.returns
returns c = terminals_are_spelled
