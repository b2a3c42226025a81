use Rattle.bril_grammar.proofs.Whole.{read_fault_is_first, first_fault_is_read}
use Rattle.bril_grammar.proofs.laws.first_fault_is_read.Goals as goal

pub returns : goal.returns
returns c = record { first = read_fault_is_first; only = first_fault_is_read }
