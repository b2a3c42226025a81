use Rattle.bril_grammar.proofs.Whole.{programs_have_no_fault, others_have_one_fault}
use Rattle.bril_grammar.proofs.laws.tree_or_fault.Goals as goal

pub returns : goal.returns
returns c = record { programs = programs_have_no_fault; others = others_have_one_fault }
