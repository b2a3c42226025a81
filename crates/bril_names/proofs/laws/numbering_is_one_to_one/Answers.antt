use Rattle.bril_names.proofs.Uniqueness.{one_program, one_tree}
use Rattle.bril_names.proofs.laws.numbering_is_one_to_one.Goals as goal

pub returns : goal.returns
returns c = record { program = one_program; tree = one_tree }
