use Rattle.bril_names.proofs.Uniqueness.{one_fault, never_both, either}
use Rattle.bril_names.proofs.laws.program_or_fault.Goals as goal

pub returns : goal.returns
returns c = record { one = one_fault; never_both = never_both; either = either }
