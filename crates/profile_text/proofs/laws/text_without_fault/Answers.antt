use Rattle.profile_text.proofs.Faults.{texts_have_no_fault}
use Rattle.profile_text.proofs.laws.text_without_fault.Goals as goal

pub returns : goal.returns
returns c = texts_have_no_fault
