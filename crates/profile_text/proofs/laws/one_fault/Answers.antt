use Rattle.profile_text.proofs.Faults.{faults_are_one}
use Rattle.profile_text.proofs.laws.one_fault.Goals as goal

pub returns : goal.returns
returns c = faults_are_one
