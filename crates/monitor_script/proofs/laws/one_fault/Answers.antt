use Rattle.monitor_script.proofs.Faults.{faults_are_one}
use Rattle.monitor_script.proofs.laws.one_fault.Goals as goal

pub returns : goal.returns
returns c = faults_are_one
