use Rattle.monitor_script.proofs.Faults.{scripts_have_no_fault}
use Rattle.monitor_script.proofs.laws.script_without_fault.Goals as goal

pub returns : goal.returns
returns c = scripts_have_no_fault
