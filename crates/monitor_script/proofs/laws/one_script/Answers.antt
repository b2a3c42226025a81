use Rattle.monitor_script.proofs.Faults.{scripts_differ}
use Rattle.monitor_script.proofs.laws.one_script.Goals as goal

pub returns : goal.returns
returns c = scripts_differ
