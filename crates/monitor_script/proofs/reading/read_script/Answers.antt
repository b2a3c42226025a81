use Rattle.monitor_script.proofs.Faults.{reads_text, tells_fault}
use Rattle.monitor_script.proofs.reading.read_script.Goals as goal

pub returns-clause-reads : goal.returns-clause-reads
returns-clause-reads c = reads_text c.args.source.now c.script_of.result c.script_of.ensures.text c.script_of.ensures.fault

pub returns-clause-faults : goal.returns-clause-faults
returns-clause-faults c = tells_fault c.args.source.now c.script_of.result c.script_of.ensures.text c.script_of.ensures.fault
