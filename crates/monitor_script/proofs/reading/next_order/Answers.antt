use Rattle.monitor_script.proofs.Faults.{line_at, no_line, other_line}
use Rattle.monitor_script.proofs.reading.next_order.Goals as goal

pub returns-in_default-clause-fault : goal.returns-in_default-clause-fault
returns-in_default-clause-fault c = (line_at c.args.before, no_line c.args.rest.now c.in_default.ensures)

pub returns-in-None-clause-fault : goal.returns-in-None-clause-fault
returns-in-None-clause-fault c = (line_at c.args.before, other_line c.args.rest.now c.in-Some.line.now c.in-Some.after.now c.in-Some.ensures.0 c.in-Some.ensures.1 c.in-None.ensures)
