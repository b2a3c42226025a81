use Rattle.step_monitor.proofs.Passing.{fails_pass_none, none_traps, passes_leave_none, spends_pass_none}
use Rattle.step_monitor.proofs.laws.runs_pass_none.Goals as goal

pub returns-clause-spent : goal.returns-clause-spent
returns-clause-spent c = spends_pass_none

pub returns-clause-ended : goal.returns-clause-ended
returns-clause-ended c = passes_leave_none

pub returns-clause-traps : goal.returns-clause-traps
returns-clause-traps c = none_traps

pub returns-clause-failed : goal.returns-clause-failed
returns-clause-failed c = fails_pass_none
