use Rattle.step_monitor.proofs.Standing.{marks_choose, marks_stand}
use Rattle.step_monitor.proofs.laws.marks_choose.Goals as goal

pub returns-clause-choose : goal.returns-clause-choose
returns-clause-choose c = marks_choose

pub returns-clause-stand : goal.returns-clause-stand
returns-clause-stand c = marks_stand
