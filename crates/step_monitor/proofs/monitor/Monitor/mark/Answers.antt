use Rattle.std.proofs.Common.{◌∙◌}
use Rattle.step_monitor.specs.MonitorView.{spots_in}
use Rattle.step_monitor.proofs.Marks.{marks_none}
use Rattle.step_monitor.proofs.monitor.Monitor.mark.Goals as goal

pub returns-clause-unknown : goal.returns-clause-unknown
returns-clause-unknown c = λ e. c.mark.ensures.marks ∙ marks_none (spots_in c.args.self.now) c.args.func c.args.item c.args.on c.mark.result c.mark.ensures.known e
