use Rattle.step_monitor.proofs.Standing.{stops_show_entries}
use Rattle.step_monitor.proofs.laws.stops_show_entries.Goals as goal

pub returns : goal.returns
returns c = stops_show_entries
