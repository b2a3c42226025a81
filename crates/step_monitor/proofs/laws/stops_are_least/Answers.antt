use Rattle.step_monitor.proofs.Absolute.{stops_are_least, stops_stand_later}
use Rattle.step_monitor.proofs.laws.stops_are_least.Goals as goal

pub returns-clause-least : goal.returns-clause-least
returns-clause-least c = stops_are_least

pub returns-clause-later : goal.returns-clause-later
returns-clause-later c = stops_stand_later
