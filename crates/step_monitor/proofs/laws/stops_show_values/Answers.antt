use Rattle.step_monitor.proofs.Standing.{stops_show_values, values_are_the_points}
use Rattle.step_monitor.proofs.laws.stops_show_values.Goals as goal

pub returns-clause-point : goal.returns-clause-point
returns-clause-point c = values_are_the_points

pub returns-clause-program : goal.returns-clause-program
returns-clause-program c = stops_show_values
