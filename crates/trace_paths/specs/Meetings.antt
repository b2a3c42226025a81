-- How a path meets an item, as it is kept.
use Rattle.trace_paths.specs.declared.met.Meeting.{Meeting}
use Rattle.trace_paths.specs.declared.met.Meeting.TheVariants as met
use Rattle.trace_paths.specs.Path as path

abbrev pub meeting_of : Meeting → path.Meeting
meeting_of met.Over = path.Over
meeting_of (met.To l) = path.To l
meeting_of met.Lays = path.Lays
meeting_of (met.Turns on off) = path.Turns on off
meeting_of met.Stops = path.Stops
