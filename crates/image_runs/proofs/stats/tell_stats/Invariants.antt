-- The pieces of the guards so far were told.
use Rattle.bril_report.specs.Told.{Tells}
use Rattle.rv64_machine.specs.MachineView.{state_of}
use Rattle.bril_commands.proofs.Counts.{pieces_to}
use Rattle.image_runs.proofs.stats.tell_stats.Given as goal

abbrev pub invariant-loop-number : goal.invariant-loop-number
invariant-loop-number g l = Tells g.E.Sink.seen l.fn.err (pieces_to l.program (state_of l.machine) l.guards l.number) l.err
