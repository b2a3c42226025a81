-- The recorder saw the state before each step, and the run goes on.
use Rattle.std.proofs.Common.{◌≤◌, ◌-◌}
use Rattle.bril_outside.specs.Sink.{count_seen}
use Rattle.bril_commands.proofs.Recording.{HasRecorded}
use Rattle.bril_commands.proofs.commands.recording.make_steps.Given as goal

abbrev pub invariant-loop-made : goal.invariant-loop-made
invariant-loop-made l = record {
  within : l.made ≤ l.fn.settings.steps;
  has : HasRecorded l.fn.interp l.program l.fn.settings.limits l.values l.fn.settings.hot l.fn.settings.most l.made l.interp l.recorder (count_seen l.initial.printed) (count_seen l.printed);
}

abbrev pub decreases-loop-made : goal.decreases-loop-made
decreases-loop-made l = l.fn.settings.steps - l.made
