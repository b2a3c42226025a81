-- The steps so far were made and counted, and the run goes on.
use Rattle.std.proofs.Common.{◌≡◌, ◌≤◌, ◌-◌, None}
use Rattle.bril_interpreter.specs.StepAnswers.{Reached, puts_within, reached_after}
use Rattle.step_count.specs.Executed.{executed_within}
use Rattle.step_count.proofs.counted.run_counted.Given as goal

abbrev pub invariant-loop-made : goal.invariant-loop-made
invariant-loop-made g l = record {
  within : l.made ≤ l.steps;
  few : l.executed ≤ l.made;
  reached : Reached (reached_after l.fn.interp l.made) (puts_within l.fn.interp l.made) l.fn.interp l.interp (g.O.Sink.seen l.fn.out) (g.O.Sink.seen l.out);
  runs : (reached_after l.fn.interp l.made).ended ≡ None;
  counted : l.executed ≡ executed_within l.fn.interp l.made;
}

abbrev pub decreases-loop-made : goal.decreases-loop-made
decreases-loop-made g l = l.steps - l.made
