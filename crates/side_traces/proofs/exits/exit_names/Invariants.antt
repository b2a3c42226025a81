use Rattle.std.proofs.Common.{◌≡◌, length}
use Rattle.side_traces.specs.Names.{AreExitNames}
use Rattle.side_traces.proofs.exits.exit_names.Given as goal

abbrev pub invariant-loop-place : goal.invariant-loop-place
invariant-loop-place l = record {
  long : length l.names ≡ l.place;
  fresh : AreExitNames l.func.labels 1 l.names;
}
