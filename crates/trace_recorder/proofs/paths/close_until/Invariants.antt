use Rattle.std.proofs.Common.{◌≡◌, ◌<◌, ◌≤◌, length}
use Rattle.std.specs.Prelude.{vec_capacity}
use Rattle.trace_recorder.specs.Kept.{ending}
use Rattle.trace_recorder.proofs.paths.close_until.Given as goal

abbrev pub invariant-loop-k : goal.invariant-loop-k
invariant-loop-k l = record {
  held : l.held.items ≡ ending l.end l.k l.initial.held.items;
  below : l.from ≤ l.front → l.k ≤ l.front;
  stays : l.front < l.from → l.k ≡ l.from;
  long : length l.held.items ≡ length l.initial.held.items;
  capacity : vec_capacity l.held ≡ vec_capacity l.initial.held;
}
