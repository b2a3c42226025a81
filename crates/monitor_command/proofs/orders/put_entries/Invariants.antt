-- The first entries were put.
use Rattle.std.proofs.Common.{List, ℕ}
use Rattle.bril_report.specs.Puts.{PutsAll}
use Rattle.monitor_command.proofs.Entries.{pieces_to}
use Rattle.monitor_command.specs.Carried.{ShowsEntries}
use Rattle.monitor_command.proofs.orders.put_entries.Given as goal

abbrev pub invariant-loop-place : goal.invariant-loop-place
invariant-loop-place g l =
    (lines : List (List ℕ)) (shown : ShowsEntries l.program l.func l.monitor lines) →
    PutsAll (g.O.Sink.seen l.initial.out) (pieces_to l.program l.func l.monitor lines shown l.place) (g.O.Sink.seen l.out)
