-- An entry more was put, or its put failed.
use Rattle.std.proofs.Common.{◌+◌, ◌<◌, ◌≤◌, sym, subst}
use Rattle.std.proofs.lemmas.Result.{err_from_is_err_and}
use Rattle.bril_report.specs.Puts.{PutsAll}
use Rattle.monitor_command.proofs.Entries.{entries_all, entry_fails, entry_more, has_value, pieces_to}
use Rattle.monitor_command.proofs.orders.put_entries.Goals as goal
use Rattle.monitor_command.proofs.orders.put_entries.Goals.{in-Some+in_ok-put_variable-in-Some, in-None}

pub returns-in_err-put_variable-in-Some-clause-err : goal.returns-in_err-put_variable-in-Some-clause-err
returns-in_err-put_variable-in-Some-clause-err g c =
    let e = err_from_is_err_and c.from_residual.result c.from_residual.ensures.1 in
    let low = subst (λ n. c.loop-place.place < n) c.entries-place-end.ensures c.loop-place-test.true in
    rw e.1 (λ lines shown.
    entry_fails c.args.program.now c.args.func c.args.monitor.now lines shown c.loop-place.place low c.in-Some.entry c.in-Some.ensures (c.loop-place.invariant lines shown) c.in_err-put_variable-in-Some.ensures.err)

pub loop-place-preserved : goal.loop-place-preserved
loop-place-preserved g c = λ lines shown.
    (let low = subst (λ n. c.loop-place.place < n) c.entries-place-end.ensures c.loop-place-test.true in
    elim c.match-entry_value.branch [
      | in-Some+in_ok-put_variable-in-Some w ↦
          subst (λ o. PutsAll (g.O.Sink.seen c.args.out.now) (pieces_to c.args.program.now c.args.func c.args.monitor.now lines shown (c.loop-place.place + 1)) (g.O.Sink.seen o)) (sym w.out-is)
          (entry_more c.args.program.now c.args.func c.args.monitor.now lines shown c.loop-place.place low w.in-Some.entry w.in-Some.ensures (c.loop-place.invariant lines shown) w.in_ok-put_variable-in-Some.ensures.ok)
      | in-None w ↦ absurd {A = PutsAll (g.O.Sink.seen c.args.out.now) (pieces_to c.args.program.now c.args.func c.args.monitor.now lines shown (c.loop-place.place + 1)) (g.O.Sink.seen c.match-entry_value.out)} (has_value c.args.program.now c.args.func c.args.monitor.now lines shown c.loop-place.place low w.in-None.ensures)
    ])

pub returns-clause-ok : goal.returns-clause-ok
returns-clause-ok g c = λ lines shown.
    (let past = subst (λ n. n ≤ c.loop-place.place) c.entries-place-end.ensures c.loop-place-test.false in
    entries_all c.args.program.now c.args.func c.args.monitor.now lines shown c.loop-place.place past (c.loop-place.invariant lines shown))
