-- The machine stops at a point, or the program ends, or the words are executed.
use Rattle.std.proofs.Common.{Some, refl}
use Rattle.std.proofs.lemmas.Result.{err_from_is_err_and}
use Rattle.monitor_command.proofs.Calls.{break_breaks_off, break_goes_on, end_breaks_off, end_is_over, failed_breaks_off, none_trapped, spent_is_over, words_are_left}
use Rattle.monitor_command.specs.declared.progress.Progress.{Progress}
use Rattle.monitor_command.proofs.orders.run.Goals as goal

pub returns-in_ok-put_stop-in-Break-clause-ok : goal.returns-in_ok-put_stop-in-Break-clause-ok
returns-in_ok-put_stop-in-Break-clause-ok g c = λ is s follows.
    (let old = c.args.progress.now in
    let new : Progress = record { monitor = c.run_monitor.new.monitor; func = Some c.in-Break.func } in
    let left = words_are_left c.args.on is s old follows c.args.any c.words_left-words.result c.done.result c.words_left-words.ensures.left c.done.ensures c.words_left-words.ensures.counted in
    let went = c.in-Break.ensures in
    break_goes_on c.args.on is s old follows c.args.any c.words_left-words.result left new _ _ went.spots c.in-Break.func c.in-Break.item went.went went.left went.stop refl c.in_ok-put_stop-in-Break.ensures.ok)

pub returns-in_err-put_stop-in-Break-clause-err : goal.returns-in_err-put_stop-in-Break-clause-err
returns-in_err-put_stop-in-Break-clause-err g c =
    let e = err_from_is_err_and c.from_residual.result c.from_residual.ensures.1 in
    let old = c.args.progress.now in
    let new : Progress = record { monitor = c.run_monitor.new.monitor; func = Some c.in-Break.func } in
    let went = c.in-Break.ensures in
    rw e.1 (λ is s rest follows.
    (let left = words_are_left c.args.on is s old follows c.args.any c.words_left-words.result c.done.result c.words_left-words.ensures.left c.done.ensures c.words_left-words.ensures.counted in
    break_breaks_off c.args.on is s old follows c.args.any c.words_left-words.result left new _ _ went.spots c.in-Break.func c.in-Break.item went.went went.left went.stop refl c.in_err-put_stop-in-Break.ensures.err rest))

pub returns-in_ok-put_end-in-End-clause-ok : goal.returns-in_ok-put_end-in-End-clause-ok
returns-in_ok-put_end-in-End-clause-ok g c = λ is s follows.
    (let old = c.args.progress.now in
    let new : Progress = record { monitor = c.run_monitor.new.monitor; func = old.func } in
    let left = words_are_left c.args.on is s old follows c.args.any c.words_left-words.result c.done.result c.words_left-words.ensures.left c.done.ensures c.words_left-words.ensures.counted in
    let went = c.in-End.ensures in
    end_is_over c.args.on is s old follows c.args.any c.words_left-words.result left new _ _ went.spots c.in-End.end went.went c.in_ok-put_end-in-End.ensures.ok)

pub returns-in_err-put_end-in-End-clause-err : goal.returns-in_err-put_end-in-End-clause-err
returns-in_err-put_end-in-End-clause-err g c =
    let e = err_from_is_err_and c.from_residual-in_err-put_end-in-End.result c.from_residual-in_err-put_end-in-End.ensures.1 in
    let old = c.args.progress.now in
    let new : Progress = record { monitor = c.run_monitor.new.monitor; func = old.func } in
    let went = c.in-End.ensures in
    rw e.1 (λ is s rest follows.
    (let left = words_are_left c.args.on is s old follows c.args.any c.words_left-words.result c.done.result c.words_left-words.ensures.left c.done.ensures c.words_left-words.ensures.counted in
    end_breaks_off c.args.on is s old follows c.args.any c.words_left-words.result left new _ _ went.spots c.in-End.end went.went c.in_err-put_end-in-End.ensures.err rest))

pub returns-in-Spent-clause-ok : goal.returns-in-Spent-clause-ok
returns-in-Spent-clause-ok g c = λ is s follows.
    (let old = c.args.progress.now in
    let new : Progress = record { monitor = c.run_monitor.new.monitor; func = old.func } in
    let left = words_are_left c.args.on is s old follows c.args.any c.words_left-words.result c.done.result c.words_left-words.ensures.left c.done.ensures c.words_left-words.ensures.counted in
    let went = c.in-Spent.ensures in
    spent_is_over c.args.on is s old follows c.args.any c.words_left-words.result left new _ _ went.spots went.went)

pub returns-in-WriteFault-clause-err : goal.returns-in-WriteFault-clause-err
returns-in-WriteFault-clause-err g c = λ is s rest follows.
    (let old = c.args.progress.now in
    let new : Progress = record { monitor = c.run_monitor.new.monitor; func = old.func } in
    let left = words_are_left c.args.on is s old follows c.args.any c.words_left-words.result c.done.result c.words_left-words.ensures.left c.done.ensures c.words_left-words.ensures.counted in
    let went = c.in-WriteFault.ensures in
    failed_breaks_off c.args.on is s old follows c.args.any c.words_left-words.result left new _ _ went.spots went.went rest)

pub unreachable-requires : goal.unreachable-requires
unreachable-requires g c =
    let old = c.args.progress.now in
    let new : Progress = record { monitor = c.run_monitor.new.monitor; func = old.func } in
    let is = c.requires.shown in
    let s = c.requires.follows.session in
    let follows = c.requires.follows.follows in
    let left = words_are_left c.args.on is s old follows c.args.any c.words_left-words.result c.done.result c.words_left-words.ensures.left c.done.ensures c.words_left-words.ensures.counted in
    let went = c.in-Trap.ensures in
    none_trapped c.args.on is s old follows c.args.any c.words_left-words.result left new _ _ went.spots c.in-Trap.field-0 went.went
