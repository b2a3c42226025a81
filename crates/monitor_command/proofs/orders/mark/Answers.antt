-- The point was found and marked, or there is none.
use Rattle.std.proofs.Common.{List, ℕ, None, Some, refl, subst}
use Rattle.std.proofs.lemmas.Result.{on_err_weaker, on_ok_weaker}
use Rattle.bril_names.specs.Numbering.{Finds}
use Rattle.monitor_command.proofs.Marking.{absent_breaks_off, absent_goes_on, marks_go_on, no_function, no_point, unmarked_follows}
use Rattle.monitor_command.specs.declared.progress.Progress.{Progress}
use Rattle.monitor_command.proofs.orders.mark.Goals as goal

pub returns-in_default-clause-ok : goal.returns-in_default-clause-ok
returns-in_default-clause-ok g c =
    let old = c.args.progress.now in
    let none = subst (λ (names : List (List ℕ)). Finds names c.args.name.now None) c.requires c.in_default.ensures in
    on_ok_weaker c.put_absent.result
    (λ puts is s follows. absent_goes_on c.args.on is c.args.name.now c.args.item c.args.marked s old old follows (no_function c.args.on is c.args.name.now c.args.item c.args.marked s old old follows none) _ _ follows puts)
    c.put_absent.ensures.ok

pub returns-in_default-clause-err : goal.returns-in_default-clause-err
returns-in_default-clause-err g c =
    let old = c.args.progress.now in
    let none = subst (λ (names : List (List ℕ)). Finds names c.args.name.now None) c.requires c.in_default.ensures in
    on_err_weaker c.put_absent.result
    (λ put is s rest follows. absent_breaks_off c.args.on is c.args.name.now c.args.item c.args.marked s old old follows (no_function c.args.on is c.args.name.now c.args.item c.args.marked s old old follows none) _ _ put rest)
    c.put_absent.ensures.err

pub returns-then-mark-clause-ok : goal.returns-then-mark-clause-ok
returns-then-mark-clause-ok g c = λ is s follows.
    (let new : Progress = record { monitor = c.mark.new.self; func = c.args.progress.now.func } in
    let found = subst (λ (names : List (List ℕ)). Finds names c.args.name.now (Some c.in-Some.func)) c.requires c.in-Some.ensures in
    marks_go_on c.args.on is c.args.name.now c.args.item c.args.marked s c.args.progress.now new follows c.in-Some.func _ found c.if-mark.ensures.known c.mark.ensures.marks c.mark.ensures.machine c.mark.ensures.left c.mark.ensures.stop refl)

pub returns-clause-ok : goal.returns-clause-ok
returns-clause-ok g c =
    let old = c.args.progress.now in
    let new : Progress = record { monitor = c.mark.new.self; func = old.func } in
    let found = subst (λ (names : List (List ℕ)). Finds names c.args.name.now (Some c.in-Some.func)) c.requires c.in-Some.ensures in
    on_ok_weaker c.put_absent-2.result
    (λ puts is s follows.
    (let none = no_point c.args.on is c.args.name.now c.args.item c.args.marked s old new follows c.in-Some.func found c.if-mark.ensures.known in
    let same = unmarked_follows c.args.on is c.args.name.now c.args.item c.args.marked s old new follows (c.mark.ensures.unknown c.if-mark.false) c.mark.ensures.machine c.mark.ensures.left c.mark.ensures.stop refl in
    absent_goes_on c.args.on is c.args.name.now c.args.item c.args.marked s old new follows none _ _ same puts))
    c.put_absent-2.ensures.ok

pub returns-clause-err : goal.returns-clause-err
returns-clause-err g c =
    let old = c.args.progress.now in
    let new : Progress = record { monitor = c.mark.new.self; func = old.func } in
    let found = subst (λ (names : List (List ℕ)). Finds names c.args.name.now (Some c.in-Some.func)) c.requires c.in-Some.ensures in
    on_err_weaker c.put_absent-2.result
    (λ put is s rest follows.
    (let none = no_point c.args.on is c.args.name.now c.args.item c.args.marked s old new follows c.in-Some.func found c.if-mark.ensures.known in
    absent_breaks_off c.args.on is c.args.name.now c.args.item c.args.marked s old new follows none _ _ put rest))
    c.put_absent-2.ensures.err
