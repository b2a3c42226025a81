-- The tree isn't numbered, or its only program isn't accepted, or it is.
use Rattle.std.proofs.Common.{sym, subst}
use Rattle.std.proofs.lemmas.Result.{err_from_is_err_and}
use Rattle.bril_tree.specs.declared.program.Prog.{Prog}
use Rattle.bril_commands.specs.Source.{IsOnlyProgram}
use Rattle.bril_commands.specs.Stages.{RefusesCheck}
use Rattle.bril_report.specs.StageFaults.{name_status, check_status}
use Rattle.bril_commands.proofs.Outcomes.{RefusesNames-of, RefusesCheck-of, RefusesProgram-names, RefusesProgram-check, IsAcceptedProgram-of}
use Rattle.bril_commands.proofs.program.accepted_program.Goals as goal

pub returns-in_err-program-clause-err : goal.returns-in_err-program-clause-err
returns-in_err-program-clause-err c =
    let e = err_from_is_err_and c.from_residual.result c.from_residual.ensures.1 in
    let fault = c.in_err-program.field-0.0 in
    rw (e.1, e.2)
    (RefusesProgram-names (name_status fault) c.args.tree.now
    (RefusesNames-of c.args.tree.now fault c.in_err-program.ensures.fault c.in_err-program.ensures.faults c.in_err-program.ensures.numbers))

pub returns-in_err-check-clause-err : goal.returns-in_err-check-clause-err
returns-in_err-check-clause-err c =
    let e = err_from_is_err_and c.from_residual-in_err-check.result c.from_residual-in_err-check.ensures.1 in
    let number = c.in_ok-program.ensures in
    let refused = c.in_err-check.field-0.0 in
    let check = c.in_err-check.ensures in
    let only : IsOnlyProgram c.args.tree.now c.in_ok-program.program = record { numbered = number.found; alone = number.numbers; faultless = number.faults } in
    rw (e.1, e.2)
    (RefusesProgram-check (check_status refused.0 refused.1) c.args.tree.now c.in_ok-program.program only
    (subst (λ (p : Prog). RefusesCheck (check_status p refused.1) c.in_ok-program.program) (sym check.back)
    (RefusesCheck-of c.in_ok-program.program refused.1 check.fault check.faults check.accepts check.memory)))

pub returns-clause-ok : goal.returns-clause-ok
returns-clause-ok c =
    let number = c.in_ok-program.ensures in
    let check = c.in_ok-check.ensures in
    let only : IsOnlyProgram c.args.tree.now c.in_ok-program.program = record { numbered = number.found; alone = number.numbers; faultless = number.faults } in
    IsAcceptedProgram-of c.args.tree.now c.in_ok-program.program c.in_ok-check.field-0.prog only check.ok check.accepted check.faults
