use Rattle.std.proofs.lemmas.Result.{err_from_is_err_and}
use Rattle.bril_tree.specs.Accepted.{IsAcceptedFunction}
use Rattle.bril_checker.proofs.Positions.{All-next}
use Rattle.bril_checker.proofs.Program.{fault_here, takes_memory}
use Rattle.bril_checker.proofs.Stages.{accepted_passes}
use Rattle.bril_checker.proofs.Words.{more_words}
use Rattle.bril_checker.proofs.checker.check_functions.Goals as goal

pub returns-in_err-check_function-clause-fault : goal.returns-in_err-check_function-clause-fault
returns-in_err-check_function-clause-fault c =
    let p = err_from_is_err_and c.from_residual.result c.from_residual.ensures.1 in
    rw (p.1, p.2)
    (fault_here c.args.prog.now c.requires.main c.as_slice-func-items.result.now c.as_slice-func-items.ensures c.loop-number.number c.func-item.result c.loop-number-test.true c.func-item.is
    c.loop-number.invariant.0 _ c.in_err-check_function.ensures.fault)

pub loop-number-preserved : goal.loop-number-preserved
loop-number-preserved c = (
  All-next (IsAcceptedFunction c.args.prog.now) c.args.prog.now.funcs c.as_slice-func-items.result.now c.as_slice-func-items.ensures
      c.loop-number.number c.func-item.result c.loop-number-test.true c.func-item.is c.loop-number.invariant.0 c.in_ok-check_function.ensures.accepted,
  more_words c.args.prog.now.funcs c.as_slice-func-items.result.now c.as_slice-func-items.ensures c.loop-number.number c.func-item.result
      c.loop-number.words c.push.new.self c.in_ok-check_function.field-0 c.loop-number-test.true c.func-item.is c.in_ok-push.ensures.ok c.loop-number.invariant.1 c.in_ok-check_function.ensures.words,
)

pub returns-in_err-check_function-clause-memory : goal.returns-in_err-check_function-clause-memory
returns-in_err-check_function-clause-memory c =
    let p = err_from_is_err_and c.from_residual.result c.from_residual.ensures.1 in
    rw (p.1, p.2) (λ is.
    takes_memory c.args.prog.now c.requires.main c.as_slice-func-items.result.now c.as_slice-func-items.ensures c.loop-number.number c.func-item.result c.loop-number-test.true c.func-item.is
    c.loop-number.invariant.0 (c.in_err-check_function.ensures.memory is))

pub returns-in_err-push-clause-memory : goal.returns-in_err-push-clause-memory
returns-in_err-push-clause-memory c =
    let p = err_from_is_err_and c.from_residual-in_err-push.result c.from_residual-in_err-push.ensures.1 in
    rw (p.1, p.2) (λ is.
    takes_memory c.args.prog.now c.requires.main c.as_slice-func-items.result.now c.as_slice-func-items.ensures c.loop-number.number c.func-item.result c.loop-number-test.true c.func-item.is
    c.loop-number.invariant.0 (accepted_passes c.args.prog.now c.func-item.result c.in_ok-check_function.ensures.accepted).0.0.0)
