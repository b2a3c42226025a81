use Rattle.bril_checker.proofs.Misshapen.{all_or_misfit, shapeless, misfit_before}
use Rattle.bril_checker.proofs.mistakes.first_misshapen.Goals as goal

pub returns-in-None : goal.returns-in-None
returns-in-None c =
    all_or_misfit c.args.prog.now c.args.func.now c.as_slice.result.now c.as_slice.ensures c.in-None.ensures c.first_misfit_call.result c.first_misfit_call.ensures

pub returns-in-None-first_misfit_call : goal.returns-in-None-first_misfit_call
returns-in-None-first_misfit_call c =
    shapeless c.args.prog.now c.args.func.now c.as_slice-in-Some.result.now c.as_slice-in-Some.ensures c.in-Some.item c.in-Some.ensures c.in-None-first_misfit_call.ensures

pub returns-in-Some-first_misfit_call : goal.returns-in-Some-first_misfit_call
returns-in-Some-first_misfit_call c =
    misfit_before c.args.prog.now c.args.func.now c.as_slice-in-Some.result.now c.as_slice-in-Some.ensures c.in-Some-first_misfit_call.call c.in-Some.item c.in-Some.ensures c.in-Some-first_misfit_call.ensures
