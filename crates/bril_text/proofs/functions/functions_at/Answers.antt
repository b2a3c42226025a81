use Rattle.std.proofs.lemmas.Result.{err_from_is_err_and}
use Rattle.std.proofs.Common.{◌≡◌, ◌∷◌, ap, ◌∙◌, rules}
use Rattle.bril_grammar.specs.Machine.{run}
use Rattle.bril_grammar.specs.State.{AtFunction}
use Rattle.bril_grammar.specs.Terminal.{Function, terminals_of}
use Rattle.bril_text.proofs.Moves.{along}
use Rattle.bril_text.proofs.functions.functions_at.Goals as goal

pub returns-in_err-function-in-Some-Function-default : goal.returns-in_err-function-in-Some-Function-default
returns-in_err-function-in-Some-Function-default c =
    let p = err_from_is_err_and c.from_residual.result c.from_residual.ensures.1 in
    let first : terminals_of c.functions.terminals ≡ Function c.in-Some-Function-default.text.now ∷ terminals_of c.in-Some-Function-default.rest = search rules in
    λ imports. rw (p.1, p.2) (along c.in_err-function-in-Some-Function-default.field-0.0
    (c.functions.invariant imports ∙ ap (run (AtFunction imports c.functions.funcs)) first)
    (c.in_err-function-in-Some-Function-default.ensures.runs imports c.functions.funcs))
