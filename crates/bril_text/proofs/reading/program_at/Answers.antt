use Rattle.std.proofs.lemmas.Result.{err_from_is_err_and}
use Rattle.bril_text.proofs.Moves.{along}
use Rattle.bril_text.proofs.reading.program_at.Goals as goal

pub returns-in_err-funcs : goal.returns-in_err-funcs
returns-in_err-funcs c =
    let p = err_from_is_err_and c.from_residual-in_err-funcs.result c.from_residual-in_err-funcs.ensures.1 in
    rw (p.1, p.2) (along c.in_err-funcs.field-0.0 (c.in_ok-imports.ensures) (c.in_err-funcs.ensures c.in_ok-imports.imports))
