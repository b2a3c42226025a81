use Rattle.std.proofs.lemmas.Result.{err_from_is_err_and}
use Rattle.std.proofs.Common.{sym, ap, ◌∙◌}
use Rattle.bril_grammar.specs.Machine.{run}
use Rattle.bril_grammar.specs.State.{AtAlias}
use Rattle.bril_grammar.specs.Terminal.{terminals_of}
use Rattle.bril_text.proofs.Moves.{along, alias_run}
use Rattle.bril_text.proofs.imports.alias_at.Goals as goal

pub returns-in_err-text-in-As-clause-runs : goal.returns-in_err-text-in-As-clause-runs
returns-in_err-text-in-As-clause-runs c =
    let p = err_from_is_err_and c.from_residual.result c.from_residual.ensures.1 in
    λ i name. rw (p.1, p.2) (along c.in_err-text-in-As.field-0.0 (alias_run i name c.args.terminals (sym c.in-As.ensures) ∙ ap (λ l. run (AtAlias i name) (terminals_of l)) (sym c.skip.ensures)) (c.in_err-text-in-As.ensures.alias i name))
