use Rattle.std.proofs.lemmas.Result.{err_from_is_err_and}
use Rattle.std.proofs.Common.{sym, ◌∙◌}
use Rattle.bril_grammar.specs.declared.mark.Mark.TheVariants.{Comma}
use Rattle.bril_grammar.specs.Terminal.{terminals_of}
use Rattle.bril_text.proofs.Moves.{along, comma_first, second_mark}
use Rattle.bril_text.proofs.parse.comma_or.Goals as goal

pub returns-in_err-rest-clause-runs : goal.returns-in_err-rest-clause-runs
returns-in_err-rest-clause-runs c =
    let p = err_from_is_err_and c.from_residual.result c.from_residual.ensures.1 in
    λ again end. rw (p.1, p.2) (along c.in_err-rest.field-0.0 (comma_first c.args.mark again end c.args.terminals (sym c.begins_with.ensures ∙ c.if-begins_with.true)) (c.in_err-rest.ensures.runs again))

pub returns-in_err-rest-2-clause-runs : goal.returns-in_err-rest-2-clause-runs
returns-in_err-rest-2-clause-runs c =
    let p = err_from_is_err_and c.from_residual-in_err-rest-2.result c.from_residual-in_err-rest-2.ensures.1 in
    λ again end. rw (p.1, p.2) (along c.in_err-rest-2.field-0.0 (second_mark Comma c.args.mark again end (terminals_of c.args.terminals) (sym c.begins_with.ensures ∙ c.if-begins_with.false)) (c.in_err-rest-2.ensures.runs end))
