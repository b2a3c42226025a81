use Rattle.std.proofs.lemmas.Result.{err_from_is_err_and}
use Rattle.std.proofs.Common.{[], None, sym, ap, ◌∙◌}
use Rattle.bril_grammar.specs.declared.mark.Mark.TheVariants.{Colon, OpenBrace}
use Rattle.bril_grammar.specs.Machine.{run, with_ret}
use Rattle.bril_grammar.specs.State.{AfterArgs, AtItem, AtType, ReturnType}
use Rattle.bril_grammar.specs.Terminal.{terminals_of}
use Rattle.bril_text.specs.Parse.{begun_with}
use Rattle.bril_text.proofs.Moves.{along, begins_skip, second_mark, after_args}
use Rattle.bril_text.proofs.functions.return_at.Goals as goal

pub returns-in_err-ty-clause-runs : goal.returns-in_err-ty-clause-runs
returns-in_err-ty-clause-runs c =
    let p = err_from_is_err_and c.from_residual.result c.from_residual.ensures.1 in
    λ imports funcs name args. rw (p.1, p.2) (let b = begun_with imports funcs name args None [] in along c.in_err-ty.field-0.0 (ap (run (AfterArgs b)) (begins_skip Colon c.args.terminals (sym c.begins_with.ensures ∙ c.if-begins_with.true)) ∙ ap (λ l. run (AtType (ReturnType b) 0) (terminals_of l)) (sym c.skip.ensures)) (c.in_err-ty.ensures.runs (ReturnType b)))

pub returns-in_err-terminals-clause-runs : goal.returns-in_err-terminals-clause-runs
returns-in_err-terminals-clause-runs c =
    let p = err_from_is_err_and c.from_residual-in_err-terminals.result c.from_residual-in_err-terminals.ensures.1 in
    λ imports funcs name args. rw (p.1, p.2) (let b = begun_with imports funcs name args None [] in along c.in_err-terminals.field-0.0 (ap (run (AfterArgs b)) (begins_skip Colon c.args.terminals (sym c.begins_with.ensures ∙ c.if-begins_with.true)) ∙ ap (λ l. run (AtType (ReturnType b) 0) (terminals_of l)) (sym c.skip.ensures) ∙ c.in_ok-ty.ensures.runs (ReturnType b)) (c.in_err-terminals.ensures.runs (AtItem (with_ret b c.in_ok-ty.ty))))

pub returns-in_err-terminals-2-clause-runs : goal.returns-in_err-terminals-2-clause-runs
returns-in_err-terminals-2-clause-runs c =
    let p = err_from_is_err_and c.from_residual-in_err-terminals-2.result c.from_residual-in_err-terminals-2.ensures.1 in
    λ imports funcs name args. rw (p.1, p.2) (let b = begun_with imports funcs name args None [] in along c.in_err-terminals-2.field-0.0 (after_args b (terminals_of c.args.terminals) ∙ second_mark Colon OpenBrace (AtType (ReturnType b) 0) (AtItem b) (terminals_of c.args.terminals) (sym c.begins_with.ensures ∙ c.if-begins_with.false)) (c.in_err-terminals-2.ensures.runs (AtItem b)))
