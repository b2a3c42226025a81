use Rattle.std.proofs.lemmas.Result.{err_from_is_err_and}
use Rattle.std.proofs.Common.{[], None, sym, ap, ◌∙◌, arith}
use Rattle.std.specs.Prelude.{if◌then◌else◌}
use Rattle.bril_grammar.specs.Machine.{run, with_arg}
use Rattle.bril_grammar.specs.State.{AtArg, AfterArgs}
use Rattle.bril_grammar.specs.Terminal.{terminals_of}
use Rattle.bril_text.specs.Parse.{begun_with}
use Rattle.bril_text.proofs.Moves.{along, after_arg}
use Rattle.bril_text.proofs.functions.arguments.Goals as goal

pub returns-in_err-arg-clause-runs : goal.returns-in_err-arg-clause-runs
returns-in_err-arg-clause-runs c =
    let p = err_from_is_err_and c.from_residual.result c.from_residual.ensures.1 in
    λ imports funcs name. rw (p.1, p.2) (along c.in_err-arg.field-0.0 (c.arguments.invariant.same imports funcs name) (c.in_err-arg.ensures.runs (begun_with imports funcs name c.arguments.args None [])))

pub returns-in_err-more-clause-runs : goal.returns-in_err-more-clause-runs
returns-in_err-more-clause-runs c =
    let p = err_from_is_err_and c.from_residual-in_err-more.result c.from_residual-in_err-more.ensures.1 in
    λ imports funcs name. rw (p.1, p.2) (let b = begun_with imports funcs name c.arguments.args None [] in let more = with_arg b c.in_ok-arg.arg in along c.in_err-more.field-0.0 (c.arguments.invariant.same imports funcs name ∙ c.in_ok-arg.ensures.runs b ∙ after_arg more (terminals_of c.in_ok-arg.rest)) (c.in_err-more.ensures.runs (AtArg more) (AfterArgs more)))

pub returns-then-not-more-clause-runs : goal.returns-then-not-more-clause-runs
returns-then-not-more-clause-runs c = λ imports funcs name.
    let b = begun_with imports funcs name c.arguments.args None [] in let more = with_arg b c.in_ok-arg.arg in
    c.arguments.invariant.same imports funcs name ∙ c.in_ok-arg.ensures.runs b ∙ after_arg more (terminals_of c.in_ok-arg.rest)
    ∙ c.in_ok-more.ensures.runs (AtArg more) (AfterArgs more)
    ∙ ap (λ t. run (if t then AtArg more else AfterArgs more) (terminals_of c.in_ok-more.rest)) c.if-not-more.true
    ∙ ap (λ args. run (AfterArgs (begun_with imports funcs name args None [])) (terminals_of c.in_ok-more.rest)) (sym c.in_ok-push.ensures.ok)

pub arguments-preserved : goal.arguments-preserved
arguments-preserved c = record {
  same = λ imports funcs name.
      let b = begun_with imports funcs name c.arguments.args None [] in let more = with_arg b c.in_ok-arg.arg in
      c.arguments.invariant.same imports funcs name ∙ c.in_ok-arg.ensures.runs b ∙ after_arg more (terminals_of c.in_ok-arg.rest)
      ∙ c.in_ok-more.ensures.runs (AtArg more) (AfterArgs more)
      ∙ ap (λ t. run (if t then AtArg more else AfterArgs more) (terminals_of c.in_ok-more.rest)) c.if-not-more.false
      ∙ ap (λ args. run (AtArg (begun_with imports funcs name args None [])) (terminals_of c.in_ok-more.rest)) (sym c.in_ok-push.ensures.ok);
  shorter = omega (arith, c.in_ok-arg.ensures.shorter, c.in_ok-more.ensures.shorter);
}
