use Rattle.std.proofs.Common.{◌+◌, ◌-◌, ◌<◌, ap, ◌∙◌, arith}
use Rattle.std.proofs.lemmas.Result.{err_from_is_err_and}
use Rattle.bril_grammar.specs.Machine.{run, closing}
use Rattle.bril_grammar.specs.Terminal.{terminals_of}
use Rattle.bril_text.proofs.Moves.{along, closing_step}
use Rattle.bril_text.proofs.types.closed.Goals as goal

pub returns-in_err-terminals-clause-runs : goal.returns-in_err-terminals-clause-runs
returns-in_err-terminals-clause-runs c =
    let p = err_from_is_err_and c.from_residual.result c.from_residual.ensures.1 in
    let below : c.loop.counter < c.args.depth = omega arith in
    λ next. rw (p.1, p.2) (along c.in_err-terminals.field-0.0 (c.loop.invariant.same next ∙ ap (λ s. run s (terminals_of c.loop.terminals)) (closing_step c.args.depth c.loop.counter below next)) (c.in_err-terminals.ensures.runs (closing (c.args.depth - (c.loop.counter + 1)) next)))

pub loop-preserved : goal.loop-preserved
loop-preserved c =
    let below : c.loop.counter < c.args.depth = omega arith in
    record {
      same = λ next. c.loop.invariant.same next ∙ ap (λ s. run s (terminals_of c.loop.terminals)) (closing_step c.args.depth c.loop.counter below next) ∙ c.in_ok-terminals.ensures.runs (closing (c.args.depth - (c.loop.counter + 1)) next);
      shorter = omega (arith, c.in_ok-terminals.ensures.shorter);
    }
