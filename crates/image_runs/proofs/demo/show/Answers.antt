-- The line was put and handed on, or one of the two failed.
use Rattle.std.proofs.Common.{[], ◌∷◌, Some, refl, ap, inl, inr}
use Rattle.std.proofs.lemmas.Result.{err_from_is_err_and}
use Rattle.bril_outside.proofs.SinkWrites.{PutSome-one}
use Rattle.bril_report.proofs.Puts.{PutsAll-one}
use Rattle.bril_report.proofs.Telling.{Tells-none}
use Rattle.bril_report.specs.Stats.{words_pieces}
use Rattle.bril_tree.specs.declared.limits.End.TheVariants.{Ended}
use Rattle.image_runs.proofs.demo.show.Goals as goal

pub returns-in_err-line : goal.returns-in_err-line
returns-in_err-line g c =
    let e = err_from_is_err_and c.from_residual.result c.from_residual.ensures.1 in
    rw (e.1, e.2) (record { same_output = refl; told = []; does = (refl, inl refl); tells = Tells-none g.E.Sink.seen c.args.outputs.now.err })

pub returns-in_err-put : goal.returns-in_err-put
returns-in_err-put g c =
    let e = err_from_is_err_and c.from_residual-in_err-put.result c.from_residual-in_err-put.ensures.1 in
    let failed = rw c.as_slice.ensures at c.in_err-put.ensures.err in
    let put = PutSome-one failed.0 c.in_err-put.ensures.times failed.1 in
    let line = c.in_ok-line.ensures in
    rw (e.1, e.2) (record {
      same_output = refl;
      told = [];
      does = (refl, inl (record { ended = Some Ended; told = words_pieces c.args.words; output = _; shows = (refl, refl, ap (λ l. l ∷ []) line); took = inl put }));
      tells = Tells-none g.E.Sink.seen c.args.outputs.now.err;
    })

pub returns-in_err-hand_on : goal.returns-in_err-hand_on
returns-in_err-hand_on g c =
    let e = err_from_is_err_and c.from_residual-in_err-hand_on.result c.from_residual-in_err-hand_on.ensures.1 in
    let took = rw c.as_slice.ensures at c.in_ok-put.ensures.ok in
    let line = c.in_ok-line.ensures in
    rw (e.1, e.2) (record {
      same_output = refl;
      told = [];
      does = (refl, inl (record { ended = Some Ended; told = words_pieces c.args.words; output = _; shows = (refl, refl, ap (λ l. l ∷ []) line); took = inr (record { between = _; puts = PutsAll-one took c.in_ok-put.ensures.times; flushed = c.in_err-hand_on.ensures.kept; rose = c.in_err-hand_on.ensures.err }) }));
      tells = Tells-none g.E.Sink.seen c.args.outputs.now.err;
    })

pub returns : goal.returns
returns g c =
    let took = rw c.as_slice.ensures at c.in_ok-put.ensures.ok in
    let line = c.in_ok-line.ensures in
    record { same_output = refl; told = _; does = record { output = _; shows = (refl, refl, ap (λ l. l ∷ []) line); took = record { between = _; puts = PutsAll-one took c.in_ok-put.ensures.times; flushed = c.in_ok-hand_on.ensures.kept; out = c.in_ok-hand_on.ensures.ok } }; tells = c.put_words.ensures }
