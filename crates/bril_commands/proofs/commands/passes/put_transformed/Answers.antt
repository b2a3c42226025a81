-- The list made no program, or the text of what it made was put, or its put failed, and the tallies were told.
use Rattle.std.proofs.Common.{[], refl, inl, inr, ⊎_elim}
use Rattle.std.proofs.lemmas.Result.{err_from_is_err_and}
use Rattle.bril_report.proofs.Telling.{Tells-none}
use Rattle.bril_commands.proofs.commands.passes.put_transformed.Goals as goal

pub returns-in_err-made-clause-does : goal.returns-in_err-made-clause-does
returns-in_err-made-clause-does g c =
    let e = err_from_is_err_and c.from_residual.result c.from_residual.ensures.1 in
    rw (e.1, e.2) (record {
      same_output = refl;
      told = [];
      does = inr ([], refl, ⊎_elim (λ unread. inl (unread.0, ((refl, refl), unread.1))) (λ refused. inr (refused.0, refused.1, inl (refused.2, (refl, refl)))) c.in_err-made.ensures.err);
      tells = Tells-none g.E.Sink.seen c.args.outputs.now.err;
    })

pub returns-clause-does : goal.returns-clause-does
returns-clause-does g c =
    let did = rw (c.prog.ensures.value, c.as_slice.ensures) at c.put_made.ensures in
    let made = c.in_ok-made.ensures.ok in
    record {
      same_output = did.same_output;
      told = did.told;
      does = inr ([], refl, inr (made.entries, made.profiled, inr (c.in_ok-made.made.prog, made.made, inr (tt, did.does))));
      tells = did.tells;
    }
