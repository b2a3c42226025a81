-- No image was made, or it was run.
use Rattle.std.proofs.Common.{[], refl, inl, inr}
use Rattle.std.proofs.lemmas.Result.{err_from_is_err_and}
use Rattle.bril_report.proofs.Telling.{Tells-none}
use Rattle.image_commands.proofs.run.run_with.Goals as goal

pub returns-in_err-image : goal.returns-in_err-image
returns-in_err-image g c =
    let e = err_from_is_err_and c.from_residual.result c.from_residual.ensures.1 in
    rw (e.1, e.2) (record { same_output = refl; told = []; does = inl ((c.args.settings.limits, (refl, refl), c.in_err-image.ensures.err), (refl, refl)); tells = Tells-none g.E.Sink.seen c.args.outputs.now.err })

pub new-requires-clause-args : goal.new-requires-clause-args
new-requires-clause-args g c = rw c.as_slice-values.ensures ((c.in_ok-image.ensures.implements.implements.runs c.args.values.now c.requires).room)

-- no machine was made
pub returns-in_default : goal.returns-in_default
returns-in_default g c = record { same_output = refl; told = []; does = inr ((c.args.settings.limits, (refl, refl), c.in_ok-image.ensures.within), (refl, inl refl)); tells = Tells-none g.E.Sink.seen c.args.outputs.now.err }

pub returns : goal.returns
returns g c =
    let ran = rw c.as_slice-values.ensures at (rw c.prog.ensures.value at c.run_image.ensures.does) in
    record {
      same_output = ran.same_output;
      told = ran.told;
      does = inr ((c.args.settings.limits, (refl, refl), c.in_ok-image.ensures.within), ran.does);
      tells = ran.tells;
    }
