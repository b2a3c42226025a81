-- There was no memory for the text, or it was put, or its put failed, and the tallies were told.
use Rattle.std.proofs.Common.{[], ◌∷◌, refl, inl}
use Rattle.std.proofs.lemmas.Result.{err_from_is_err_and}
use Rattle.bril_report.proofs.Telling.{Tells-none}
use Rattle.bril_report.specs.StageFaults.{status_of}
use Rattle.bril_commands.proofs.Works.{Works-told}
use Rattle.bril_commands.specs.commands.Passes.{PutsTextOf}
use Rattle.bril_commands.proofs.commands.passes.put_made.Goals as goal

pub returns-in_err-text : goal.returns-in_err-text
returns-in_err-text g c =
    let e = err_from_is_err_and c.from_residual.result c.from_residual.ensures.1 in
    rw (e.1, e.2) (record { same_output = refl; told = []; does = (refl, inl refl); tells = Tells-none g.E.Sink.seen c.args.outputs.now.err })

pub returns : goal.returns
returns g c =
    let put = rw c.as_slice.ensures at c.put_text-put.ensures in
    let q = c.args.program.now in
    let works = Works-told _ (PutsTextOf q) (c.in_ok-text.text ∷ []) (record { text = c.in_ok-text.text; is = c.in_ok-text.ensures; one = refl }) (status_of c.put_text-put.result) _ _ put in
    record { same_output = refl; told = _; does = works; tells = c.tell_tallies.ensures }
