-- The image was run, and its line put.
use Rattle.std.proofs.Common.{[], refl, inl}
use Rattle.std.proofs.lemmas.Result.{err_from_is_err_and}
use Rattle.bril_commands.proofs.Works.{Shows-flushed, Shows-unflushed}
use Rattle.bril_commands.specs.commands.Demo.{MadeRuns, demonstrated}
use Rattle.bril_report.proofs.Telling.{Tells-none}
use Rattle.bril_report.specs.StageFaults.{status_of}
use Rattle.image_runs.proofs.Demos.{goes_on, line_works}
use Rattle.image_runs.specs.Demo.{size_seen}
use Rattle.image_commands.proofs.demo.run_image.Goals as goal

pub new-requires-clause-args : goal.new-requires-clause-args
new-requires-clause-args g c = (c.requires.implements.implements.runs [] c.requires.fits).room

pub returns-in-Some : goal.returns-in-Some
returns-in-Some g c =
    let did = rw (c.bytes.ensures, c.done.ensures) at c.show.ensures in
    record {
      same_output = did.same_output;
      told = did.told;
      does = line_works (size_seen c.args.counts) c.args.program.now c.args.limits _ _ c.in-Some.end c.in-Some.ensures (status_of c.show.result) did.told _ _ did.does;
      tells = did.tells;
    }

pub returns-in_err-hand_on-in-None : goal.returns-in_err-hand_on-in-None
returns-in_err-hand_on-in-None g c =
    let e = err_from_is_err_and c.from_residual.result c.from_residual.ensures.1 in
    let o = demonstrated (size_seen c.args.counts) (MadeRuns c.args.program.now c.args.limits) in
    let put = goes_on (size_seen c.args.counts) c.args.program.now c.args.limits _ _ c.in-None.ensures _ in
    rw (e.1, e.2) (record { same_output = refl; told = []; does = (refl, inl (Shows-unflushed o put c.in_err-hand_on-in-None.ensures.kept c.in_err-hand_on-in-None.ensures.err)); tells = Tells-none g.E.Sink.seen c.args.outputs.now.err })

pub returns : goal.returns
returns g c =
    let o = demonstrated (size_seen c.args.counts) (MadeRuns c.args.program.now c.args.limits) in
    let put = goes_on (size_seen c.args.counts) c.args.program.now c.args.limits _ _ c.in-None.ensures _ in
    record { same_output = refl; told = []; does = (refl, Shows-flushed o put c.in_ok-hand_on-in-None.ensures.kept c.in_ok-hand_on-in-None.ensures.ok); tells = Tells-none g.E.Sink.seen c.args.outputs.now.err }
