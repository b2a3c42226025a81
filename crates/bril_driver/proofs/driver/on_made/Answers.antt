-- What was done with what the passes make of the program.
use Rattle.std.proofs.Common.{[], refl}
use Rattle.bril_report.proofs.Telling.{Tells-none}
use Rattle.bril_driver.proofs.driver.on_made.Goals as goal

pub returns-in-Run-clause-does : goal.returns-in-Run-clause-does
returns-in-Run-clause-does g c = rw c.in-Run.is c.run.ensures.does

pub returns-in-Emit-clause-does : goal.returns-in-Emit-clause-does
returns-in-Emit-clause-does g c =
    rw c.in-Emit.is (record { same_output = refl; told = []; does = c.put_image.ensures.does; tells = Tells-none g.E.Sink.seen c.args.outputs.now.err })

pub returns-in-List-clause-does : goal.returns-in-List-clause-does
returns-in-List-clause-does g c =
    rw c.in-List.is (record { same_output = refl; told = []; does = c.put_listing.ensures.does; tells = Tells-none g.E.Sink.seen c.args.outputs.now.err })

pub returns-in-Wrap-clause-does : goal.returns-in-Wrap-clause-does
returns-in-Wrap-clause-does g c =
    rw c.in-Wrap.is (record { same_output = refl; told = []; does = c.put_file.ensures.does; tells = Tells-none g.E.Sink.seen c.args.outputs.now.err })

pub returns-in-Passes-clause-does : goal.returns-in-Passes-clause-does
returns-in-Passes-clause-does g c = rw c.in-Passes.is c.put_transformed.ensures.does
