-- The machine ended as the program does, or goes on; or a write fails.
use Rattle.std.proofs.Common.{Some, None}
use Rattle.image_runs.proofs.Runs.{whole, partly, no_trap}
use Rattle.image_runs.proofs.run.execute.Goals as goal

pub unreachable-requires : goal.unreachable-requires
unreachable-requires g c = no_trap c.args.image.now c.args.program.now c.args.settings.limits c.args.values.now c.requires.implements c.requires.fits c.args.settings.steps c.args.machine.now c.requires.fresh _ _ _ _ c.in-Trap.ensures.ran

pub returns-in-End-clause-ok : goal.returns-in-End-clause-ok
returns-in-End-clause-ok g c =
    let ran = c.in-End.ensures.ran in
    whole c.args.image.now c.args.program.now c.args.settings.limits c.args.values.now c.requires.implements c.requires.fits c.args.settings.steps c.args.machine.now c.requires.fresh _ _ _ (Some c.in-End.end) ran.0 ran.1 c.args.settings.stats

pub returns-in-Spent-clause-ok : goal.returns-in-Spent-clause-ok
returns-in-Spent-clause-ok g c =
    let ran = c.in-Spent.ensures.ran in
    whole c.args.image.now c.args.program.now c.args.settings.limits c.args.values.now c.requires.implements c.requires.fits c.args.settings.steps c.args.machine.now c.requires.fresh _ _ _ None ran.0 ran.1 c.args.settings.stats

pub returns-in-WriteFault-clause-err : goal.returns-in-WriteFault-clause-err
returns-in-WriteFault-clause-err g c =
    partly c.args.image.now c.args.program.now c.args.settings.limits c.args.values.now c.requires.implements c.requires.fits c.args.settings.steps c.args.machine.now c.requires.fresh _ _ _ c.args.settings.stats c.in-WriteFault.ensures.ran
