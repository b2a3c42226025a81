-- The machine stopped, or goes on, or a write failed.
use Rattle.std.proofs.Common.{Some, None}
use Rattle.rv64_words.specs.State.{Finished, Trapped}
use Rattle.bytes_commands.proofs.Stopped.{cut_off, stopped_so}
use Rattle.bytes_commands.proofs.run.execute.Goals as goal

pub returns-in-End-clause-ok : goal.returns-in-End-clause-ok
returns-in-End-clause-ok g c =
    let ran = c.in-End.ensures.ran in
    stopped_so c.args.image.now c.args.settings.limits c.args.values.now c.args.settings.steps c.args.machine.now c.requires _ _ _ (Some (Finished c.in-End.end)) ran.0 ran.1

pub returns-in-Spent-clause-ok : goal.returns-in-Spent-clause-ok
returns-in-Spent-clause-ok g c =
    let ran = c.in-Spent.ensures.ran in
    stopped_so c.args.image.now c.args.settings.limits c.args.values.now c.args.settings.steps c.args.machine.now c.requires _ _ _ None ran.0 ran.1

pub returns-in-Trap-clause-ok : goal.returns-in-Trap-clause-ok
returns-in-Trap-clause-ok g c =
    let ran = c.in-Trap.ensures.ran in
    stopped_so c.args.image.now c.args.settings.limits c.args.values.now c.args.settings.steps c.args.machine.now c.requires _ _ _ (Some (Trapped c.in-Trap.trap)) ran.0 ran.1

pub returns-in-WriteFault-clause-err : goal.returns-in-WriteFault-clause-err
returns-in-WriteFault-clause-err g c =
    cut_off c.args.image.now c.args.settings.limits c.args.values.now c.args.settings.steps c.args.machine.now c.requires _ _ _ c.in-WriteFault.ensures.ran
