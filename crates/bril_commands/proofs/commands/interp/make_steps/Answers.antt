-- A run of the interpreter makes the steps of the program, or a write fails, or memory runs out.
use Rattle.std.proofs.Common.{refl, inl, inr}
use Rattle.bril_commands.proofs.Interpreting.{ended, goes_on, exhausted, failed}
use Rattle.bril_commands.proofs.commands.interp.make_steps.Goals as goal

pub returns-in-Go-clause-ok : goal.returns-in-Go-clause-ok
returns-in-Go-clause-ok g c = goes_on c.args.interp.now c.args.program.now c.args.settings.limits c.args.values.now c.requires c.args.settings.steps _ _ _ c.in-Go.ensures

pub returns-in-End-clause-ok : goal.returns-in-End-clause-ok
returns-in-End-clause-ok g c = ended c.args.interp.now c.args.program.now c.args.settings.limits c.args.values.now c.requires c.args.settings.steps _ _ _ c.in-End.end c.in-End.ensures

pub returns-in-WriteFault-clause-err : goal.returns-in-WriteFault-clause-err
returns-in-WriteFault-clause-err g c = (refl, inl (failed c.args.interp.now c.args.program.now c.args.settings.limits c.args.values.now c.requires c.args.settings.steps _ _ _ c.in-WriteFault.ensures))

pub returns-in-Ok-clause-err : goal.returns-in-Ok-clause-err
returns-in-Ok-clause-err g c = (refl, exhausted c.args.interp.now c.args.program.now c.args.settings.limits c.args.values.now c.requires c.args.settings.steps _ _ _ c.in-Memory.ensures c.in-Ok.ensures.kept (inl c.in-Ok.ensures.ok))

pub returns-in-Err-clause-err : goal.returns-in-Err-clause-err
returns-in-Err-clause-err g c = (refl, exhausted c.args.interp.now c.args.program.now c.args.settings.limits c.args.values.now c.requires c.args.settings.steps _ _ _ c.in-Memory.ensures c.in-Err.ensures.kept (inr c.in-Err.ensures.err))
