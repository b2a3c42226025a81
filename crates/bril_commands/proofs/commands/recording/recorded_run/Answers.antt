-- A new recorder stands for every run without steps.
use Rattle.bril_commands.proofs.commands.recording.recorded_run.Goals as goal

pub make_steps-requires-clause-new : goal.make_steps-requires-clause-new
make_steps-requires-clause-new c = c.new-recorder.ensures c.prog.result.now
