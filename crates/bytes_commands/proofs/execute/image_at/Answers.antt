-- The image of the file, or the fault of the bytes is answered.
use Rattle.bytes_commands.proofs.Refusals.{refuses_file}
use Rattle.bytes_commands.proofs.execute.image_at.Goals as goal

pub returns-in-Ok-clause-ok : goal.returns-in-Ok-clause-ok
returns-in-Ok-clause-ok c = record { file = c.in-Ok.ensures.found; unguarded = c.in-Ok.ensures.guards }

pub returns-in-Err-clause-err : goal.returns-in-Err-clause-err
returns-in-Err-clause-err c = refuses_file c.args.path.now c.args.bytes.now c.in-Err.fault c.in-Err.ensures.fault c.refusal.result c.refusal.ensures
