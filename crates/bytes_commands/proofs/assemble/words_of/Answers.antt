-- The fault of the bytes is answered.
use Rattle.bytes_commands.proofs.Refusals.{refuses_listing}
use Rattle.bytes_commands.proofs.assemble.words_of.Goals as goal

pub returns-in-Err-clause-err : goal.returns-in-Err-clause-err
returns-in-Err-clause-err c = refuses_listing c.args.path.now c.args.bytes.now c.in-Err.fault c.in-Err.ensures.fault c.refusal.result c.refusal.ensures
