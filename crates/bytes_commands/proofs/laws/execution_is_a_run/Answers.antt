use Rattle.bytes_commands.proofs.Executions.{execution_is_a_run}
use Rattle.bytes_commands.proofs.laws.execution_is_a_run.Goals as goal

pub returns : goal.returns
returns c = execution_is_a_run
