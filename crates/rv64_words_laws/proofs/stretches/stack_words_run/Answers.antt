use Rattle.rv64_words_laws.proofs.lemmas.stretches.Stretches.{stack_load, stack_store}
use Rattle.rv64_words_laws.proofs.stretches.stack_words_run.Goals as goal

pub returns : goal.returns
returns c = record { loads = stack_load; stores = stack_store }
