use Rattle.rv64_words_laws.proofs.lemmas.stretches.Stretches.{computing_words}
use Rattle.rv64_words_laws.proofs.stretches.computing_words_run.Goals as goal

pub returns : goal.returns
returns c = computing_words
