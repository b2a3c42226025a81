use Rattle.rv64_words_laws.proofs.lemmas.sequences.Stretches.{constants}
use Rattle.rv64_words_laws.proofs.sequences.constants_run.Goals as goal

pub returns : goal.returns
returns c = constants
