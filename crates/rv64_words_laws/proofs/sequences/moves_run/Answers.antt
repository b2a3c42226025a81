use Rattle.rv64_words_laws.proofs.lemmas.sequences.Stretches.{saves, restores}
use Rattle.rv64_words_laws.proofs.sequences.moves_run.Goals as goal

pub returns : goal.returns
returns c = record { saves = saves; restores = restores }
