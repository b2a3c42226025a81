use Rattle.rv64_words_laws.proofs.lemmas.sequences.Stretches.{frame_loads, frame_stores}
use Rattle.rv64_words_laws.proofs.sequences.frame_words_run.Goals as goal

pub returns : goal.returns
returns c = record { loads = frame_loads; stores = frame_stores }
