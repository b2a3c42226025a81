use Rattle.rv64_words_laws.proofs.lemmas.values.Binary.{binary_gives, binary_faults}
use Rattle.rv64_words_laws.proofs.values.binary_words_compute.Goals as goal

pub returns : goal.returns
returns c = record { gives = binary_gives; faults = binary_faults }
