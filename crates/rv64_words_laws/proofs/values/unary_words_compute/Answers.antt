use Rattle.rv64_words_laws.proofs.lemmas.values.Unary.{unary_gives, unary_faults}
use Rattle.rv64_words_laws.proofs.values.unary_words_compute.Goals as goal

pub returns : goal.returns
returns c = record { gives = unary_gives; faults = unary_faults }
