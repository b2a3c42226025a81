use Rattle.rv64_words_laws.proofs.lemmas.blocks.Allocating.{faults_alike, allocation_keeps}
use Rattle.rv64_words_laws.proofs.blocks.allocations_are_alike.Goals as goal

pub returns : goal.returns
returns c = λ z limit blocks c n cells h fits. (faults_alike z limit blocks c cells h n fits, allocation_keeps z limit blocks c cells h n)
