use Rattle.rv64_words_laws.proofs.lemmas.blocks.Freeing.{frees_alike, free_keeps}
use Rattle.rv64_words_laws.proofs.blocks.frees_are_alike.Goals as goal

pub returns : goal.returns
returns c = λ z blocks c block offset h le fits. (frees_alike z blocks c h block offset le fits, free_keeps z blocks c h block offset)
