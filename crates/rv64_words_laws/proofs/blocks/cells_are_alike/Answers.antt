use Rattle.rv64_words_laws.proofs.lemmas.blocks.Accesses.{accesses, loads, stores}
use Rattle.rv64_words_laws.proofs.blocks.cells_are_alike.Goals as goal

pub returns : goal.returns
returns c = record { access = accesses; load = loads; store = stores }
