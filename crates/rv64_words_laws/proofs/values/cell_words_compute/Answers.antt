use Rattle.rv64_words_laws.proofs.lemmas.values.Cells.{cell_words_find, cell_words_fault, load_words_give, load_words_fault, mark_words_run, store_words_run}
use Rattle.rv64_words_laws.proofs.values.cell_words_compute.Goals as goal

pub returns : goal.returns
returns c = record { finds = cell_words_find; access = cell_words_fault; loads = load_words_give; uninit = load_words_fault; marks = mark_words_run; stores = store_words_run }
