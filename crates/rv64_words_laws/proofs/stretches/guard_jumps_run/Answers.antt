use Rattle.rv64_words_laws.proofs.lemmas.stretches.Stretches.{guard_word_jumps}
use Rattle.rv64_words_laws.proofs.stretches.guard_jumps_run.Goals as goal

pub returns : goal.returns
returns c = guard_word_jumps
