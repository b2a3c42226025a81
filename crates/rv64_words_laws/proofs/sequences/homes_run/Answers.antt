use Rattle.rv64_words_laws.proofs.lemmas.sequences.Stretches.{operands, results, fills, copies}
use Rattle.rv64_words_laws.proofs.sequences.homes_run.Goals as goal

pub returns : goal.returns
returns c = record { operands = operands; results = results; fills = fills; copies = copies }
