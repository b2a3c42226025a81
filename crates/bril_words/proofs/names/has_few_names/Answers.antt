-- A list has one name more than commas.
use Rattle.std.proofs.Common.{◌∙◌, ap}
use Rattle.std.specs.Prelude.{nat_lt}
use Rattle.bril_words.specs.Names.{has_few_names}
use Rattle.bril_words.proofs.Commas.{few_commas}
use Rattle.bril_words.proofs.names.has_few_names.Goals as goal

pub returns : goal.returns
returns c = ap (λ n. nat_lt n 64) c.commas.ensures ∙ (few_commas c.as_bytes.result.now ∙ ap has_few_names c.as_bytes.ensures.value)
