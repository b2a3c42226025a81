use Rattle.ssa_build.proofs.lemmas.fresh_names.Differing.{names-stay_short}
use Rattle.ssa_build.proofs.fresh_names.laws.names_stay_short.Goals as goal

pub returns : goal.returns
returns c = names-stay_short
