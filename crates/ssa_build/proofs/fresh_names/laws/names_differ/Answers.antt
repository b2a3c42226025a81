use Rattle.ssa_build.proofs.lemmas.fresh_names.Differing.{names-differ}
use Rattle.ssa_build.proofs.fresh_names.laws.names_differ.Goals as goal

pub returns : goal.returns
returns c = names-differ
