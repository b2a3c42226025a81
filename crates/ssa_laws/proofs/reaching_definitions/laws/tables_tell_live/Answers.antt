use Rattle.ssa_laws.proofs.lemmas.reaching_definitions.Tabled.{tables-tell_live}
use Rattle.ssa_laws.proofs.reaching_definitions.laws.tables_tell_live.Goals as goal

pub returns : goal.returns
returns c = tables-tell_live
