use Rattle.ssa_laws.proofs.lemmas.reaching_definitions.Tabled.{tables-keep_types}
use Rattle.ssa_laws.proofs.reaching_definitions.laws.tables_keep_types.Goals as goal

pub returns : goal.returns
returns c = tables-keep_types
