use Rattle.ssa_laws.proofs.lemmas.reaching_definitions.Tabled.{tables-agree}
use Rattle.ssa_laws.proofs.reaching_definitions.laws.tables_agree.Goals as goal

pub returns : goal.returns
returns c = tables-agree
