use Rattle.ssa_search.proofs.lemmas.renaming.Sweeping.{sweep-tells_tables}
use Rattle.ssa_search.proofs.renaming.laws.sweep_tells_tables.Goals as goal

pub returns : goal.returns
returns c = sweep-tells_tables
