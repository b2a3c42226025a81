use Rattle.ssa_search.proofs.lemmas.placing.Found.{finds-live_labels}
use Rattle.ssa_search.proofs.placing.search.live_labels.Goals as goal

pub returns-clause-found : goal.returns-clause-found
returns-clause-found c = finds-live_labels c.args.blocks.now.arcs c.args.seeds.now c.args.first.now c.search.new.self.found c.in_ok-search.ensures.found
