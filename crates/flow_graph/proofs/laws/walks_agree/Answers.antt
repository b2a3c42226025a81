use Rattle.flow_graph.proofs.FirstWalks.{reached_have_first, first_walks_are_one}
use Rattle.flow_graph.proofs.OpenSites.{sound_walks_agree}
use Rattle.flow_graph.proofs.laws.walks_agree.Goals as goal

pub returns-clause-first : goal.returns-clause-first
returns-clause-first c = reached_have_first

pub returns-clause-one : goal.returns-clause-one
returns-clause-one c = first_walks_are_one

pub returns-clause-agree : goal.returns-clause-agree
returns-clause-agree c = sound_walks_agree
