use Rattle.ssa_search.proofs.lemmas.accesses.Heads.{arcs-between}
use Rattle.ssa_search.proofs.accesses.blocks.arc_graph.Goals as goal

pub of-requires-clause-between : goal.of-requires-clause-between
of-requires-clause-between c = arcs-between c.args.code.now c.args.arcs.items c.requires
