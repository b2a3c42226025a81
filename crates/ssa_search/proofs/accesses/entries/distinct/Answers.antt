use Rattle.ssa_search.proofs.lemmas.accesses.Labels.{only-seeds}
use Rattle.ssa_search.proofs.accesses.entries.distinct.Goals as goal

pub returns-clause-found : goal.returns-clause-found
returns-clause-found c = λ node.
    let s = only-seeds c.args.none.now.arcs c.requires.none c.args.nodes.now _ node in
    let f = c.in_ok-search.ensures.found node in
    ((λ h. s.0 (f.0 h)), (λ h. f.1 (s.1 h)))
