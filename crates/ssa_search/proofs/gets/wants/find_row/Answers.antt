use Rattle.std.proofs.Common.{◌<◌, sym, subst}
use Rattle.std.specs.List.{All, Contains}
use Rattle.flow_graph.proofs.AccessRows.{items-within}
use Rattle.ssa_search.proofs.gets.wants.find_row.Goals as goal

pub distinct-requires-clause-within : goal.distinct-requires-clause-within
distinct-requires-clause-within c =
    subst (All (λ x. x < c.args.none.now.nodes)) (sym c.as_slice.ensures.value)
    (items-within c.args.found.now.list c.args.none.now.nodes c.args.point c.in_ok-items.items.items c.requires.within c.in_ok-items.ensures)

pub returns-clause-found : goal.returns-clause-found
returns-clause-found c = λ x.
    let d = c.in_ok-distinct.ensures.found x in
    let e = c.in_ok-items.ensures x in (
      (λ h. e.0 (subst (λ l. Contains l x) c.as_slice.ensures.value (d.0 h))),
      (λ h. d.1 (subst (λ l. Contains l x) (sym c.as_slice.ensures.value) (e.1 h))),
    )
