use Rattle.std.proofs.Common.{sym, subst}
use Rattle.ssa_search.specs.live_entry_count.Lanes.{AreLanesBefore}
use Rattle.ssa_search.proofs.lemmas.live_entry_count.Filling.{words-are}
use Rattle.ssa_search.proofs.live_entry_count.search.search_lanes.Goals as goal

pub returns-clause-words : goal.returns-clause-words
returns-clause-words c = λ code few leads blocks.
    let b = c.args.blocks.now in
    words-are code few leads b.heads.items b.arcs b.accesses.exposed.list b.accesses.firsts.list blocks c.args.base c.fill.new.lanes.points.items c.as_slice.result.now
    (subst (AreLanesBefore b.heads.items b.accesses.exposed.list b.accesses.firsts.list c.args.base 64 b.arcs.nodes c.fill.new.lanes.points.items) (sym c.as_slice.ensures.value) c.in_ok-seeds.ensures.filled) c.search.new.self.words c.in_ok-search.ensures.found
