use Rattle.std.proofs.Common.{◌<◌, ◌∙◌, ap, length, sym, subst}
use Rattle.std.specs.List.{All}
use Rattle.dead_code.proofs.Looking.{readers-within, alive-within, searched}
use Rattle.dead_code.proofs.work.Work.search.Goals as goal

pub alive-requires : goal.alive-requires
alive-requires c =
    let code = c.args._func.now.code in
    let dead = c.args.self.now.dead.items in
    subst (All (λ item. item < length dead)) (sym c.as_slice.ensures.value)
    (subst (λ n. All (λ item. item < n) c.in_ok-readers.readers.items) (sym c.requires.sound.long)
    (readers-within code dead c.reads.result.now.list (ap (λ v. v.list) c.reads.ensures ∙ c.requires.reads) c.args.location c.in_ok-readers.readers.items c.in_ok-readers.ensures))

pub search-requires-clause-items : goal.search-requires-clause-items
search-requires-clause-items c =
    let code = c.args._func.now.code in
    let dead = c.args.self.now.dead.items in
    let points = c.args.flow.now.points in
    subst (All (λ item. item < points)) (sym c.as_slice-2.ensures.value)
    (alive-within code dead c.reads.result.now.list (ap (λ v. v.list) c.reads.ensures ∙ c.requires.reads) c.args.location c.in_ok-readers.readers.items c.in_ok-readers.ensures c.requires.sound c.in_ok-alive.alive.items (rw c.as_slice.ensures.value at c.in_ok-alive.ensures) points c.requires.total)

pub returns-clause-searched : goal.returns-clause-searched
returns-clause-searched c =
    let code = c.args._func.now.code in
    let dead = c.args.self.now.dead.items in
    searched code dead c.reads.result.now.list (ap (λ v. v.list) c.reads.ensures ∙ c.requires.reads) c.args.location c.in_ok-readers.readers.items c.in_ok-readers.ensures c.requires.sound c.in_ok-alive.alive.items (rw c.as_slice.ensures.value at c.in_ok-alive.ensures)
    c.args.flow.now.arcs c.requires.arcs c.as_slice-2.result.now c.search.new.reached.found c.as_slice-2.ensures.value c.in_ok-search.ensures.found c.args.self.now.queued.items
