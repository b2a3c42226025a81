use Rattle.std.proofs.Common.{sym, subst}
use Rattle.std.specs.List.{All}
use Rattle.flow_graph.specs.Accesses.{Accesses}
use Rattle.dead_code.specs.Work.{IsLookedAt, assignments_from}
use Rattle.dead_code.proofs.Looking.{items-assign, looked-at}
use Rattle.dead_code.proofs.work.Work.look_at.Goals as goal

pub look_at_items-requires-clause-looking : goal.look_at_items-requires-clause-looking
look_at_items-requires-clause-looking c = record { inside = c.requires.inside; work = c.requires.work; searched = c.in_ok-search.ensures.searched }

pub look_at_items-requires-clause-items : goal.look_at_items-requires-clause-items
look_at_items-requires-clause-items c =
    let code = c.args.func.now.code in
    subst (All (Accesses (assignments_from 0 code) c.args.location)) (sym c.as_slice.ensures.value)
    (items-assign code c.args.location c.in_ok-items.items.items c.args.assignments.now.list c.requires.assignments c.in_ok-items.ensures)

pub returns-clause-work : goal.returns-clause-work
returns-clause-work c =
    let new = c.look_at_items.new.self in
    let found = c.search.new.reached.found in
    let done = c.in_ok-look_at_items.ensures in
    looked-at c.args.func.now.code new.dead.items new.queue.items new.queued.items c.args.location found c.in_ok-items.items.items c.args.assignments.now.list c.requires.assignments c.in_ok-items.ensures
    (subst (All (IsLookedAt new.dead.items found)) c.as_slice.ensures.value done.looked) done.looking
