use Rattle.std.proofs.Common.{◌≡◌, ◌<◌, true, false, sym, subst}
use Rattle.std.specs.Prelude.{is_some}
use Rattle.std.specs.List.{All}
use Rattle.std.proofs.lemmas.Option.{slice_get_within, get_or_from_slice_get}
use Rattle.bril_tree.specs.Shape.{is_shaped}
use Rattle.bril_checker.proofs.Positions.{all_pass}
use Rattle.dead_code.specs.Emptied.{IsCleared}
use Rattle.graph_search.specs.Marks.{is_marked}
use Rattle.dead_code.specs.Work.{remaining}
use Rattle.dead_code.proofs.Clearing.{all-cleared}
use Rattle.dead_code.proofs.work.cleared.Goals as goal

pub returns-clause-cleared : goal.returns-clause-cleared
returns-clause-cleared c =
    let code = c.args.func.now.code in
    let ret = is_some c.args.func.now.ret in
    let work = c.loop-location.work in
    subst (λ d. IsCleared code (remaining code d)) (sym c.in_default.ensures.dead)
    (all-cleared code ret work.dead.items work.queue.items work.queued.items c.args.assignments.now.list c.requires.assignments
    (subst (λ n. All (λ access. access.location < n) c.args.assignments.now.list) (sym c.loop-location.invariant.count) c.requires.above)
    (λ item p at. subst (λ a. is_shaped ret a ≡ true) (get_or_from_slice_get code p item item at) (all_pass (is_shaped ret) code (sym c.requires.shaped) p item (slice_get_within code p item at)))
    c.loop-location.invariant.work
    (λ n. subst (λ q. is_marked q n ≡ false) c.in_default.ensures.none_left (c.in_default.ensures.none n)))
