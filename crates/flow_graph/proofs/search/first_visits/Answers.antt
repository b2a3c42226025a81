use Rattle.std.proofs.Common.{◌≡◌, ◌++◌, ◌∙◌, set, Some, length, ap, arith, length-drop}
use Rattle.std.proofs.lemmas.List.{nil_from_length}
use Rattle.flow_graph.specs.Visits.{none_open}
use Rattle.flow_graph.specs.Branches.{visiting}
use Rattle.flow_graph.proofs.Turns.{IsSearching, begun, branch_to, turn_searches, turn_falls, ended}
use Rattle.flow_graph.proofs.search.first_visits.Goals as goal

pub take-requires-clause-inside : goal.take-requires-clause-inside
take-requires-clause-inside c =
    branch_to c.args.code.now c.branches.visits.items c.branches.waiting.items c.pop_front.new.self.items c.in-Some.branch c.branches.invariant.search c.in-Some.ensures.items

pub branches-smaller : goal.branches-smaller
branches-smaller c =
    let taken = c.in_ok-take.ensures in
    turn_falls c.args.code.now c.args.rows.now c.branches.visits.items c.branches.waiting.items c.pop_front.new.self.items c.in-Some.branch c.take.new.visits.items c.take.new.waiting.items
    (record { points = c.requires.points; at = c.requires.at }) c.branches.invariant.search c.in-Some.ensures.items (record { passed = taken.passed; entered = taken.entered })

pub branches-preserved : goal.branches-preserved
branches-preserved c =
    let taken = c.in_ok-take.ensures in
    let search : IsSearching c.args.code.now c.take.new.visits.items c.take.new.waiting.items =
    turn_searches c.args.code.now c.args.rows.now c.branches.visits.items c.branches.waiting.items c.pop_front.new.self.items c.in-Some.branch c.take.new.visits.items c.take.new.waiting.items
    (record { points = c.requires.points; at = c.requires.at }) c.branches.invariant.search c.in-Some.ensures.items (record { passed = taken.passed; entered = taken.entered }) in
    record { search = search; rows = omega (arith, c.requires.points, search.search.long) }

pub branches-init : goal.branches-init
branches-init c =
    let rows = c.args.rows.now in
    let search : IsSearching c.args.code.now c.enter.new.visits.items c.enter.new.waiting.items =
    begun c.args.code.now rows c.enter.new.visits.items c.enter.new.waiting.items (record { points = c.requires.points; at = c.requires.at })
    (c.in_ok-enter.ensures.kept ∙ ap (λ vs. set vs 0 (Some none_open)) c.in_ok-visits.ensures)
    (λ row at. c.in_ok-enter.ensures.waits row at ∙ ap (λ ws. ws ++ visiting row) c.new-waiting.ensures.items) in
    record { search = search; rows = omega (arith, c.requires.points, search.search.long) }

pub returns : goal.returns
returns c =
    let same = c.in_default.ensures.items in
    let rest = c.in_default.ensures.rest in
    let none : length c.branches.waiting.items ≡ 0 = omega (arith, ap length same, ap length rest, length-drop 1 c.branches.waiting.items) in
    ended c.args.code.now c.branches.visits.items c.branches.waiting.items c.branches.invariant.search (nil_from_length c.branches.waiting.items none)
