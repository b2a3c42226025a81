use Rattle.std.proofs.Common.{◌≡◌, ◌≤◌, ◌-◌, Some, length, drop, refl, sym, ap, subst, ◌∙◌, arith}
use Rattle.std.specs.Prelude.{slice_get}
use Rattle.std.proofs.lemmas.List.{drop_all}
use Rattle.std.proofs.lemmas.Option.{slice_get_read, slice_get-get_or}
use Rattle.std.specs.Prelude.{slice_index_or, false}
use Rattle.bril_tree.proofs.Branches.{label_within}
use Rattle.bril_tree.specs.Step.{point_of}
use Rattle.flow_graph.specs.Branches.{HasLabels}
use Rattle.trace_paths.specs.Path as path
use Rattle.trace_paths.specs.Path.{path_by, item_met}
use Rattle.trace_paths.specs.Walked.{later}
use Rattle.trace_paths.proofs.Steps.{lays-on, full-on, stops-on, none-on, choose-on, drop-first, point-inside}
use Rattle.trace_paths.proofs.walk.turn_at.Goals as goal

pub returns-in-To-clause-inside : goal.returns-in-To-clause-inside
returns-in-To-clause-inside c =
    let l = c.in-Some.ensures.lookup in
    let labels : HasLabels (length c.args.points.now) c.in-Some.item.now = subst (HasLabels (length c.args.points.now)) (sym l.1) (c.requires.labelled c.args.at c.in-Some.item.now l.3.0) in
    subst (λ n. n ≤ length c.args.code.now)
    (sym (point-inside c.args.code.now c.args.points.now c.in-To.label c.requires.placed (c.in-To.ensures.known (length c.args.points.now) labels))) (label_within c.in-To.label c.args.code.now)

pub returns-in-Lays-clause-path : goal.returns-in-Lays-clause-path
returns-in-Lays-clause-path c = λ next.
    let l = c.in-Some.ensures.lookup in
    let here : slice_get c.args.code.now c.args.at ≡ Some c.in-Some.item.now = slice_get_read c.args.code.now (length c.args.code.now) c.args.at c.in-Some.item.now refl l.3.0 l.1 in
    lays-on c.args.code.now next (slice_get c.args.code.now c.args.at) c.args.room (drop c.args.used c.args.choices.now) c.args.at c.item_meeting.result (c.item_meeting.ensures.met ∙ ap item_met (sym here)) c.in-Lays.is c.if-room-gt0.true

pub returns-in_default-item_meeting-clause-path : goal.returns-in_default-item_meeting-clause-path
returns-in_default-item_meeting-clause-path c = λ next.
    let l = c.in-Some.ensures.lookup in
    let here : slice_get c.args.code.now c.args.at ≡ Some c.in-Some.item.now = slice_get_read c.args.code.now (length c.args.code.now) c.args.at c.in-Some.item.now refl l.3.0 l.1 in
    full-on c.args.code.now next (slice_get c.args.code.now c.args.at) c.args.room (drop c.args.used c.args.choices.now) c.args.at c.item_meeting.result (c.item_meeting.ensures.met ∙ ap item_met (sym here)) (subst Rattle.trace_paths.proofs.Steps.IsLaid (sym c.in-Lays.is) tt) (let r = c.if-room-gt0.false in omega arith)

pub returns-in_default-item_meeting-2-clause-path : goal.returns-in_default-item_meeting-2-clause-path
returns-in_default-item_meeting-2-clause-path c = λ next.
    let l = c.in-Some.ensures.lookup in
    let here : slice_get c.args.code.now c.args.at ≡ Some c.in-Some.item.now = slice_get_read c.args.code.now (length c.args.code.now) c.args.at c.in-Some.item.now refl l.3.0 l.1 in
    none-on c.args.code.now next (slice_get c.args.code.now c.args.at) c.args.room (drop c.args.used c.args.choices.now) c.args.at c.item_meeting.result (c.item_meeting.ensures.met ∙ ap item_met (sym here)) c.in-Turns.first c.in-Turns.second c.in-Turns.is (drop_all c.args.used c.args.choices.now (let r = c.if-used-choices.false in omega arith))

pub returns-in_default-item_meeting-3-clause-path : goal.returns-in_default-item_meeting-3-clause-path
returns-in_default-item_meeting-3-clause-path c = λ next.
    let l = c.in-Some.ensures.lookup in
    let here : slice_get c.args.code.now c.args.at ≡ Some c.in-Some.item.now = slice_get_read c.args.code.now (length c.args.code.now) c.args.at c.in-Some.item.now refl l.3.0 l.1 in
    full-on c.args.code.now next (slice_get c.args.code.now c.args.at) c.args.room (drop c.args.used c.args.choices.now) c.args.at c.item_meeting.result (c.item_meeting.ensures.met ∙ ap item_met (sym here)) (subst Rattle.trace_paths.proofs.Steps.IsLaid (sym c.in-Turns.is) tt) (let r = c.if-room-gt0-2.false in omega arith)

pub returns-in_default-item_meeting-4-clause-path : goal.returns-in_default-item_meeting-4-clause-path
returns-in_default-item_meeting-4-clause-path c = λ next.
    let l = c.in-Some.ensures.lookup in
    let here : slice_get c.args.code.now c.args.at ≡ Some c.in-Some.item.now = slice_get_read c.args.code.now (length c.args.code.now) c.args.at c.in-Some.item.now refl l.3.0 l.1 in
    stops-on c.args.code.now next (slice_get c.args.code.now c.args.at) c.args.room (drop c.args.used c.args.choices.now) c.args.at c.item_meeting.result (c.item_meeting.ensures.met ∙ ap item_met (sym here)) c.in_default-item_meeting.is

pub returns-in-Turns-clause-path : goal.returns-in-Turns-clause-path
returns-in-Turns-clause-path c = λ next.
    let l = c.in-Some.ensures.lookup in
    let here : slice_get c.args.code.now c.args.at ≡ Some c.in-Some.item.now = slice_get_read c.args.code.now (length c.args.code.now) c.args.at c.in-Some.item.now refl l.3.0 l.1 in
    let choice = slice_index_or c.args.choices.now c.args.used false in
    let first : slice_get c.args.choices.now c.args.used ≡ Some (slice_index_or c.args.choices.now c.args.used false) = slice_get-get_or c.args.choices.now c.args.used false c.if-used-choices.true in
    let point : point_of (path.chosen (slice_index_or c.args.choices.now c.args.used false) c.in-Turns.first c.in-Turns.second) c.args.code.now ≡ slice_index_or c.args.points.now c.chosen.result 0 =
    ap (λ n. point_of n c.args.code.now) (sym c.chosen.ensures.is) ∙ sym (point-inside c.args.code.now c.args.points.now c.chosen.result c.requires.placed c.chosen.ensures.known) in
    choose-on c.args.code.now next (slice_get c.args.code.now c.args.at) c.args.room (drop c.args.used c.args.choices.now) c.args.at c.item_meeting.result (c.item_meeting.ensures.met ∙ ap item_met (sym here))
    c.in-Turns.first c.in-Turns.second (slice_index_or c.args.choices.now c.args.used false) c.in-Turns.is c.if-room-gt0-2.true (drop-first c.args.used c.args.choices.now (slice_index_or c.args.choices.now c.args.used false) first)
    ∙ ap (λ n. path.with_leg (path.Turn c.args.at (slice_index_or c.args.choices.now c.args.used false)) (next (c.args.room - 1) (later (drop c.args.used c.args.choices.now)) n)) point

pub returns-in-Turns-clause-inside : goal.returns-in-Turns-clause-inside
returns-in-Turns-clause-inside c = subst (λ n. n ≤ length c.args.code.now) (sym (point-inside c.args.code.now c.args.points.now c.chosen.result c.requires.placed c.chosen.ensures.known)) (label_within c.chosen.result c.args.code.now)
