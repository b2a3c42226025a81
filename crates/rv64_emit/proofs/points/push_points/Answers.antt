use Rattle.std.proofs.Common.{◌≡◌, ◌+◌, ◌<◌, ◌≤◌, ◌∙◌, List, length, Some, sym, ap, subst, arith, true≢false}
use Rattle.std.specs.Prelude.{slice_get}
use Rattle.std.proofs.lemmas.Option.{slice_get-get_or}
use Rattle.bril_tree.specs.declared.numbered.VarInfo.{VarInfo}
use Rattle.bril_tree.proofs.Acceptance.{accepted_function, shaped_function}
use Rattle.rv64_emit_laws.specs.Homes.{homes_of}
use Rattle.rv64_emit.specs.LiveVariables.{AreLiveRows}
use Rattle.rv64_emit.specs.Placed.{all_homes, homes_in}
use Rattle.rv64_emit.specs.PointLists.{ArePointsBefore}
use Rattle.rv64_emit.proofs.Pointing.{function_there, homes_here, past_items, pointed, typed_here, unpointed}
use Rattle.rv64_emit.proofs.points.push_points.Goals as goal
use Rattle.rv64_emit.proofs.points.push_points.Goals.{then-has_point+in_ok-live_homes+in_ok-push, else-has_point}

pub of_sound-requires-clause-shaped : goal.of_sound-requires-clause-shaped
of_sound-requires-clause-shaped c =
    let p = c.args.prog.now in
    let func = c.index-as_slice-number.result in
    let there = function_there p c.as_slice.result.now c.as_slice.ensures c.args.number func c.requires.inside c.index-as_slice-number.is in
    shaped_function p func (accepted_function p c.args.number func c.requires.accepted there)

pub homes_at-requires : goal.homes_at-requires
homes_at-requires c =
    let p = c.args.prog.now in
    let func = c.index-as_slice-number.result in
    let there = function_there p c.as_slice.result.now c.as_slice.ensures c.args.number func c.requires.inside c.index-as_slice-number.is in
    let made = c.in_ok-rows.ensures {u = tt} in
    let rows = c.in_ok-rows.rows.items in
    let are : AreLiveRows c.args.live.now (length func.vars) rows = subst (λ (vars : List VarInfo). AreLiveRows c.args.live.now (length vars) rows) c.as_slice-2.ensures made.rows in
    let inside : c.loop-item.item < length rows = omega (arith, c.loop-item-test.true, made.long) in
    typed_here p c.requires.accepted c.args.number func there c.args.live.now c.requires.live rows are c.loop-item.item inside
    c.as_slice-then-has_point.result.now c.index.result.now (c.as_slice-then-has_point.ensures ∙ c.index.ensures)

pub loop-item-preserved : goal.loop-item-preserved
loop-item-preserved c = λ entry table before. (
    let p = c.args.prog.now in
    let func = c.index-as_slice-number.result in
    let there = function_there p c.as_slice.result.now c.as_slice.ensures c.args.number func c.requires.inside c.index-as_slice-number.is in
    let made = c.in_ok-rows.ensures {u = tt} in
    let rows = c.in_ok-rows.rows.items in
    let are : AreLiveRows c.args.live.now (length func.vars) rows = subst (λ (vars : List VarInfo). AreLiveRows c.args.live.now (length vars) rows) c.as_slice-2.ensures made.rows in
    let inside : c.loop-item.item < length rows = omega (arith, c.loop-item-test.true, made.long) in
    let homes = all_homes c.args.homes.now in
    let item = c.loop-item.item in
    let instruction = c.index-code-item.result in
    let here : slice_get func.code item ≡ Some instruction = ap (λ code. slice_get code item) (sym c.as_slice-code.ensures) ∙ (slice_get-get_or c.as_slice-code.result.now item instruction c.loop-item-test.true ∙ ap Some (sym c.index-code-item.is)) in
    let has = c.has_point.ensures func.code (c.in_ok-graph.ensures {u = tt}) in
    let so_far = c.loop-item.invariant entry table before in
    elim c.if-has_point.branch [
      | then-has_point+in_ok-live_homes+in_ok-push w ↦
          let both = has.0 w.if-has_point.true in
          let variables = w.as_slice-then-has_point.result.now in
          let own = homes_here p c.requires.accepted c.args.number func there c.args.live.now c.requires.live rows are item inside variables w.index.result.now (w.as_slice-then-has_point.ensures ∙ w.index.ensures)
          homes (homes_in c.in_function-own.result) w.in_ok-live_homes.live_homes c.in_function-own.ensures (w.in_ok-live_homes.ensures {u = tt}) in
          subst (ArePointsBefore (homes_of homes) entry p c.args.number (item + 1)) (sym w.points-is)
          (pointed p c.requires.accepted c.args.number func there c.args.live.now c.requires.live homes entry item instruction here c.loop-item.points so_far both.0 both.1
          w.place-word.result (w.place-word.ensures.value ∙ table item) w.in_ok-live_homes.live_homes own w.push.new.self (w.in_ok-push.ensures {u = tt}).ok)
      | else-has_point w ↦
          subst (ArePointsBefore (homes_of homes) entry p c.args.number (item + 1)) (sym w.points-is)
          (unpointed p c.requires.accepted c.args.number func there c.args.live.now c.requires.live homes entry item instruction here c.loop-item.points so_far
          (λ both. true≢false (sym (has.1 both) ∙ w.if-has_point.false)))
    ])

pub returns : goal.returns
returns c = λ entry table before. (
    let p = c.args.prog.now in
    let func = c.index-as_slice-number.result in
    let there = function_there p c.as_slice.result.now c.as_slice.ensures c.args.number func c.requires.inside c.index-as_slice-number.is in
    let end : length func.code ≤ c.loop-item.item = omega (arith, ap length c.as_slice-code.ensures, c.loop-item-test.false) in
    past_items p c.requires.accepted c.args.number func there c.args.live.now c.requires.live (all_homes c.args.homes.now) entry c.loop-item.item c.loop-item.points end (c.loop-item.invariant entry table before))
