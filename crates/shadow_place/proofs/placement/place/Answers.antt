use Rattle.std.proofs.Common.{◌≡◌, length, ap, ◌∙◌, subst, arith}
use Rattle.bril_tree.specs.declared.program.Prog.{Prog}
use Rattle.bril_tree.specs.Accepted.{IsAccepted}
use Rattle.bril_tree.proofs.Elements.{zip-long}
use Rattle.slot_code.specs.Lowered.{IsLoweredFunction}
use Rattle.shadow_place.specs.declared.placed.Placed.{Placed}
use Rattle.shadow_place.proofs.Programs.{ArePlacements, accepted_lowered, few_in_registers, function_there, homes_are_apart, homes_are_own, inside_lives, inside_slots, live_are_apart, live_there, lowered_there, more_placements, tells_all_saved}
use Rattle.shadow_place.proofs.placement.place.Goals as goal

pub bounds-slots-number : goal.bounds-slots-number
bounds-slots-number c =
    inside_slots c.args.prog.now.prog c.args.slots.now c.args.lives.now (subst IsAccepted c.prog.ensures.value c.prog.ensures.accepted) c.requires.slots c.requires.lives c.prog.result.now c.prog.ensures.value c.as_slice-func-items.result.now c.as_slice-func-items.ensures c.loop-number.number c.loop-number-test.true
    c.as_slice-slots.result.now c.as_slice-slots.ensures

pub bounds-lives-number : goal.bounds-lives-number
bounds-lives-number c =
    inside_lives c.args.prog.now.prog c.args.slots.now c.args.lives.now (subst IsAccepted c.prog.ensures.value c.prog.ensures.accepted) c.requires.slots c.requires.lives c.prog.result.now c.prog.ensures.value c.as_slice-func-items.result.now c.as_slice-func-items.ensures c.loop-number.number c.loop-number-test.true
    c.as_slice-lives.result.now c.as_slice-lives.ensures

pub place_function-requires-clause-lowered : goal.place_function-requires-clause-lowered
place_function-requires-clause-lowered c =
    accepted_lowered c.args.prog.now.prog c.args.slots.now c.args.lives.now (subst IsAccepted c.prog.ensures.value c.prog.ensures.accepted) c.requires.slots c.requires.lives c.prog.result.now c.prog.ensures.value c.as_slice-func-items.result.now c.as_slice-func-items.ensures c.loop-number.number c.loop-number-test.true
    c.func-item.result c.func-item.is c.as_slice-slots.result.now c.as_slice-slots.ensures c.index-slots-number.result c.index-slots-number.is

pub place_function-requires-clause-live : goal.place_function-requires-clause-live
place_function-requires-clause-live c =
    live_there c.args.prog.now.prog c.args.slots.now c.args.lives.now (subst IsAccepted c.prog.ensures.value c.prog.ensures.accepted) c.requires.slots c.requires.lives c.prog.result.now c.prog.ensures.value c.as_slice-func-items.result.now c.as_slice-func-items.ensures c.loop-number.number c.loop-number-test.true
    c.func-item.result c.func-item.is c.as_slice-lives.result.now c.as_slice-lives.ensures c.index-lives-number.result c.index-lives-number.is

pub loop-number-preserved : goal.loop-number-preserved
loop-number-preserved c =
    let p = c.args.prog.now.prog in
    let accepted : IsAccepted p = subst IsAccepted c.prog.ensures.value c.prog.ensures.accepted in
    let f = c.func-item.result in
    let g = c.index-slots-number.result in
    let there = function_there p c.args.slots.now c.args.lives.now accepted c.requires.slots c.requires.lives c.prog.result.now c.prog.ensures.value c.as_slice-func-items.result.now c.as_slice-func-items.ensures c.loop-number.number c.loop-number-test.true f c.func-item.is in
    let lowered = lowered_there p c.args.slots.now c.args.lives.now accepted c.requires.slots c.requires.lives c.prog.result.now c.prog.ensures.value c.as_slice-func-items.result.now c.as_slice-func-items.ensures c.loop-number.number c.loop-number-test.true f c.func-item.is
    c.as_slice-slots.result.now c.as_slice-slots.ensures g c.index-slots-number.is in
    more_placements p.funcs c.args.slots.now.funcs c.loop-number.number c.loop-number.funcs.items c.push.new.self.items f g c.in_ok-place_function.field-0 there lowered c.in_ok-push.ensures.items c.loop-number.invariant c.in_ok-place_function.ensures

pub returns : goal.returns
returns c =
    let p = c.args.prog.now.prog in
    let slots = c.args.slots.now in
    let placed : Placed = record { funcs = c.loop-number.funcs } in
    let same : c.as_slice-func-items.result.now ≡ p.funcs = c.as_slice-func-items.ensures ∙ ap (λ (q : Prog). q.funcs) c.prog.ensures.value in
    let done : c.loop-number.number ≡ length p.funcs = omega (arith, c.loop-number-test.false, ap length same) in
    let long = zip-long IsLoweredFunction p.funcs slots.funcs c.requires.slots.funcs in
    let are = subst (λ n. ArePlacements p.funcs slots.funcs n placed.funcs.items) done c.loop-number.invariant in
    record {
      apart = homes_are_apart p slots placed long are;
      live = live_are_apart p slots placed long are;
      saved = tells_all_saved p slots placed long are;
      own = homes_are_own p slots placed long are;
      registers = few_in_registers p slots placed long are;
    }
