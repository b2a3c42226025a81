use Rattle.std.proofs.Common.{false, ◌∙◌, ap, subst}
use Rattle.bril_tree.specs.Accepted.{IsAccepted}
use Rattle.bril_tree.specs.Literals.{AreLiteralsInRange}
use Rattle.bril_tree.specs.Size.{IsCounted}
use Rattle.rv64_emit.specs.Placed.{all_homes, placed_homes}
use Rattle.rv64_emit.proofs.Fronts.{front_emitted, front_fits, front_stack}
use Rattle.rv64_emit.proofs.emit.Goals as goal

pub image_of-requires-clause-fits : goal.image_of-requires-clause-fits
image_of-requires-clause-fits c =
    let p = c.args.prog.now.prog in
    let front = c.in_ok-front.front in
    front_fits p c.args.limits (subst IsAccepted c.prog.ensures.value c.prog.ensures.accepted) (subst AreLiteralsInRange c.prog.ensures.value c.literals_are_in_range.ensures) front (c.in_ok-front.ensures {u = tt}).made false
    (all_homes c.of-homes.result) (c.of-homes.ensures ∙ ap (placed_homes false front.slots front.placed) c.as_slice.ensures) (subst IsCounted c.prog.ensures.value c.prog.ensures.counted)

pub image_of-requires-clause-stack : goal.image_of-requires-clause-stack
image_of-requires-clause-stack c =
    let p = c.args.prog.now.prog in
    let front = c.in_ok-front.front in
    front_stack p c.args.limits (subst IsAccepted c.prog.ensures.value c.prog.ensures.accepted) (subst AreLiteralsInRange c.prog.ensures.value c.literals_are_in_range.ensures) front (c.in_ok-front.ensures {u = tt}).made false
    (all_homes c.of-homes.result) (c.of-homes.ensures ∙ ap (placed_homes false front.slots front.placed) c.as_slice.ensures)

pub returns-clause-implements : goal.returns-clause-implements
returns-clause-implements c =
    let p = c.args.prog.now.prog in
    let front = c.in_ok-front.front in
    let made =
    front_emitted p c.args.limits (subst IsAccepted c.prog.ensures.value c.prog.ensures.accepted) (subst AreLiteralsInRange c.prog.ensures.value c.literals_are_in_range.ensures) front (c.in_ok-front.ensures {u = tt}).made false
    (all_homes c.of-homes.result) (c.of-homes.ensures ∙ ap (placed_homes false front.slots front.placed) c.as_slice.ensures) c.in_ok-image_of.field-0 (c.in_ok-image_of.ensures {u = tt}) in
    made.implements

pub returns-clause-placed : goal.returns-clause-placed
returns-clause-placed c =
    let p = c.args.prog.now.prog in
    let front = c.in_ok-front.front in
    let made =
    front_emitted p c.args.limits (subst IsAccepted c.prog.ensures.value c.prog.ensures.accepted) (subst AreLiteralsInRange c.prog.ensures.value c.literals_are_in_range.ensures) front (c.in_ok-front.ensures {u = tt}).made false
    (all_homes c.of-homes.result) (c.of-homes.ensures ∙ ap (placed_homes false front.slots front.placed) c.as_slice.ensures) c.in_ok-image_of.field-0 (c.in_ok-image_of.ensures {u = tt}) in
    made.placed

pub returns-clause-words : goal.returns-clause-words
returns-clause-words c =
    let p = c.args.prog.now.prog in
    let front = c.in_ok-front.front in
    let made =
    front_emitted p c.args.limits (subst IsAccepted c.prog.ensures.value c.prog.ensures.accepted) (subst AreLiteralsInRange c.prog.ensures.value c.literals_are_in_range.ensures) front (c.in_ok-front.ensures {u = tt}).made false
    (all_homes c.of-homes.result) (c.of-homes.ensures ∙ ap (placed_homes false front.slots front.placed) c.as_slice.ensures) c.in_ok-image_of.field-0 (c.in_ok-image_of.ensures {u = tt}) in
    made.words

pub returns-clause-guards : goal.returns-clause-guards
returns-clause-guards c =
    let p = c.args.prog.now.prog in
    let front = c.in_ok-front.front in
    let made =
    front_emitted p c.args.limits (subst IsAccepted c.prog.ensures.value c.prog.ensures.accepted) (subst AreLiteralsInRange c.prog.ensures.value c.literals_are_in_range.ensures) front (c.in_ok-front.ensures {u = tt}).made false
    (all_homes c.of-homes.result) (c.of-homes.ensures ∙ ap (placed_homes false front.slots front.placed) c.as_slice.ensures) c.in_ok-image_of.field-0 (c.in_ok-image_of.ensures {u = tt}) in
    made.guards

pub returns-clause-stack : goal.returns-clause-stack
returns-clause-stack c =
    let p = c.args.prog.now.prog in
    let front = c.in_ok-front.front in
    let made =
    front_emitted p c.args.limits (subst IsAccepted c.prog.ensures.value c.prog.ensures.accepted) (subst AreLiteralsInRange c.prog.ensures.value c.literals_are_in_range.ensures) front (c.in_ok-front.ensures {u = tt}).made false
    (all_homes c.of-homes.result) (c.of-homes.ensures ∙ ap (placed_homes false front.slots front.placed) c.as_slice.ensures) c.in_ok-image_of.field-0 (c.in_ok-image_of.ensures {u = tt}) in
    made.stack
