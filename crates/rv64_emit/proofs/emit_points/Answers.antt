use Rattle.std.proofs.Common.{true, ◌∙◌, length, refl, ap, subst, arith}
use Rattle.bril_tree.specs.declared.program.Prog.{Prog}
use Rattle.bril_tree.specs.Accepted.{IsAccepted}
use Rattle.bril_tree.specs.Literals.{AreLiteralsInRange}
use Rattle.bril_tree.specs.Size.{IsCounted}
use Rattle.bril_tree.proofs.Elements.{zip-long}
use Rattle.rv64_emit_laws.specs.Homes.{homes_of}
use Rattle.rv64_emit_laws.specs.layout.Image.{entry_at}
use Rattle.rv64_image_laws.specs.ProgramPoints.{ArePointsOf}
use Rattle.slot_code.specs.Lowered.{IsLoweredFunction}
use Rattle.rv64_emit.specs.Placed.{all_homes, placed_homes}
use Rattle.rv64_emit.proofs.Fronts.{front_emitted, front_fits, front_listed, front_shown, front_stack}
use Rattle.rv64_emit.proofs.emit_points.Goals as goal

pub image_of-requires-clause-fits : goal.image_of-requires-clause-fits
image_of-requires-clause-fits c =
    let p = c.args.prog.now.prog in
    let front = c.in_ok-front.front in
    front_fits p c.args.limits (subst IsAccepted c.prog.ensures.value c.prog.ensures.accepted) (subst AreLiteralsInRange c.prog.ensures.value c.literals_are_in_range.ensures) front (c.in_ok-front.ensures {u = tt}).made true
    (all_homes c.of-homes.result) (c.of-homes.ensures ∙ ap (placed_homes true front.slots front.placed) c.as_slice-lives.ensures) (subst IsCounted c.prog.ensures.value c.prog.ensures.counted)

pub image_of-requires-clause-stack : goal.image_of-requires-clause-stack
image_of-requires-clause-stack c =
    let p = c.args.prog.now.prog in
    let front = c.in_ok-front.front in
    front_stack p c.args.limits (subst IsAccepted c.prog.ensures.value c.prog.ensures.accepted) (subst AreLiteralsInRange c.prog.ensures.value c.literals_are_in_range.ensures) front (c.in_ok-front.ensures {u = tt}).made true
    (all_homes c.of-homes.result) (c.of-homes.ensures ∙ ap (placed_homes true front.slots front.placed) c.as_slice-lives.ensures)

pub points_of-requires-clause-functions : goal.points_of-requires-clause-functions
points_of-requires-clause-functions c =
    let p = c.args.prog.now.prog in
    let front = c.in_ok-front.front in
    let made = (c.in_ok-front.ensures {u = tt}).made in
    omega (arith, zip-long IsLoweredFunction p.funcs front.slots.funcs made.lowered.funcs, ap (λ (q : Prog). length q.funcs) c.prog-2.ensures.value)

pub points_of-requires-clause-fits : goal.points_of-requires-clause-fits
points_of-requires-clause-fits c =
    let p = c.args.prog.now.prog in
    let front = c.in_ok-front.front in
    front_fits p c.args.limits (subst IsAccepted c.prog.ensures.value c.prog.ensures.accepted) (subst AreLiteralsInRange c.prog.ensures.value c.literals_are_in_range.ensures) front (c.in_ok-front.ensures {u = tt}).made true
    (all_homes c.of-homes.result) (c.of-homes.ensures ∙ ap (placed_homes true front.slots front.placed) c.as_slice-lives.ensures) (subst IsCounted c.prog.ensures.value c.prog.ensures.counted)

pub returns-clause-words : goal.returns-clause-words
returns-clause-words c =
    let p = c.args.prog.now.prog in
    let front = c.in_ok-front.front in
    let made =
    front_emitted p c.args.limits (subst IsAccepted c.prog.ensures.value c.prog.ensures.accepted) (subst AreLiteralsInRange c.prog.ensures.value c.literals_are_in_range.ensures) front (c.in_ok-front.ensures {u = tt}).made true
    (all_homes c.of-homes.result) (c.of-homes.ensures ∙ ap (placed_homes true front.slots front.placed) c.as_slice-lives.ensures) c.in_ok-image.image (c.in_ok-image.ensures {u = tt}) in
    made.words

pub returns-clause-guards : goal.returns-clause-guards
returns-clause-guards c =
    let p = c.args.prog.now.prog in
    let front = c.in_ok-front.front in
    let made =
    front_emitted p c.args.limits (subst IsAccepted c.prog.ensures.value c.prog.ensures.accepted) (subst AreLiteralsInRange c.prog.ensures.value c.literals_are_in_range.ensures) front (c.in_ok-front.ensures {u = tt}).made true
    (all_homes c.of-homes.result) (c.of-homes.ensures ∙ ap (placed_homes true front.slots front.placed) c.as_slice-lives.ensures) c.in_ok-image.image (c.in_ok-image.ensures {u = tt}) in
    made.guards

pub returns-clause-stack : goal.returns-clause-stack
returns-clause-stack c =
    let p = c.args.prog.now.prog in
    let front = c.in_ok-front.front in
    let made =
    front_emitted p c.args.limits (subst IsAccepted c.prog.ensures.value c.prog.ensures.accepted) (subst AreLiteralsInRange c.prog.ensures.value c.literals_are_in_range.ensures) front (c.in_ok-front.ensures {u = tt}).made true
    (all_homes c.of-homes.result) (c.of-homes.ensures ∙ ap (placed_homes true front.slots front.placed) c.as_slice-lives.ensures) c.in_ok-image.image (c.in_ok-image.ensures {u = tt}) in
    made.stack

pub returns-clause-shows : goal.returns-clause-shows
returns-clause-shows c =
    let p = c.args.prog.now.prog in
    let front = c.in_ok-front.front in
    let homes = all_homes c.of-homes.result in
    let points = c.in_ok-points.points in
    let its : ArePointsOf (homes_of homes) (entry_at homes front.slots) p points = subst (λ q. ArePointsOf (homes_of homes) (entry_at homes front.slots) q points) c.prog-2.ensures.value (c.in_ok-points.ensures {u = tt}) in
    front_shown p c.args.limits (subst IsAccepted c.prog.ensures.value c.prog.ensures.accepted) (subst AreLiteralsInRange c.prog.ensures.value c.literals_are_in_range.ensures) front (c.in_ok-front.ensures {u = tt}).made true
    homes (c.of-homes.ensures ∙ ap (placed_homes true front.slots front.placed) c.as_slice-lives.ensures) points its refl c.in_ok-image.image (c.in_ok-image.ensures {u = tt})

pub returns-clause-lists : goal.returns-clause-lists
returns-clause-lists c =
    let p = c.args.prog.now.prog in
    let front = c.in_ok-front.front in
    let homes = all_homes c.of-homes.result in
    let points = c.in_ok-points.points in
    let its : ArePointsOf (homes_of homes) (entry_at homes front.slots) p points = subst (λ q. ArePointsOf (homes_of homes) (entry_at homes front.slots) q points) c.prog-2.ensures.value (c.in_ok-points.ensures {u = tt}) in
    front_listed p c.args.limits (subst IsAccepted c.prog.ensures.value c.prog.ensures.accepted) (subst AreLiteralsInRange c.prog.ensures.value c.literals_are_in_range.ensures) front (c.in_ok-front.ensures {u = tt}).made true
    homes (c.of-homes.ensures ∙ ap (placed_homes true front.slots front.placed) c.as_slice-lives.ensures) points its
