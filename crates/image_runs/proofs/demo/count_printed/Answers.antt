-- The machine ended as the program does, or goes on; a sink that counts doesn't fail.
use Rattle.std.proofs.Common.{[], Some, None, ap, ◌∙◌, length}
use Rattle.bril_outside.specs.Sink.{Counted, amount_after, joined}
use Rattle.image_runs.proofs.Demos.{never_fails}
use Rattle.image_runs.proofs.Runs.{counted, no_trap}
use Rattle.image_runs.proofs.demo.count_printed.Goals as goal

pub returns-in-End : goal.returns-in-End
returns-in-End c =
    let ran = c.in-End.ensures.ran in
    let runs = counted c.args.image.now c.args.program.now c.args.limits [] c.requires.implements c.requires.fits 1000000000000 c.args.machine.now c.requires.fresh _ _ _ (Some c.in-End.end) ran.0 ran.1 in
    record { printed = runs.0; runs = runs.1; counted = runs.2 ∙ ap (λ (k : Counted). amount_after k.amount (length (joined runs.0))) c.requires.none }

pub returns-in-Spent : goal.returns-in-Spent
returns-in-Spent c =
    let ran = c.in-Spent.ensures.ran in
    let runs = counted c.args.image.now c.args.program.now c.args.limits [] c.requires.implements c.requires.fits 1000000000000 c.args.machine.now c.requires.fresh _ _ _ None ran.0 ran.1 in
    record { printed = runs.0; runs = runs.1; counted = runs.2 ∙ ap (λ (k : Counted). amount_after k.amount (length (joined runs.0))) c.requires.none }

pub unreachable-requires : goal.unreachable-requires
unreachable-requires c = never_fails 1000000000000 c.args.machine.now _ _ _ c.requires.fresh.sound c.in-WriteFault.ensures.ran

pub unreachable-requires-in-Trap : goal.unreachable-requires-in-Trap
unreachable-requires-in-Trap c =
    no_trap c.args.image.now c.args.program.now c.args.limits [] c.requires.implements c.requires.fits 1000000000000 c.args.machine.now c.requires.fresh _ _ _ _ c.in-Trap.ensures.ran
