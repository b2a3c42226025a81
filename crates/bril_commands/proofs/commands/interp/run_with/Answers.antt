-- The steps were made and what was put was handed on, or one of the two failed.
use Rattle.std.proofs.Common.{refl, ap, inl}
use Rattle.std.proofs.lemmas.Result.{err_from_is_err_and}
use Rattle.bril_checker.specs.Checked.{CheckedView}
use Rattle.bril_commands.proofs.Works.{Shows-flushed, Shows-unflushed, Works-ended}
use Rattle.bril_commands.proofs.commands.interp.run_with.Goals as goal
use Rattle.bril_commands.specs.commands.Interp.{interpreted}

pub make_steps-requires : goal.make_steps-requires
make_steps-requires g c = rw c.prog.ensures.value (record {
  state = c.in-Ok.ensures.state;
  of_program = ap (λ (k : CheckedView). k.prog) c.in-Ok.ensures.checked;
  under = c.in-Ok.ensures.limits;
  sound = c.in-Ok.ensures.sound;
})

pub returns-in_default : goal.returns-in_default
returns-in_default g c = (refl, inl refl)

pub returns-in_err-ended : goal.returns-in_err-ended
returns-in_err-ended g c =
    let e = err_from_is_err_and c.from_residual.result c.from_residual.ensures.1 in
    rw (e.1, e.2) (rw c.prog.ensures.value at c.in_err-ended.ensures.err)

pub returns-in_err-hand_on : goal.returns-in_err-hand_on
returns-in_err-hand_on g c =
    let e = err_from_is_err_and c.from_residual-in_err-hand_on.result c.from_residual-in_err-hand_on.ensures.1 in
    let o = interpreted c.args.checked.now.prog c.args.values.now c.args.settings.limits.frames c.args.settings.limits.cells c.args.settings.steps in
    let put = rw c.prog.ensures.value at c.in_ok-ended.ensures.ok in
    rw (e.1, e.2) (refl, inl (Shows-unflushed o put c.in_err-hand_on.ensures.kept c.in_err-hand_on.ensures.err))

pub returns : goal.returns
returns g c =
    let o = interpreted c.args.checked.now.prog c.args.values.now c.args.settings.limits.frames c.args.settings.limits.cells c.args.settings.steps in
    let put = rw c.prog.ensures.value at c.in_ok-ended.ensures.ok in
    rw c.answer.ensures (Works-ended o c.in_ok-ended.ended _ _ _ (Shows-flushed o put c.in_ok-hand_on.ensures.kept c.in_ok-hand_on.ensures.ok))
