-- The text of the profile was put and handed on, or one of the two failed.
use Rattle.std.proofs.Common.{[], ◌∷◌, ◌∙◌, refl, ap, inl, inr}
use Rattle.std.proofs.lemmas.Result.{err_from_is_err_and}
use Rattle.bril_outside.proofs.SinkWrites.{PutSome-one}
use Rattle.bril_report.proofs.Puts.{PutsAll-one}
use Rattle.profile_text.specs.Form.{profile_text}
use Rattle.profile_text.specs.declared.version.Version.TheVariants.{Second}
use Rattle.bril_commands.proofs.Works.{Works-ended}
use Rattle.bril_commands.specs.commands.Record.{ShowsProfile, recorded_run}
use Rattle.bril_commands.proofs.commands.recording.put_run.Goals as goal

pub returns-in_err-put : goal.returns-in_err-put
returns-in_err-put g c =
    let e = err_from_is_err_and c.from_residual-in_err-put.result c.from_residual-in_err-put.ensures.1 in
    let settings = c.args.settings in
    let run = c.in_ok-run in
    let failed = rw c.as_slice.ensures at c.in_err-put.ensures.err in
    let shows : ShowsProfile c.args.checked.now.prog c.args.values.now settings.limits.frames settings.limits.cells settings.steps settings.hot settings.most run.run'.ended (c.in_ok-text.text ∷ []) =
    record { limits = settings.limits; frames_are = refl; cells_are = refl; ends = run.ensures.ended; text = ap (λ l. l ∷ []) (c.in_ok-text.ensures ∙ ap (profile_text Second) run.ensures.profile) } in
    rw (e.1, e.2) (refl, inl (record { ended = run.run'.ended; told = []; output = c.in_ok-text.text ∷ []; shows = (refl, shows); took = inl (PutSome-one failed.0 c.in_err-put.ensures.times failed.1) }))

pub returns-in_err-hand_on : goal.returns-in_err-hand_on
returns-in_err-hand_on g c =
    let e = err_from_is_err_and c.from_residual-in_err-hand_on.result c.from_residual-in_err-hand_on.ensures.1 in
    let settings = c.args.settings in
    let run = c.in_ok-run in
    let took = rw c.as_slice.ensures at c.in_ok-put.ensures.ok in
    let shows : ShowsProfile c.args.checked.now.prog c.args.values.now settings.limits.frames settings.limits.cells settings.steps settings.hot settings.most run.run'.ended (c.in_ok-text.text ∷ []) =
    record { limits = settings.limits; frames_are = refl; cells_are = refl; ends = run.ensures.ended; text = ap (λ l. l ∷ []) (c.in_ok-text.ensures ∙ ap (profile_text Second) run.ensures.profile) } in
    rw (e.1, e.2) (
      refl,
      inl (record {
        ended = run.run'.ended;
        told = [];
        output = c.in_ok-text.text ∷ [];
        shows = (refl, shows);
        took = inr (record { between = _; puts = PutsAll-one took c.in_ok-put.ensures.times; flushed = c.in_err-hand_on.ensures.kept; rose = c.in_err-hand_on.ensures.err });
      }),
    )

pub returns : goal.returns
returns g c =
    let settings = c.args.settings in
    let run = c.in_ok-run in
    let took = rw c.as_slice.ensures at c.in_ok-put.ensures.ok in
    let shows : ShowsProfile c.args.checked.now.prog c.args.values.now settings.limits.frames settings.limits.cells settings.steps settings.hot settings.most run.run'.ended (c.in_ok-text.text ∷ []) =
    record { limits = settings.limits; frames_are = refl; cells_are = refl; ends = run.ensures.ended; text = ap (λ l. l ∷ []) (c.in_ok-text.ensures ∙ ap (profile_text Second) run.ensures.profile) } in
    let o = recorded_run c.args.checked.now.prog c.args.values.now settings.limits.frames settings.limits.cells settings.steps settings.hot settings.most in
    rw c.answer.ensures (Works-ended o run.run'.ended [] _ _ (record {
      output = c.in_ok-text.text ∷ [];
      shows = (refl, shows);
      took = record { between = _; puts = PutsAll-one took c.in_ok-put.ensures.times; flushed = c.in_ok-hand_on.ensures.kept; out = c.in_ok-hand_on.ensures.ok };
    }))
