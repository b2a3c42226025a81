use Rattle.std.proofs.Common.{◌≡◌, List, length, ap, sym, subst, ◌∙◌}
use Rattle.std.specs.Prelude.{slice_get}
use Rattle.std.specs.List.{All}
use Rattle.std.proofs.lemmas.List.Elements.{All-push}
use Rattle.trace_stitcher.specs.declared.matching.surveys.Survey.{Survey}
use Rattle.trace_stitcher.specs.matching.Surveys.{IsSurvey}
use Rattle.trace_stitcher.proofs.lemmas.matching.Surveying.{last-is, read-there, shaped-there, survey-there}
use Rattle.trace_stitcher.proofs.matching.surveys.surveyed.Goals as goal

pub survey_of-requires-clause-shaped : goal.survey_of-requires-clause-shaped
survey_of-requires-clause-shaped c =
    let P = c.args.prog.now in
    let F = c.index-as_slice-function.result in
    shaped-there P c.args.function F c.requires.accepted (read-there P c.as_slice-then-place-len.result.now c.args.function F c.as_slice-then-place-len.ensures c.requires.there c.index-as_slice-function.is)

pub returns-in_ok-push-clause-surveys : goal.returns-in_ok-push-clause-surveys
returns-in_ok-push-clause-surveys c =
    let P = c.args.prog.now in
    let F = c.index-as_slice-function.result in
    let there = read-there P c.as_slice-then-place-len.result.now c.args.function F c.as_slice-then-place-len.ensures c.requires.there c.index-as_slice-function.is in
    let made = c.in_ok-survey_of in
    subst (All (IsSurvey P)) (sym c.in_ok-push.ensures.items)
    (All-push (IsSurvey P) c.args.surveys.now.items made.field-0 c.requires.surveys (survey-there P c.args.function F made.field-0 there made.ensures.function made.ensures.survey))

pub returns-in_ok-push-clause-is : goal.returns-in_ok-push-clause-is
returns-in_ok-push-clause-is c = λ s at.
    let made = c.in_ok-survey_of in
    let last : c.place_of-place.result ≡ length c.args.surveys.now.items = c.if-place-len.true ∙ c.len.ensures ∙ c.args.surveys.now.ok.0 in
    ap (λ (z : Survey). z.function) (sym (last-is c.args.surveys.now.items made.field-0 s c.place_of-place.result last (ap (λ (zs : List Survey). slice_get zs c.place_of-place.result) (sym c.in_ok-push.ensures.items) ∙ at))) ∙ made.ensures.function
