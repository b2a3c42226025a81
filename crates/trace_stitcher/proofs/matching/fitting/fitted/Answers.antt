use Rattle.std.proofs.Common.{List, Bool, Option, Some, sym, subst}
use Rattle.std.specs.List.{Contains}
use Rattle.std.proofs.lemmas.Result.{IfOk-weaker}
use Rattle.bril_names.specs.Numbering.{Finds}
use Rattle.bril_tree.specs.Step.{point_of}
use Rattle.trace_stitcher.specs.declared.matching.fitting.Fitting.{Fitting}
use Rattle.trace_stitcher.specs.matching.Fitting.{IsFoundAt}
use Rattle.trace_stitcher.proofs.lemmas.matching.Entries.{found-there, no-label}
use Rattle.trace_stitcher.proofs.lemmas.matching.Surveying.{named-there, shaped-named, survey-read}
use Rattle.trace_stitcher.proofs.matching.fitting.fitted.Goals as goal

pub returns-in_default-label_named-clause-found : goal.returns-in_default-label_named-clause-found
returns-in_default-label_named-clause-found c =
    let P = c.args.prog.now in
    let e = c.args.entry.now in
    let f = c.in-Some.function in
    let F = c.index-funcs-function.result in
    let t = named-there P c.as_slice-funcs.result.now e.func f F c.as_slice-funcs.ensures c.in-Some.ensures c.index-funcs-function.is in
    no-label P e c.args.found.now f F t.1 t.0.0 t.0.1 (λ among. c.in_default-label_named.ensures (subst (λ ls. Contains ls e.label) (sym c.as_slice.ensures) among))

pub fitting_at-requires-clause-shaped : goal.fitting_at-requires-clause-shaped
fitting_at-requires-clause-shaped c =
    shaped-named c.args.prog.now c.as_slice-funcs.result.now c.args.entry.now.func c.in-Some.function c.index-funcs-function.result c.as_slice-funcs.ensures c.in-Some.ensures c.index-funcs-function.is c.requires.accepted

pub fitting_at-requires-clause-survey : goal.fitting_at-requires-clause-survey
fitting_at-requires-clause-survey c =
    (survey-read c.args.prog.now c.as_slice-funcs.result.now c.args.entry.now.func c.in-Some.function c.index-funcs-function.result c.as_slice-funcs.ensures c.in-Some.ensures c.index-funcs-function.is
    c.surveyed.new.surveys.items c.in_ok-place.place c.index.result.now c.in_ok-place.ensures.surveys c.in_ok-place.ensures.within c.in_ok-place.ensures.is c.index.ensures).1

pub returns-clause-found : goal.returns-clause-found
returns-clause-found c =
    let P = c.args.prog.now in
    let e = c.args.entry.now in
    let f = c.in-Some.function in
    let F = c.index-funcs-function.result in
    let t = named-there P c.as_slice-funcs.result.now e.func f F c.as_slice-funcs.ensures c.in-Some.ensures c.index-funcs-function.is in
    let survey = survey-read P c.as_slice-funcs.result.now e.func f F c.as_slice-funcs.ensures c.in-Some.ensures c.index-funcs-function.is c.surveyed.new.surveys.items c.in_ok-place.place c.index.result.now c.in_ok-place.ensures.surveys c.in_ok-place.ensures.within c.in_ok-place.ensures.is c.index.ensures in
    let l = c.in-Some-label_named.label in
    let label : Finds F.labels e.label (Some l) = subst (λ ls. Finds ls e.label (Some l)) c.as_slice.ensures c.in-Some-label_named.ensures in
    IfOk-weaker c.fitting_at.result _ _
    (λ (o : Option Fitting) h. found-there P e c.args.found.now f F t.1 t.0.0 t.0.1 l label.0 label.1 o
    (subst (λ (cs : List Bool). IsFoundAt F.code f (point_of l F.code) cs c.args.found.now o) c.as_slice-choices.ensures
    (subst (λ n. IsFoundAt F.code n (point_of l F.code) c.as_slice-choices.result.now c.args.found.now o) survey.0 h)))
    c.fitting_at.ensures
