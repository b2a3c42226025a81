use Rattle.std.proofs.Common.{◌++◌, ◌∙◌, List, map, sym, ap}
use Rattle.std.specs.Prelude.{slice_get}
use Rattle.trace_laws.specs.lines.Lines.{bool_type, trace_lines}
use Rattle.trace_laws.specs.lines.Names.{trace_name}
use Rattle.trace_paths.specs.Walked.{leg_of}
use Rattle.trace_paths.specs.declared.walk.Leg as kept
use Rattle.trace_stitcher.specs.Stops.{put_stop}
use Rattle.trace_stitcher.proofs.Stopping.{guard-names, stop-name}
use Rattle.trace_stitcher.proofs.traces.trace_of.Goals as goal

pub returns-clause-lines : goal.returns-clause-lines
returns-clause-lines c = λ names are.
    let labels = c.args.function.now.labels.now in
    let variables = c.args.function.now.variables.now in
    let code = c.args.function.now.code.now in
    let K = c.args.number in
    let at = c.args.fit.now.path.stop in
    let base = c.in_ok-base in
    c.in_ok-lines.ensures names
    (guard-names labels variables code K at names are base.base.items c.in_ok-bail.bail (base.ensures.is ∙ ap (λ r. trace_name K ++ r) c.as_slice.ensures) c.in_ok-bail.ensures)
    (stop-name labels variables code K at names are c.in_ok-stop.stop c.in_ok-stop.ensures)
    ∙ ap (λ (l : List kept.Leg). trace_lines bool_type (slice_get code) names (map leg_of l)) c.as_slice-legs.ensures.value

pub returns-clause-stop : goal.returns-clause-stop
returns-clause-stop c = λ names are.
    let code = c.args.function.now.code.now in
    let at = c.args.fit.now.path.stop in
    c.put_label.ensures ∙ ap (put_stop (slice_get code at)) (sym (stop-name c.args.function.now.labels.now c.args.function.now.variables.now code c.args.number at names are c.in_ok-stop.stop c.in_ok-stop.ensures))
