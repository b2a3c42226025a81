use Rattle.std.proofs.Common.{◌++◌, ◌∙◌, sym, ap}
use Rattle.std.specs.Prelude.{slice_get}
use Rattle.trace_paths.specs.Walked.{leg_of}
use Rattle.trace_paths.specs.declared.walk.Leg as kept
use Rattle.trace_stitcher.specs.Legs.{one_leg}
use Rattle.trace_stitcher.proofs.lines.push_leg.Goals as goal

pub returns-in_ok-next-in-Choice-clause-lines : goal.returns-in_ok-next-in-Choice-clause-lines
returns-in_ok-next-in-Choice-clause-lines c = λ names are.
    c.in_ok-next-in-Choice.ensures.lines names are ∙ ap (λ (leg : kept.Leg). c.args.lines.now ++ one_leg (slice_get c.args.source.now.code.now) names c.args.nots (leg_of leg)) (sym c.in-Choice.is)
