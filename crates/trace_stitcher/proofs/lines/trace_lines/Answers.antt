use Rattle.std.proofs.Common.{◌++◌, ◌∷◌, [], ◌∙◌, map, ap}
use Rattle.std.specs.Prelude.{slice_get}
use Rattle.trace_paths.specs.Walked.{leg_of}
use Rattle.trace_stitcher.proofs.Legs.{trace-whole}
use Rattle.trace_stitcher.proofs.lines.trace_lines.Goals as goal

pub returns : goal.returns
returns c = λ names are stop.
    trace-whole (slice_get c.args.code.now) names (map leg_of c.args.legs.now) c.push.new.self c.push_legs.new.lines c.push-2.new.self c.push-3.new.self c.push-4.new.self c.args.bail c.args.stop.now are.bail stop
    (c.in_ok-push.ensures.ok ∙ (λ i. c.new-lines.ensures i ++ c.plain.ensures i ∷ []))
    (c.in_ok-push_legs.ensures names are)
    (c.in_ok-push-2.ensures.ok ∙ ap (λ a. c.push_legs.new.lines ++ a ∷ []) c.plain-2.ensures)
    (c.in_ok-push-3.ensures.ok ∙ ap (λ a. c.push-2.new.self ++ a ∷ []) c.in_ok-jmp.ensures)
    c.in_ok-push-4.ensures.ok
