use Rattle.std.proofs.Common.{map, ap, sym, subst, ◌∙◌}
use Rattle.std.specs.List.{All}
use Rattle.std.proofs.lemmas.Result.{on_ok_weaker}
use Rattle.bril_interpreter.specs.Interpreter.{state_of}
use Rattle.trace_recorder.specs.Passings.{passing_of}
use Rattle.trace_recorder.specs.Recorded.{no_counts}
use Rattle.trace_recorder.specs.Sight.{sight}
use Rattle.trace_recorder.specs.Kept.{paths_view}
use Rattle.trace_recorder.specs.Standing.{Held, seeing}
use Rattle.trace_recorder.specs.Kept.{IsNumbered}
use Rattle.trace_recorder.proofs.Finding.{label_numbered}
use Rattle.trace_recorder.proofs.Following.{IsPlaced, arrival_placed, held_each, none_own, shown}
use Rattle.trace_recorder.proofs.parts.Parts.follow.Goals as goal

pub returns-in-None-clause-view : goal.returns-in-None-clause-view
returns-in-None-clause-view c =
    let P = c.args.now.now.checked.prog in
    let st = state_of c.args.now.now in
    let p = c.args.self.now.paths in
    on_ok_weaker c.pass.result
    (λ h hot most run stands. h (sight P st) (c.at.ensures ∙ ap passing_of c.seen_at.ensures)
    (none_own P st p.log.items p.items p.laid p.held.items (subst (All (λ (h : Held). IsPlaced P h.place)) (sym stands.held) (held_each P hot (IsPlaced P) (arrival_placed P) run no_counts)) (sym c.requires.arrival ∙ c.in-None.is)))
    c.pass.ensures.view

pub returns-in-Some-clause-view : goal.returns-in-Some-clause-view
returns-in-Some-clause-view c = λ hot most run stands.
    let P = c.args.now.now.checked.prog in
    let st = state_of c.args.now.now in
    let p = c.args.self.now in
    let a = c.in-Some.arrival in
    let here = sym c.requires.arrival ∙ c.in-Some.is in
    let at = shown (sight P st) a here in
    c.arrive.ensures.view (subst (λ n. IsNumbered a n 1 p.paths.held.items) (sym c.count_at-number.ensures) (label_numbered p P hot most run c.requires.sound stands st a here)) at.at at.function at.point at.over
    ∙ ap (λ o. map (seeing o) (paths_view p.paths)) (sym at.is)
