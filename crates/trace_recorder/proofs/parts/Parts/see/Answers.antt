use Rattle.std.proofs.Common.{◌≡◌, ◌≤◌, None, Some, refl, length, ap, sym, ◌∙◌}
use Rattle.std.proofs.lemmas.Bool.{ltb-false}
use Rattle.bril_interpreter.specs.Interpreter.{state_of}
use Rattle.trace_recorder.specs.Kept.{view_of}
use Rattle.trace_recorder.specs.Sight.{sight}
use Rattle.trace_recorder.proofs.Following.{none_seen}
use Rattle.trace_recorder.proofs.Keeping.{sound_counted}
use Rattle.trace_recorder.proofs.Seeing.{counted_on, quiet}
use Rattle.trace_recorder.proofs.parts.Parts.see.Goals as goal

pub returns-in_default-clause-seen : goal.returns-in_default-clause-seen
returns-in_default-clause-seen c =
    let P = c.args.now.now.checked.prog in
    let st = state_of c.args.now.now in
    let p = c.args.self.now.paths in
    let all : length c.args.self.now.paths.held.items ≤ c.args.self.now.paths.front = ltb-false c.args.self.now.paths.front (length c.args.self.now.paths.held.items) (sym c.are_open.ensures ∙ c.if-not-are_open.true) in
    record {
      ok = λ hot most run stands.
          quiet P (view_of c.args.self.now) hot most run stands c.requires.hot st (sym c.arrival_at-arrival.ensures ∙ c.in_default.is)
          (none_seen (sight P st) p.log.items p.items p.laid p.front p.held.items c.requires.paths.ended all);
      err = tt;
      memory = tt;
    }

pub returns-then-only_counts-clause-seen : goal.returns-then-only_counts-clause-seen
returns-then-only_counts-clause-seen c =
    let P = c.args.now.now.checked.prog in
    let st = state_of c.args.now.now in
    let p = c.args.self.now.paths in
    let r = view_of c.args.self.now in
    let all : length c.args.self.now.paths.held.items ≤ c.args.self.now.paths.front = ltb-false c.args.self.now.paths.front (length c.args.self.now.paths.held.items) (sym c.are_open.ensures ∙ c.if-not-are_open.true) in
    record {
      ok = λ hot most run stands.
          counted_on P r (view_of c.count.new.self) st (Some c.in-Some.label) (sym c.in-Some.is ∙ c.arrival_at-arrival.ensures) c.requires.hot c.if-only_counts.ensures.0 c.if-only_counts.ensures.1
          (none_seen (sight P st) p.log.items p.items p.laid p.front p.held.items c.requires.paths.ended all)
          (ap view_of c.count.ensures.rest ∙ ap (λ counts. record (view_of c.args.self.now) { counts = counts }) c.count.ensures.counts)
          hot most run stands;
      err = tt;
      memory = tt;
    }

pub returns-then-only_counts-clause-sound : goal.returns-then-only_counts-clause-sound
returns-then-only_counts-clause-sound c =
    sound_counted c.args.self.now c.count.new.self None None (Some c.in-Some.label) c.requires c.count.ensures.rest c.count.ensures.counts c.count.ensures.numbers refl (λ t e. absurd (let n : None ≡ Some t = e in cc))
