use Rattle.std.proofs.Common.{◌≡◌, sym, ap, subst, ◌∙◌}
use Rattle.std.specs.Option.{option_map}
use Rattle.bril_checker.specs.Checked.{CheckedView}
use Rattle.bril_interpreter.specs.Interpreter.{state_of}
use Rattle.trace_recorder.specs.Counts.{IsPlaceOf}
use Rattle.trace_recorder.specs.Kept.{view_of, begun_held, counts_in, numbers_in}
use Rattle.trace_recorder.specs.Sight.{sight}
use Rattle.trace_recorder.specs.Standing.{StandsFor, begins}
use Rattle.trace_recorder.proofs.Counting.{place_of}
use Rattle.trace_recorder.specs.declared.parts.Parts.{Parts}
use Rattle.trace_recorder.specs.Counts.{counted_at, counts_from}
use Rattle.trace_recorder.specs.Standing.{RecorderView}
use Rattle.trace_recorder.proofs.Keeping.{first_none, has_tables, sound_counted}
use Rattle.trace_recorder.proofs.Seeing.{begins_is, begun_so, seeing_on, seen_so}
use Rattle.trace_recorder.proofs.parts.Parts.see_all.Goals as goal

pub named_if_hot-requires-clause-place : goal.named_if_hot-requires-clause-place
named_if_hot-requires-clause-place c = λ a e.
    let same : c.prog-prog.result.now ≡ c.args.now.now.checked.prog = c.prog-prog.ensures.value ∙ ap (λ (z : CheckedView). z.prog) c.prog.ensures in
    subst (λ P. IsPlaceOf P a) (sym same) (place_of c.args.now.now.checked.prog (state_of c.args.now.now) a (sym c.requires.arrival ∙ e))

pub hold-requires-clause-sound : goal.hold-requires-clause-sound
hold-requires-clause-sound c =
    let before : counts_in c.follow.new.self.tables ≡ counts_in c.args.self.now.tables = ap (λ (p : Parts). counts_in p.tables) c.in_ok-follow.ensures.rest ∙ ap (λ (r : RecorderView). r.counts) c.in_ok-named.ensures.view in
    sound_counted c.follow.new.self c.count.new.self (option_map counts_in c.in_ok-first.first) (option_map numbers_in c.in_ok-first.first) c.args.arrival c.in_ok-follow.ensures.sound c.count.ensures.rest
    c.count.ensures.counts c.count.ensures.numbers c.in_ok-first.ensures.numbers
    (λ t e. before ∙ first_none c.prog-prog.result.now (counts_in c.args.self.now.tables) (option_map counts_in c.in_ok-first.first) c.in_ok-first.ensures.first t e)

pub hold-requires-clause-tables : goal.hold-requires-clause-tables
hold-requires-clause-tables c =
    let same : c.prog-prog.result.now ≡ c.args.now.now.checked.prog = c.prog-prog.ensures.value ∙ ap (λ (z : CheckedView). z.prog) c.prog.ensures in
    let before : counts_in c.follow.new.self.tables ≡ counts_in c.args.self.now.tables = ap (λ (p : Parts). counts_in p.tables) c.in_ok-follow.ensures.rest ∙ ap (λ (r : RecorderView). r.counts) c.in_ok-named.ensures.view in
    has_tables c.prog-prog.result.now (counts_in c.args.self.now.tables) (option_map counts_in c.in_ok-first.first) c.args.arrival (begins (view_of c.args.self.now) c.args.arrival) c.in_ok-named.named (counts_in c.count.new.self.tables)
    c.in_ok-first.ensures.first (c.count.ensures.counts ∙ ap (λ x. counted_at (counts_from (option_map counts_in c.in_ok-first.first) x) c.args.arrival) before) c.in_ok-named.ensures.named
    (λ b e. subst (λ P. IsPlaceOf P b) (sym same) (place_of c.args.now.now.checked.prog (state_of c.args.now.now) b (sym c.requires.arrival ∙ begins_is (view_of c.args.self.now) c.args.arrival b e)))

pub returns-clause-seen : goal.returns-clause-seen
returns-clause-seen c =
    let P = c.args.now.now.checked.prog in
    let st = state_of c.args.now.now in
    let r = view_of c.args.self.now in
    let first = option_map counts_in c.in_ok-first.first in
    let same : c.prog-prog.result.now ≡ c.args.now.now.checked.prog = c.prog-prog.ensures.value ∙ ap (λ (z : CheckedView). z.prog) c.prog.ensures in
    record {
      ok = λ hot most run stands.
          seeing_on P c.prog-prog.result.now r (view_of c.hold.new.self) st first c.args.arrival (begun_held c.in_ok-named.named) hot most run same c.requires.arrival c.requires.sound.hot c.in_ok-first.ensures.first
          (begun_so c.prog-prog.result.now (begins r c.args.arrival) c.in_ok-named.named c.in_ok-named.ensures.named)
          (seen_so (sight P st) first c.args.arrival (begun_held c.in_ok-named.named) r (view_of c.named_if_hot.new.self) (view_of c.follow.new.self) (view_of c.count.new.self) (view_of c.hold.new.self)
          (view_of c.follow.new.self).held (view_of c.count.new.self).counts
          c.in_ok-named.ensures.view (ap view_of c.in_ok-follow.ensures.rest)
          (c.in_ok-follow.ensures.view hot most run (subst (λ v. StandsFor v P hot most run) (sym c.in_ok-named.ensures.view) stands))
          (ap view_of c.count.ensures.rest) c.count.ensures.counts c.hold.ensures.view)
          stands;
      err = tt;
      memory = tt;
    }
