use Rattle.std.proofs.Common.{◌≡◌, ◌≤◌, length, map, sym, ap, subst, ◌∙◌, arith}
use Rattle.std.specs.List.{All}
use Rattle.bril_profile.specs.declared.profile.Entry.{Entry}
use Rattle.trace_paths.specs.Fits.{count_of}
use Rattle.trace_paths.specs.Taken.{taken}
use Rattle.trace_recorder.specs.Standing.{entry_of, entries_of}
use Rattle.trace_recorder.specs.Kept.{view_of}
use Rattle.trace_recorder.proofs.Ranking.{All-taken, length-first, made_short, made_counted}
use Rattle.trace_recorder.proofs.Seeing.{profile_of}
use Rattle.trace_recorder.proofs.recorder.Recorder.into_profile.Goals as goal

pub invariant_of-result : goal.invariant_of-result
invariant_of-result c =
    let p = c.self.inside.parts.paths in
    let r = view_of c.self.inside.parts in
    let is : c.of_items.result ≡ entries_of (view_of c.self.inside.parts) = c.of_items.ensures ∙ c.in_ok-entries.ensures in
    let made = map (entry_of r.counts) r.held in
    let few = length-first r.most (taken count_of made) in
    let same : length c.of_items.result ≡ length (entries_of (view_of c.self.inside.parts)) = ap length is in
    record {
      few = (let most = c.self.invariant.most in omega arith);
      short = subst (All (λ (e : Entry). length e.choices ≤ 256)) (sym is)
          (All-taken (λ (e : Entry). length e.choices ≤ 256) count_of r.most made (made_short r.counts p.log.items p.items p.laid p.held.items c.self.invariant.paths.kept));
      counted = subst (All (λ (e : Entry). 1 ≤ e.count)) (sym is) (All-taken (λ (e : Entry). 1 ≤ e.count) count_of r.most made (made_counted r.counts r.held));
    }

pub returns : goal.returns
returns c = λ P hot most run stands. c.of_items.ensures ∙ c.in_ok-entries.ensures ∙ ap entries_of c.self.view_is ∙ profile_of c.args.self P hot most run stands
