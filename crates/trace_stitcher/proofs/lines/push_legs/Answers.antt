use Rattle.std.proofs.Common.{◌++◌, map}
use Rattle.std.specs.Prelude.{slice_get}
use Rattle.std.proofs.lemmas.List.{get_or_default}
use Rattle.trace_laws.specs.lines.Lines.{bool_type, leg_lines}
use Rattle.trace_paths.specs.Walked.{leg_of}
use Rattle.trace_stitcher.proofs.Legs.{few-more, legs-all, legs-step}
use Rattle.trace_stitcher.proofs.lines.push_legs.Goals as goal

pub loop-leg-preserved : goal.loop-leg-preserved
loop-leg-preserved c =
    let k = c.loop-leg.leg-index in
    let n = c.loop-leg.nots in
    let next = c.in_ok-nots.nots in
    let inv = c.loop-leg.invariant in
    record {
      few = few-more n k next _ inv.few c.in_ok-nots.ensures.next;
      same = λ names are. legs-step (slice_get c.args.source.now.code.now) names c.loop-leg.lines c.push_leg.new.lines (c.args.lines.now ++ leg_lines bool_type (slice_get c.args.source.now.code.now) names 0 (map leg_of c.args.legs.now)) c.args.legs.now k n next _ c.loop-leg-test.true (get_or_default c.args.legs.now k _ _ c.loop-leg-test.true)
          c.in_ok-nots.ensures.next (c.in_ok-nots.ensures.lines names are) (inv.same names are);
    }

pub returns : goal.returns
returns c = λ names are.
    legs-all (slice_get c.args.source.now.code.now) names c.loop-leg.lines (c.args.lines.now ++ leg_lines bool_type (slice_get c.args.source.now.code.now) names 0 (map leg_of c.args.legs.now)) c.args.legs.now c.loop-leg.leg-index c.loop-leg.nots c.loop-leg-test.false (c.loop-leg.invariant.same names are)
