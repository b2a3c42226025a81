use Rattle.std.proofs.Common.{◌<◌, ◌∙◌, length, get_or, sym, subst, length-set, true}
use Rattle.live_sets.proofs.Sets.{more-marked}
use Rattle.live_sets.proofs.marked.marks_of.Goals as goal

pub loop-point-preserved : goal.loop-point-preserved
loop-point-preserved c =
    let marks = c.loop-point.marks.items in
    let found = c.args.found.now in
    let i = c.loop-point.point-index in
    let inv = c.loop-point.invariant in
    let low : get_or found i 0 < length marks = subst (λ n. get_or found i 0 < n) (sym inv.long) (c.requires i 0 c.loop-point-test.true) in
    record {
      long = length-set marks (get_or found i 0) true ∙ inv.long;
      marked = more-marked marks found i c.loop-point-test.true low inv.marked;
    }
